use Rattle.std.proofs.Common.{arith}
use Rattle.counters.specs.Counts.{ceiling}
use Rattle.counters.specs.Lemmas.Counts.{counts_set}
use Rattle.counters.proofs.Shifts.{next_within, shift_made, shift_refused}
use Rattle.counters.proofs.bank.CounterBank.shift.Goals as goal

pub returns-then-not-in_range : goal.returns-then-not-in_range
returns-then-not-in_range c =
    let bank = c.args.self.now in
    let told = shift_refused bank.counts c.args.key c.args.by (bank.lawful.each c.args.key (omega arith)) c.requires.1 c.if-not-in_range.ensures in
    record { moves = told.0; counts = told.1 }

pub invariant_of-self : goal.invariant_of-self
invariant_of-self c =
    let bank = c.args.self.now in
    let within = next_within bank.counts c.args.key c.args.by (bank.lawful.each c.args.key (omega arith)) c.requires.1 c.if-not-in_range.ensures in
    record { lawful = counts_set ceiling bank.counts c.args.key _ bank.lawful within }

pub returns : goal.returns
returns c =
    let bank = c.args.self.now in
    let told = shift_made bank.counts c.args.key c.args.by (bank.lawful.each c.args.key (omega arith)) c.requires.1 c.if-not-in_range.ensures in
    record { moves = told.0; counts = told.1 }

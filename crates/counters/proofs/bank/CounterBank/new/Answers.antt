use Rattle.std.proofs.Common.{refl}
use lib.Signed.{le_z_yes}
use Rattle.counters.specs.Counts.{ceiling}
use Rattle.counters.specs.Lemmas.Counts.{zeros_counts}
use Rattle.counters.proofs.Withdrawals.{bank_withdrawals}
use Rattle.counters.proofs.bank.CounterBank.new.Goals as goal

pub invariant_of-result : goal.invariant_of-result
invariant_of-result c = record { lawful = zeros_counts ceiling (le_z_yes tt) }

pub returns : goal.returns
returns c = record { zero = refl; withdrawals = bank_withdrawals ceiling (le_z_yes tt) }

use Rattle.std.proofs.Common.{◌≡◌, arith, rules}
use Rattle.std.proofs.lemmas.Int.{ints, to_z-of_z}
use Rattle.std.specs.Int.{int_max, int_min}
use Rattle.counters.proofs.Spans.{by_bounds}
use Rattle.counters.proofs.span.Span.commutes.Goals as goal

pub returns-then-low-high : goal.returns-then-low-high
returns-then-low-high c =
    let m : c.max-low.result ≡ int_max c.args.self.low c.args.later.low = search (rules, to_z-of_z) in
    let k : c.min-high.result ≡ int_min c.args.self.high c.args.later.high = search (rules, to_z-of_z) in
    grind (arith, ints)

pub returns : goal.returns
returns c =
    by_bounds c.args.self c.args.later c.max-low.result c.min-high.result c.requires.0 c.requires.1 c.max-low.ensures.value c.min-high.ensures.value c.if-low-high.false

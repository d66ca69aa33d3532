use Rattle.std.proofs.Common.{sym, subst}
use Rattle.counters.specs.Counts.{ceiling}
use Rattle.counters.specs.Movements.{meant}
use Rattle.counters.specs.Bounds.{Bounded}
use Rattle.counters.specs.Lemmas.Movements.{sane}
use Rattle.counters.proofs.Spans.{run_bounded, withdrawal_bounded}
use Rattle.counters.proofs.span.commute.Goals as goal

pub commutes-requires : goal.commutes-requires
commutes-requires c =
    let p = c.args.earlier.now in
    let q = c.args.later.now in (
      subst (Bounded ceiling) (sym c.of_withdrawal.ensures) (withdrawal_bounded (meant ceiling p.operation) p.answer (sane ceiling p.operation)),
      subst (Bounded ceiling) (sym c.of_run.ensures) (run_bounded (meant ceiling q.operation) q.answer (sane ceiling q.operation)),
    )

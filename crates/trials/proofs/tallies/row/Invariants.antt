use Rattle.std.proofs.Common.{take}
use Rattle.trials.specs.Tallies.{Tallies}
use Rattle.trials.proofs.tallies.row.Given as goal

abbrev pub invariant-loop-j : goal.invariant-loop-j
invariant-loop-j g l = Tallies ((g.O.Object.kind (g.O.Object.fixed l.object)).tested l.earlier) (take l.j l.records) l.row

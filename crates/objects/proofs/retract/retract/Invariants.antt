use Rattle.objects.specs.Leads.{Passes}
use Rattle.objects.proofs.retract.retract.Given as goal

abbrev pub invariant-loop-i : goal.invariant-loop-i
invariant-loop-i g l = Passes (g.O.Object.kind (g.O.Object.fixed l.object)) l.earlier l.later l.i

use Rattle.std.proofs.Common.{◌≡◌}
use Rattle.objects.specs.Leads.{Leads}
use Rattle.samples.specs.Days.{standing_records}
use Rattle.samples.proofs.day.post_all.Given as goal

abbrev pub invariant-loop-i : goal.invariant-loop-i
invariant-loop-i g l =
    Leads (g.O.Object.kind (g.O.Object.fixed l.fn.object)) (g.O.Object.state l.fn.object) (standing_records l.postings.items) (g.O.Object.state l.object)
    × (g.O.Object.fixed l.object ≡ g.O.Object.fixed l.fn.object)

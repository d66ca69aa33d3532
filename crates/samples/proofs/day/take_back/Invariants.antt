use Rattle.std.proofs.Common.{◌≡◌}
use Rattle.samples.specs.Days.{Kept, StillLeads}
use Rattle.samples.proofs.day.take_back.Given as goal

abbrev pub invariant-loop-i : goal.invariant-loop-i
invariant-loop-i g l =
    Kept l.order l.fn.postings.items l.postings.items
    × StillLeads (g.O.Object.kind (g.O.Object.fixed l.fn.object)) l.fn.postings.items (g.O.Object.state l.fn.object) l.postings.items (g.O.Object.state l.object)
    × (g.O.Object.fixed l.object ≡ g.O.Object.fixed l.fn.object)

use Rattle.std.proofs.Common.{◌≡◌, take}
use Rattle.samples.specs.Days.{replayed, standing_records}
use Rattle.samples.proofs.day.replay.Given as goal

abbrev pub invariant-loop-posting : goal.invariant-loop-posting
invariant-loop-posting g l =
    (g.O.Object.state l.object ≡ replayed (g.O.Object.kind (g.O.Object.fixed l.fn.object)) (g.O.Object.state l.fn.object) (standing_records (take l.posting-index l.postings)))
    × (g.O.Object.fixed l.object ≡ g.O.Object.fixed l.fn.object)

use Rattle.std.proofs.Common.{take, map}
use Rattle.std.specs.List.{flat_map}
use Rattle.trials.specs.Tallies.{Tallies}
use Rattle.trials.proofs.tallies.tally_of.Given as goal

-- the tally so far is that of the earlier records so far, each with each
abbrev pub invariant-loop-i : goal.invariant-loop-i
invariant-loop-i g l = Tallies (λ (p, q). (g.O.Object.kind (g.O.Object.fixed l.object)).tested p q) (flat_map (λ p. map (λ q. (p, q)) l.records) (take l.i-counter l.records)) l.all

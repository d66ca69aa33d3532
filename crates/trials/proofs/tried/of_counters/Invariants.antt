use Rattle.std.proofs.Common.{◌≡◌, map, take}
use Rattle.trials.specs.Tried.{at_each}
use Rattle.trials.proofs.tried.of_counters.Given as goal

abbrev pub invariant-loop-count : goal.invariant-loop-count
invariant-loop-count l = map (λ s. s.items) l.states.items ≡ map (at_each l.keys 1) (take l.count-index l.counts)

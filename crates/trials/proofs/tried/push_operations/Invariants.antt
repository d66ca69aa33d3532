use Rattle.std.proofs.Common.{◌≡◌, ◌++◌, take}
use Rattle.trials.specs.Tried.{asked_each}
use Rattle.trials.proofs.tried.push_operations.Given as goal

abbrev pub invariant-loop-code : goal.invariant-loop-code
invariant-loop-code l = l.operations.items ≡ l.initial.operations.items ++ asked_each l.fn.place.0 l.fn.place.1 (take l.code-index l.codes) l.amounts

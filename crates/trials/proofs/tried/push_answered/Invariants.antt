use Rattle.std.proofs.Common.{◌≡◌, ◌++◌, take}
use Rattle.trials.specs.Tried.{answered_each}
use Rattle.trials.proofs.tried.push_answered.Given as goal

abbrev pub invariant-loop-operation : goal.invariant-loop-operation
invariant-loop-operation l = l.records.items ≡ l.initial.records.items ++ answered_each (take l.operation-index l.operations) l.answers

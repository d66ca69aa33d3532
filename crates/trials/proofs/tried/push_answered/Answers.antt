use Rattle.std.proofs.Common.{rules, arith, pos, get_or}
use Rattle.std.proofs.lemmas.Iterator.{YieldsList-from_map, YieldsList-from_slice}
use Rattle.std.proofs.lemmas.Iterator.Consumers.{YieldsList-at}
use Rattle.std.proofs.lemmas.Iterator.Adapters.{items_from_extend}
use Rattle.objects.specs.declared.records.Operation.{Operation}
use Rattle.objects.specs.Answers.{answered}
use Rattle.trials.proofs.Pushes.{pushed_more}
use Rattle.trials.proofs.tried.push_answered.Goals as goal

pub loop-operation-preserved : goal.loop-operation-preserved
loop-operation-preserved c =
    let none : Operation = record { code = 0; unit = 0; key = 0; amount = pos 0 } in
    let added = items_from_extend c.extend.result c.extend.ensures.ran (YieldsList-from_map _ (answered (get_or c.args.operations.now c.loop-operation.operation-index none)) (YieldsList-at c.map-answered.ensures.source (YieldsList-from_slice c.args.answers.now cc)) c.map-answered.ensures.closure (λ x r q k. search rules)) in
    pushed_more _ c.args.operations.now _ none _ _ _ (omega arith) c.loop-operation.invariant (rw c.in_ok-extend.was at added).0

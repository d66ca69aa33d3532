use Rattle.std.proofs.Common.{rules, arith, get_or}
use Rattle.std.proofs.lemmas.Iterator.{YieldsList-from_map, YieldsList-from_slice}
use Rattle.std.proofs.lemmas.Iterator.Consumers.{YieldsList-at}
use Rattle.std.proofs.lemmas.Iterator.Adapters.{items_from_extend}
use Rattle.trials.specs.Tried.{asked}
use Rattle.trials.proofs.Pushes.{pushed_more}
use Rattle.trials.proofs.tried.push_operations.Goals as goal

pub loop-code-preserved : goal.loop-code-preserved
loop-code-preserved c =
    let added = items_from_extend c.extend.result c.extend.ensures.ran (YieldsList-from_map _ (asked (get_or c.args.codes.now c.loop-code.code-index 0) c.args.place.0 c.args.place.1) (YieldsList-at c.map-asked.ensures.source (YieldsList-from_slice c.args.amounts.now cc)) c.map-asked.ensures.closure (λ x r q k. search rules)) in
    pushed_more _ c.args.codes.now _ 0 _ _ _ (omega arith) c.loop-code.invariant (rw c.in_ok-extend.was at added).0

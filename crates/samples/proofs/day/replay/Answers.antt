use Rattle.std.proofs.Common.{◌≡◌, length, ◌∙◌, ap, arith}
use Rattle.samples.specs.Days.{no_posting, posting_at}
use Rattle.samples.proofs.Days.{replayed_all, replayed_falls, replayed_stands}
use Rattle.samples.proofs.day.replay.Goals.{then-posting, else-posting}
use Rattle.samples.proofs.day.replay.Goals as goal

pub returns-clause-leads : goal.returns-clause-leads
returns-clause-leads g c t leads =
    let first = c.args.object.now in
    let ps = c.args.postings.now in
    let all : c.loop-posting.posting-index ≡ length ps = omega (arith, c.loop-posting.auto.posting-index-end, c.loop-posting-test.false) in
    replayed_all (g.O.Object.kind (g.O.Object.fixed first)) (g.O.Object.state first) (g.O.Object.state c.loop-posting.object) t ps c.loop-posting.posting-index all c.loop-posting.invariant.0 leads

pub loop-posting-preserved : goal.loop-posting-preserved
loop-posting-preserved g c =
    let state = g.O.Object.state in
    let kind = g.O.Object.kind in
    let first = c.args.object.now in
    let object = c.loop-posting.object in
    let ps = c.args.postings.now in
    let n = c.loop-posting.posting-index in
    let so = c.loop-posting.invariant in
    let k = kind (g.O.Object.fixed first) in
    elim c.if-posting.branch [
      | then-posting w ↦ (
        ap state w.object-is
            ∙ w.run.ensures.moves
            ∙ ap (λ f. ((kind f).ran (state object) (posting_at ps n).record.operation).1) so.1
            ∙ replayed_stands k (state first) (state object) ps n no_posting c.loop-posting-test.true so.0 w.if-posting.true,
        ap g.O.Object.fixed w.object-is ∙ w.run.ensures.keeps ∙ so.1,
      )
      | else-posting w ↦ (
        ap state w.object-is ∙ replayed_falls k (state first) (state object) ps n no_posting c.loop-posting-test.true so.0 w.if-posting.false,
        ap g.O.Object.fixed w.object-is ∙ so.1,
      )
    ]

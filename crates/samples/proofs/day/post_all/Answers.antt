use Rattle.std.proofs.Common.{refl, ◌∙◌, rules}
use Rattle.samples.proofs.Days.{leads_none, leads_posted}
use Rattle.samples.proofs.day.post_all.Goals as goal

pub loop-i-init : goal.loop-i-init
loop-i-init g c =
    let first = c.args.object.now in
    (leads_none (g.O.Object.kind (g.O.Object.fixed first)) (g.O.Object.state first) c.new-postings.result.items c.new-postings.ensures.items, refl)

pub loop-i-preserved : goal.loop-i-preserved
loop-i-preserved g c =
    let first = c.args.object.now in
    let object = c.loop-i.object in
    let after = c.post-posting.new.object in
    let ran = c.post-posting.ensures in
    let so = c.loop-i.invariant in (
      leads_posted g.O.Object.kind (g.O.Object.fixed first) (g.O.Object.fixed object) so.1 (g.O.Object.state first) (g.O.Object.state object) (g.O.Object.state after) c.loop-i.postings.items c.push.new.self.items c.post-posting.result (search rules) so.0 ran.ran ran.stands,
      ran.keeps ∙ so.1,
    )

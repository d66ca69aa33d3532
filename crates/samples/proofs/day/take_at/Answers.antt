use Rattle.samples.proofs.Days.{leads_at}
use Rattle.samples.proofs.day.take_at.Goals as goal

pub returns-clause-leads : goal.returns-clause-leads
returns-clause-leads g c =
    let object = c.args.object.now in
    leads_at (g.O.Object.kind (g.O.Object.fixed object)) (g.met.O.Object.laws object) c.args.postings.now.items c.deref.result.now c.args.i c.index.result.now _ _ _ c.requires.at c.index.ensures c.deref.ensures.value c.take_one.ensures.leads

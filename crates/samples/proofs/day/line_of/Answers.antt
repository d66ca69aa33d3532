use Rattle.std.proofs.Common.{rules, arith, filter}
use Rattle.std.proofs.lemmas.Grind.{common_steps}
use Rattle.std.proofs.lemmas.Option.{unwrap_or-slice_get}
use Rattle.std.proofs.lemmas.Iterator.{YieldsList-from_slice}
use Rattle.std.proofs.lemmas.Iterator.Consumers.{YieldsList-from_filter, nth_from_yields_List}
use Rattle.samples.specs.Days.{no_posting}
use Rattle.samples.proofs.day.line_of.Goals as goal

pub returns : goal.returns
returns c =
    let standing = filter (λ p. p.standing) c.args.postings.now in
    let found = nth_from_yields_List _ _ _ c.nth.ensures.ran (YieldsList-from_filter _ (λ p. p.standing) (YieldsList-from_slice c.args.postings.now cc) c.filter.ensures.closure (λ x r q k. search rules)) in
    grind (arith, common_steps, found, c.map_or.ensures, unwrap_or-slice_get standing c.args.at no_posting)

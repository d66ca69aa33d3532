use Rattle.std.proofs.Common.{◌≡◌, None, Some, ◌∙◌, subst, arith, rules}
use Rattle.std.proofs.lemmas.Grind.{common_steps}
use Rattle.maps.specs.Latest.{latest}
use Rattle.maps.specs.Lemmas.Latest.{latest_unique}
use Rattle.maps.proofs.days.DatedMap.latest.Goals as goal

-- a day up to the one asked for is one that the slice has, or past the last one there is
pub returns-in_err-at : goal.returns-in_err-at
returns-in_err-at c =
    let is : c.from_residual.result ≡ None = cc in
    is ∙ latest_unique c.args.self.now.days c.args.day None (λ e most. grind (arith, common_steps, c.in_err-at.ensures.none e))

pub returns : goal.returns
returns c =
    let s = c.args.self.now.days in
    let day = c.args.day in
    let at = c.in_ok-at.at in
    let value = c.in_ok-self.field-0 in
    let found = c.in_ok-at.ensures.some in
    subst (λ v. Some (at, v) ≡ latest s day) (search rules)
    (latest_unique s day (Some (at, value)) (grind (arith, common_steps, found.0), c.in_ok-self.was, λ f above most. grind (arith, common_steps, found.2 f)))

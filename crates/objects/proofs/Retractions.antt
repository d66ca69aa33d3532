-- The turns and ends of a retraction, apart from the code's own terms.
use Rattle.std.proofs.Common.{◌≡◌, ℕ, ◌<◌, ◌≤◌, Bool, true, false, List, length, get_or, is_some, Some, None, Option, unwrap_or, sym, refl, ap, ◌∙◌, subst, arith}
use Rattle.std.proofs.lemmas.List.{get_or_default}
use Rattle.std.proofs.lemmas.Bool.{both_ways}
use Rattle.objects.specs.declared.records.Record.{Record}
use Rattle.objects.specs.Kinds.{Kind, Laws, Runs}
use Rattle.objects.specs.Leads.{Leads, Passes}
use Rattle.objects.proofs.Carry.{carry_from_run}

pub none_left : {S : Type 0} (o : Option S) (s : S) → is_some o ≡ false → unwrap_or o s ≡ s
none_left None s e = refl
none_left (Some t) s e = absurd (both_ways true e refl)

module _ {S : Type 0} (k : Kind S) (p : Record) (rs : List Record) where
  -- what the test said of the record at i, whatever the list's default
  pub said : (i : ℕ) (d : Record) (b : Bool) → i < length rs → b ≡ k.tested p (get_or rs i d) → k.tested p (get_or rs i p) ≡ b
  said i d b h e = ap (k.tested p) (get_or_default rs i p d h) ∙ sym e

  pub all_pass : (i : ℕ) → length rs ≤ i → Passes k p rs i → Passes k p rs (length rs)
  all_pass i h passes j below = passes j (omega arith)

  module _ (laws : Laws k) (s : S) (passes : Passes k p rs (length rs)) where
    pub runs_on : (t : S) → t ≡ unwrap_or (k.withdrawn s p) s → (s₀ s₁ : S) → k.Lawful s₀ → Runs k s₀ p s₁ → Leads k s₁ rs s → Leads k s₀ rs t
    runs_on t e s₀ s₁ lawful runs leads =
        let on = carry_from_run laws lawful runs leads passes in
        subst (Leads k s₀ rs) (sym (e ∙ ap (λ o. unwrap_or o s) on.applies)) on.leads

    pub did_not_run : is_some (k.withdrawn s p) ≡ false → (s₀ s₁ : S) → k.Lawful s₀ → Runs k s₀ p s₁ → Leads k s₁ rs s → ⊥
    did_not_run e s₀ s₁ lawful runs leads =
        let on = carry_from_run laws lawful runs leads passes in both_ways _ e (ap is_some on.applies)

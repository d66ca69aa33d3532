-- Verdicts on pairs of records: one that is the test's says exactly whether the two commute, by the laws.
use Rattle.std.proofs.Common.{◌≡◌, Bool, true, List, [], ◌∷◌, sym, ◌∙◌}
use Rattle.std.specs.Prelude.{Decides}
use Rattle.std.specs.Bool.{beq}
use Rattle.std.specs.Cmp.{booleans_Decides}
use Rattle.std.specs.List.{All, AllByRecursion}
use Rattle.std.proofs.lemmas.Bool.{and_parts}
use Rattle.std.proofs.lemmas.List.Elements.{All-from_recursion}
use Rattle.std.specs.List.{list_all}
use Rattle.objects.specs.declared.records.Record.{Record}
use Rattle.objects.specs.Kinds.{Commutes, Kind, Laws}

pub judged : {S : Type 0} (k : Kind S) → Laws k → (p q : Record) (verdict : Bool) → beq (k.tested p q) verdict ≡ true → (k.tested p q ≡ verdict) × Decides verdict (Commutes k p q)
judged k laws p q verdict alike =
    let told : k.tested p q ≡ verdict = (booleans_Decides (k.tested p q) verdict).0 alike in
    (told, (λ says_yes. laws.sound p q (told ∙ says_yes), λ commutes. sym told ∙ laws.exact p q commutes))

-- what a test shows of each example of a list, where the whole list passes it
pub all_by_test : {E : Type 0} (right : E → Bool) (Holds : E → Type 0) → ((e : E) → right e ≡ true → Holds e) → (es : List E) → list_all right es ≡ true → All Holds es
all_by_test {E} right Holds holds es h = All-from_recursion Holds es (in_turn es h)
  where
    in_turn : (xs : List E) → list_all right xs ≡ true → AllByRecursion Holds xs
    in_turn [] e = tt
    in_turn (x ∷ xs) e = let both = and_parts (right x) (list_all right xs) e in (holds x both.0, in_turn xs both.1)

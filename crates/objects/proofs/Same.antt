-- The test of two answers tells whether they are equal.
use Rattle.std.proofs.Common.{◌≡◌, true, sym, ap, ◌∙◌, arith}
use Rattle.std.proofs.lemmas.Int.{ints}
use Rattle.std.proofs.lemmas.Bool.Decides.{nat_tests}
use Rattle.objects.specs.declared.records.Answer.{Answer}
use Rattle.objects.specs.Answers.{same}

pub same_refl : (a : Answer) → same a a ≡ true
same_refl a = grind (arith, ints, nat_tests)

answer_path : (a b : Answer) → a.tag ≡ b.tag → a.place ≡ b.place → a.value ≡ b.value → a ≡ b
answer_path a b tag place value = λ i. record { tag = tag i; place = place i; value = value i }

pub same_true : (a b : Answer) → same a b ≡ true → a ≡ b
same_true a b e =
    answer_path a b (grind (arith, ints, nat_tests)) (grind (arith, ints, nat_tests)) (grind (arith, ints, nat_tests))

-- a run that was answered so, by the case of its rule that gives this answer
pub picked : {S : Type 0} (z x : Answer × S) (a : Answer) (t : S) → z ≡ x → same a x.0 ≡ true → x.1 ≡ t → (z.0 ≡ a) × (z.1 ≡ t)
picked z x a t is answer ends = (ap (λ r. r.0) is ∙ sym (same_true a x.0 answer), ap (λ r. r.1) is ∙ ends)

-- What the days of a map hold.
use Rattle.std.specs.Prelude.{◌≡◌, ℕ, ◌<◌, true, List, length, ℤ, None, Option, slice_set}
use Rattle.std.proofs.Common.{ap, ◌∙◌, arith}
use Rattle.std.proofs.lemmas.List.{get_or-replicate, length-replicate, length-set}
use Rattle.std.proofs.lemmas.Int.{ints}
use Rattle.std.proofs.lemmas.Grind.{common_steps}
use Rattle.std.specs.Cmp.Lexicographic.{options_equiv}
use Rattle.std.proofs.lemmas.Cmp.{int_eq_equiv}
use Rattle.std.proofs.lemmas.Bool.Decides.{nat_tests}
use Rattle.maps.specs.Days.{Days, day_count, empty, fits, held, same_content}

pub empty_many : length empty ≡ day_count
unfolding empty
empty_many = length-replicate {A = Option ℤ} day_count None

pub empty_held : (d : ℕ) → d < day_count → held empty d ≡ None
unfolding empty
empty_held d h = get_or-replicate day_count d None None h

pub empty_days : Days empty
empty_days = record { many = empty_many; each = λ d h. ap fits (empty_held d h) }

pub set_days : (s : List (Option ℤ)) (d : ℕ) (v : Option ℤ) → Days s → fits v ≡ true → Days (slice_set s d v)
set_days s d v days right = record { many = length-set s d v ∙ days.many; each = λ e h. grind (arith, common_steps, days.each e h) }

pub same_same : (o : Option ℤ) → same_content o o ≡ true
same_same = (options_equiv int_eq_equiv).refl

pub same_is : (o p : Option ℤ) → same_content o p ≡ true → o ≡ p
same_is o p e = grind (arith, ints, nat_tests)

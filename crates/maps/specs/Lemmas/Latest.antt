-- The latest filled day is what the words say, and nothing else is.
use Rattle.std.specs.Prelude.{◌≡◌, ℕ, zero, suc, List, ℤ, Some, None, Option, refl}
use Rattle.std.proofs.Common.{arith}
use Rattle.maps.specs.Days.{held}
use Rattle.maps.specs.Latest.{IsLatest, latest, later}

module _ (s : List (Option ℤ)) where
  -- the first day, and one day more
  first : (c : Option ℤ) → held s 0 ≡ c → IsLatest s 0 (later 0 c None)
  first None is = λ e most. grind arith
  first (Some v) is = (omega arith, is, λ f above most. absurd (omega arith))

  next : (d : ℕ) (c : Option ℤ) → held s (suc d) ≡ c → (o : Option (ℕ × ℤ)) → IsLatest s d o → IsLatest s (suc d) (later (suc d) c o)
  next d (Some v) is o before = (omega arith, is, λ f above most. absurd (omega arith))
  next d None is None before = λ e most. grind (arith, before)
  next d None is (Some x) before = (omega arith, before.1, λ f above most. grind (arith, before.2))

  pub latest_right : (d : ℕ) → IsLatest s d (latest s d)
  latest_right zero = first (held s 0) refl
  latest_right (suc d) = next d (held s (suc d)) refl (latest s d) (latest_right d)

  same : (d : ℕ) (o p : Option (ℕ × ℤ)) → IsLatest s d o → IsLatest s d p → o ≡ p
  same d None None is it = refl
  same d None (Some y) is it = grind (arith, is y.0)
  same d (Some x) None is it = grind (arith, it x.0)
  same d (Some x) (Some y) is it = grind (arith, is.2 y.0, it.2 x.0)

  pub latest_unique : (d : ℕ) (o : Option (ℕ × ℤ)) → IsLatest s d o → o ≡ latest s d
  latest_unique d o is = same d o (latest s d) is (latest_right d)

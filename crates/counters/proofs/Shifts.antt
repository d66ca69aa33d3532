-- A move as the code makes it, in 64 bits.
use Rattle.std.proofs.Common.{◌≡◌, ℕ, Bool, true, false, cond, List, set, ℤ, ◌+ℤ◌, is_some, Some, None, unwrap_or, sym, ap, ◌∙◌, arith}
use Rattle.std.proofs.lemmas.Int.{ints}
use Rattle.counters.specs.Bank.{shifted}
use Rattle.counters.specs.Bounds.{Small}
use Rattle.counters.specs.Counts.{Within, ceiling, held, in_range, moved}
use Rattle.counters.proofs.Spans.{bits, small_sum}

abbrev pub next : List ℤ → ℕ → ℤ → ℤ
next s k by = bits (bits (held s k) +ℤ bits by)

module _ (s : List ℤ) (k : ℕ) (by : ℤ) (within : Within ceiling (held s k)) (small : Small ceiling by) where
  next_is : next s k by ≡ held s k +ℤ by
  next_is = small_sum (held s k) by (omega (arith, ints)) small

  shifted_is : (b : Bool) → b ≡ in_range ceiling (next s k by) → shifted ceiling s k by ≡ cond b (Some (moved s k by)) None
  shifted_is b e = ap (λ t. cond t (Some (moved s k by)) None) (sym (e ∙ ap (in_range ceiling) next_is))

  pub next_within : true ≡ in_range ceiling (next s k by) → Within ceiling (next s k by)
  next_within e = (grind (arith, ints), grind (arith, ints))

  pub shift_made : true ≡ in_range ceiling (next s k by) → (true ≡ is_some (shifted ceiling s k by)) × (set s k (next s k by) ≡ unwrap_or (shifted ceiling s k by) s)
  shift_made e = (sym (ap is_some (shifted_is true e)), ap (set s k) next_is ∙ sym (ap (λ o. unwrap_or o s) (shifted_is true e)))

  pub shift_refused : false ≡ in_range ceiling (next s k by) → (false ≡ is_some (shifted ceiling s k by)) × (s ≡ unwrap_or (shifted ceiling s k by) s)
  shift_refused e = (sym (ap is_some (shifted_is false e)), sym (ap (λ o. unwrap_or o s) (shifted_is false e)))

-- Lemmas on spans.
use Rattle.std.proofs.Common.{◌≡◌, false, ◌&&◌, ℤ, ◌+ℤ◌, sym, ◌∙◌, subst, ap₂, arith, w64, to_z, of_z, Option, Some, None}
use lib.Signed.{le_z, lt_z}
use Rattle.std.specs.Int.{int_max, int_min}
use Rattle.std.proofs.lemmas.Int.{ints, to_z-of_z}
use Rattle.std.proofs.lemmas.Bool.{cond_both}
use Rattle.counters.specs.declared.span.Span.{Span}
use Rattle.objects.specs.declared.records.Answer.{Answer}
use Rattle.counters.specs.declared.movement.Movement.{Movement}
use Rattle.counters.specs.declared.movement.Movement.TheVariants.{Add, Take, Read}
use Rattle.counters.specs.Bounds.{Bounded, Sane, Small}
use Rattle.counters.specs.Counts.{ceiling}
use Rattle.counters.specs.Spans.{commuting, run_span, withdrawal_span}

-- a number as the code's 64 bits hold it
abbrev pub bits : ℤ → ℤ
bits x = to_z w64 (of_z w64 x)

small_bits : (x : ℤ) → Small ceiling x → bits x ≡ x
small_bits x h = to_z-of_z w64 x (omega (arith, ints))

pub small_sum : (x y : ℤ) → Small ceiling x → Small ceiling y → bits (bits x +ℤ bits y) ≡ x +ℤ y
small_sum x y hx hy = omega (arith, ints)

small_max : (x y : ℤ) → Small ceiling x → Small ceiling y → Small ceiling (int_max x y)
small_max x y hx hy = cond_both (lt_z y x) x y (Small ceiling) (λ _. hx) (λ _. hy)

small_min : (x y : ℤ) → Small ceiling x → Small ceiling y → Small ceiling (int_min x y)
small_min x y hx hy = cond_both (lt_z y x) y x (Small ceiling) (λ _. hy) (λ _. hx)

-- the four bounds, where the two spans meet from m to k
met : (p q : Span) (m k : ℤ) → m ≡ int_max p.low q.low → k ≡ int_min p.high q.high → lt_z k m ≡ false →
    ((le_z p.low (m +ℤ q.step) && le_z (k +ℤ q.step) p.high) && (le_z q.low (m +ℤ p.step) && le_z (k +ℤ p.step) q.high)) ≡ commuting p q
met p q m k em ek meet = rw (em, ek) (rw (rw (em, ek) at meet))

-- the same as the code works it out
pub by_bounds : (p q : Span) (m k : ℤ) → Bounded ceiling p → Bounded ceiling q →
    m ≡ int_max (bits p.low) (bits q.low) → k ≡ int_min (bits p.high) (bits q.high) → lt_z (bits k) (bits m) ≡ false →
    ((le_z (bits p.low) (bits (bits m +ℤ bits q.step)) && le_z (bits (bits k +ℤ bits q.step)) (bits p.high))
    && (le_z (bits q.low) (bits (bits m +ℤ bits p.step)) && le_z (bits (bits k +ℤ bits p.step)) (bits q.high)))
    ≡ commuting p q
by_bounds p q m k bp bq em ek meet =
    let m_is : m ≡ int_max p.low q.low = em ∙ ap₂ int_max (small_bits _ bp.0) (small_bits _ bq.0) in
    let k_is : k ≡ int_min p.high q.high = ek ∙ ap₂ int_min (small_bits _ bp.1) (small_bits _ bq.1) in
    let sm : Small ceiling m = subst (Small ceiling) (sym m_is) (small_max _ _ bp.0 bq.0) in
    let sk : Small ceiling k = subst (Small ceiling) (sym k_is) (small_min _ _ bp.1 bq.1) in
    ap₂ ◌&&◌
    (ap₂ ◌&&◌ (ap₂ le_z (small_bits _ bp.0) (small_sum _ _ sm bq.2)) (ap₂ le_z (small_sum _ _ sk bq.2) (small_bits _ bp.1)))
    (ap₂ ◌&&◌ (ap₂ le_z (small_bits _ bq.0) (small_sum _ _ sm bp.2)) (ap₂ le_z (small_sum _ _ sk bp.2) (small_bits _ bq.1)))
    ∙ met p q m k m_is k_is (sym (ap₂ lt_z (small_bits _ sk) (small_bits _ sm)) ∙ meet)

pub run_bounded : (m : Option Movement) (a : Answer) → Sane ceiling m → Bounded ceiling (run_span ceiling m a)
run_bounded (Some (Add k n)) a h = grind (arith, ints)
run_bounded (Some (Take k n)) a h = grind (arith, ints)
run_bounded (Some (Read k)) a h = grind (arith, ints)
run_bounded None a h = grind (arith, ints)

pub withdrawal_bounded : (m : Option Movement) (a : Answer) → Sane ceiling m → Bounded ceiling (withdrawal_span ceiling m a)
withdrawal_bounded (Some (Add k n)) a h = grind (arith, ints)
withdrawal_bounded (Some (Take k n)) a h = grind (arith, ints)
withdrawal_bounded (Some (Read k)) a h = grind (arith, ints)
withdrawal_bounded None a h = grind (arith, ints)

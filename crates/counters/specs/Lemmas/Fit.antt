-- What the two spans of a record have to do with each other and with the range of the counts.
use Rattle.std.specs.Prelude.{◌≡◌, ℕ, ◌<◌, Bool, true, false, cond, ◌⊎◌, ℤ, pos, ◌+ℤ◌, ◌-ℤ◌, neg_ℤ, ◌≤ℤ◌, refl, Option, Some, None}
use Rattle.std.proofs.Common.{inl, inr, arith}
use Rattle.std.proofs.lemmas.Int.{ints}
use Rattle.objects.specs.declared.records.Answer.{Answer}
use Rattle.objects.specs.Answers.{bad, done, full, same, short}
use Rattle.counters.specs.declared.movement.Movement.{Movement}
use Rattle.counters.specs.declared.movement.Movement.TheVariants.{Add, Take, Read}
use Rattle.counters.specs.declared.span.Span.{Span}
use Rattle.counters.specs.Bank.{is_reading}
use Rattle.counters.specs.Bounds.{Amount, Sane}
use Rattle.counters.specs.Counts.{Within, counters}
use Rattle.counters.specs.Spans.{everywhere, nowhere, run_span, span, withdrawal_span}
use Rattle.counters.specs.Lemmas.Counts.{Movable}
use Rattle.counters.specs.Lemmas.Movements.{Names}

abbrev pub In : Span → ℤ → Type 0
In p x = (p.low ≤ℤ x) × (x ≤ℤ p.high)

pub record Fit (c : ℤ) (k : ℕ) (run back : Span) : Type 0 where
  pub steady : Movable k run.step
  pub opposite : run.step +ℤ back.step ≡ pos 0
  pub runs_within : (x : ℤ) → In run x → Within c x × Within c (x +ℤ run.step)
  pub backs_within : (x : ℤ) → In back x → Within c x × Within c (x +ℤ back.step)
  pub undoes : (x : ℤ) → In run x → In back (x +ℤ run.step)
  -- a record that moves nothing is withdrawn everywhere
  pub free : (x : ℤ) → In run x → run.step ≡ pos 0 → back ≡ everywhere c
  -- a record that is withdrawn somewhere runs somewhere; one of no counter runs wherever it is withdrawn
  pub met : (x : ℤ) → In back x → (y : ℤ) × In run y
  pub loose : (k < counters) ⊎ ((x : ℤ) → In back x → In run x)

-- an add that was done, and a take: each is the other's withdrawal
fit_added : (c : ℤ) (k : ℕ) (n : ℤ) → k < counters → Amount c n → Fit c k (span (pos 0) (c -ℤ n) n) (span n c (neg_ℤ n))
fit_added c k n there amount = record {
  steady = inl there;
  opposite = omega (arith, ints);
  runs_within = λ x h. omega (arith, ints);
  backs_within = λ x h. omega (arith, ints);
  undoes = λ x h. omega (arith, ints);
  free = λ x h e. absurd (omega (arith, ints));
  met = λ x h. (x -ℤ n, omega (arith, ints));
  loose = inl there;
}

fit_taken : (c : ℤ) (k : ℕ) (n : ℤ) → k < counters → Amount c n → Fit c k (span n c (neg_ℤ n)) (span (pos 0) (c -ℤ n) n)
fit_taken c k n there amount = record {
  steady = inl there;
  opposite = omega (arith, ints);
  runs_within = λ x h. omega (arith, ints);
  backs_within = λ x h. omega (arith, ints);
  undoes = λ x h. omega (arith, ints);
  free = λ x h e. absurd (omega (arith, ints));
  met = λ x h. (x +ℤ n, omega (arith, ints));
  loose = inl there;
}

-- a record that moves nothing and runs from low to high
fit_still : (c : ℤ) (k : ℕ) (low high : ℤ) → pos 0 ≤ℤ low → low ≤ℤ high → high ≤ℤ c → (k < counters) ⊎ ((x : ℤ) → Within c x → In (span low high (pos 0)) x) → Fit c k (span low high (pos 0)) (everywhere c)
fit_still c k low high least order most place = record {
  steady = inr refl;
  opposite = refl;
  runs_within = λ x h. omega (arith, ints);
  backs_within = λ x h. omega (arith, ints);
  undoes = λ x h. omega (arith, ints);
  free = λ x h e. refl;
  met = λ x h. (low, omega (arith, ints));
  loose = place;
}

-- a record that runs nowhere
fit_never : (c : ℤ) (k : ℕ) → Fit c k nowhere nowhere
fit_never c k = record {
  steady = inr refl;
  opposite = refl;
  runs_within = λ x h. omega (arith, ints);
  backs_within = λ x h. omega (arith, ints);
  undoes = λ x h. omega (arith, ints);
  free = λ x h e. absurd (omega (arith, ints));
  met = λ x h. absurd (omega (arith, ints));
  loose = inr (λ x h. h);
}

-- one choice made twice
pub choose : {A B : Type 0} (P : A → B → Type 0) (b : Bool) (x y : A) (z w : B) → (b ≡ true → P x z) → (b ≡ false → P y w) → P (cond b x y) (cond b z w)
choose P true x y z w left right = left refl
choose P false x y z w left right = right refl

pub fit : (c : ℤ) (k : ℕ) (m : Option Movement) (a : Answer) → pos 0 ≤ℤ c → Sane c m → Names k m → Fit c k (run_span c m a) (withdrawal_span c m a)
fit c k (Some (Add key n)) a least sane names =
    choose (Fit c k) (same a done) _ _ _ _ (λ _. fit_added c k n (omega arith) sane.1)
    (λ _. choose (Fit c k) (same a full) _ _ _ _ (λ _. fit_still c k _ _ (omega (arith, ints)) (omega (arith, ints)) (omega (arith, ints)) (inl (omega arith))) (λ _. fit_never c k))
fit c k (Some (Take key n)) a least sane names =
    choose (Fit c k) (same a done) _ _ _ _ (λ _. fit_taken c k n (omega arith) sane.1)
    (λ _. choose (Fit c k) (same a short) _ _ _ _ (λ _. fit_still c k _ _ (omega (arith, ints)) (omega (arith, ints)) (omega (arith, ints)) (inl (omega arith))) (λ _. fit_never c k))
fit c k (Some (Read key)) a least sane names =
    choose (Fit c k) (is_reading c a) _ _ _ _
    (λ e. fit_still c k _ _ (grind (arith, ints)) (omega (arith, ints)) (grind (arith, ints)) (inl (omega arith)))
    (λ _. fit_never c k)
fit c k None a least sane names =
    choose (Fit c k) (same a bad) _ _ _ _ (λ _. fit_still c k _ _ (omega (arith, ints)) least (omega (arith, ints)) (inr (λ x h. h))) (λ _. fit_never c k)

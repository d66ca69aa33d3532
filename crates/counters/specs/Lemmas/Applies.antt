-- The spans say where a record runs and where its withdrawal applies, and how each moves the counter.
use Rattle.std.specs.Prelude.{◌≡◌, ℕ, Bool, true, cond, List, ℤ, pos, ◌+ℤ◌, ◌-ℤ◌, neg_ℤ, ◌≤ℤ◌, Some, None, Option, int_le, refl}
use Rattle.std.proofs.Common.{sym, ap, subst, ◌∙◌, arith}
use Rattle.std.proofs.lemmas.Int.{ints}
use Rattle.std.proofs.lemmas.Bool.{and_parts, cond_both, cond-true, cond-false}
use Rattle.objects.specs.declared.records.Answer.{Answer}
use Rattle.objects.specs.Answers.{bad, done, full, holding, same, short}
use Rattle.objects.specs.Kinds.{provided}
use Rattle.objects.proofs.Same.{picked, same_true}
use Rattle.counters.specs.declared.movement.Movement.{Movement}
use Rattle.counters.specs.declared.movement.Movement.TheVariants.{Add, Take, Read}
use Rattle.counters.specs.declared.span.Span.{Span}
use Rattle.counters.specs.Bank.{did, is_reading, shifted, undone}
use Rattle.counters.specs.Bounds.{Sane}
use Rattle.counters.specs.Counts.{Counts, Within, held, in_range, moved}
use Rattle.counters.specs.Spans.{everywhere, nowhere, run_span, span, withdrawal_span}
use Rattle.counters.specs.Lemmas.Counts.{held_within, moved_nothing}
use Rattle.counters.specs.Lemmas.Fit.{In, choose}
use Rattle.counters.specs.Lemmas.Movements.{Names}

-- an answer and a state are those of a run in the span p
abbrev pub RanIn : Span → List ℤ → ℕ → List ℤ → Type 0
RanIn p s k t = In p (held s k) × (t ≡ moved s k p.step)

module _ (c : ℤ) (least : pos 0 ≤ℤ c) (s : List ℤ) (counts : Counts c s) where
  -- what a run answers names the span that it ran in
  abbrev pub Told : ℕ → Option Movement → Answer × List ℤ → Type 0
  Told k m r = RanIn (run_span c m r.0) s k r.1

  still : (k : ℕ) → s ≡ moved s k (pos 0)
  still k = sym (moved_nothing s k (pos 0) refl)

  pub run_told : (k : ℕ) (m : Option Movement) → Sane c m → Names k m → Told k m (did c s m)
  run_told k (Some (Add key n)) sane names =
      let x = held_within c s key least counts in
      subst (λ j. Told j (Some (Add key n)) (did c s (Some (Add key n)))) names
      (cond_both (int_le (held s key +ℤ n) c) (done, moved s key n) (full, s) (Told key (Some (Add key n)))
      (λ e. (grind (arith, ints), refl))
      (λ e. (grind (arith, ints), still key)))
  run_told k (Some (Take key n)) sane names =
      let x = held_within c s key least counts in
      subst (λ j. Told j (Some (Take key n)) (did c s (Some (Take key n)))) names
      (cond_both (int_le n (held s key)) (done, moved s key (neg_ℤ n)) (short, s) (Told key (Some (Take key n)))
      (λ e. (grind (arith, ints), refl))
      (λ e. (grind (arith, ints), still key)))
  run_told k (Some (Read key)) sane names =
      let x = held s key in
      let within = held_within c s key least counts in
      let told : is_reading c (holding x) ≡ true = grind (arith, ints) in
      subst (λ j. Told j (Some (Read key)) (holding x, s)) names
      (subst (λ p. RanIn p s key s) (sym (cond-true _ (span x x (pos 0)) nowhere told)) ((omega (arith, ints), omega (arith, ints)), still key))
  run_told k None sane names = (held_within c s k least counts, still k)

  -- where the span holds the count, the record runs
  abbrev pub RunsAs : ℕ → Option Movement → Answer → Span → Type 0
  RunsAs k m a p = In p (held s k) → ((did c s m).0 ≡ a) × ((did c s m).1 ≡ moved s k p.step)

  nowhere_runs : (k : ℕ) (m : Option Movement) (a : Answer) → RunsAs k m a nowhere
  nowhere_runs k m a h = absurd (omega (arith, ints))

  pub run_from : (k : ℕ) (m : Option Movement) (a : Answer) → Sane c m → Names k m → RunsAs k m a (run_span c m a)
  run_from k (Some (Add key n)) a sane names =
      subst (λ j. RunsAs j (Some (Add key n)) a (run_span c (Some (Add key n)) a)) names
      (cond_both (same a done) _ _ (RunsAs key (Some (Add key n)) a)
      (λ e h. picked _ _ a _ (cond-true _ (done, moved s key n) (full, s) (grind (arith, ints))) e refl)
      (λ _. cond_both (same a full) _ _ (RunsAs key (Some (Add key n)) a)
      (λ e h. picked _ _ a _ (cond-false _ (done, moved s key n) (full, s) (grind (arith, ints))) e (still key))
      (λ _. nowhere_runs key (Some (Add key n)) a)))
  run_from k (Some (Take key n)) a sane names =
      subst (λ j. RunsAs j (Some (Take key n)) a (run_span c (Some (Take key n)) a)) names
      (cond_both (same a done) _ _ (RunsAs key (Some (Take key n)) a)
      (λ e h. picked _ _ a _ (cond-true _ (done, moved s key (neg_ℤ n)) (short, s) (grind (arith, ints))) e refl)
      (λ _. cond_both (same a short) _ _ (RunsAs key (Some (Take key n)) a)
      (λ e h. picked _ _ a _ (cond-false _ (done, moved s key (neg_ℤ n)) (short, s) (grind (arith, ints))) e (still key))
      (λ _. nowhere_runs key (Some (Take key n)) a)))
  run_from k (Some (Read key)) a sane names =
      subst (λ j. RunsAs j (Some (Read key)) a (run_span c (Some (Read key)) a)) names
      (cond_both (is_reading c a) _ _ (RunsAs key (Some (Read key)) a)
      (λ e h. let read : a.value ≡ held s key = omega (arith, ints) in
      (ap holding (sym read) ∙ sym (same_true a (holding a.value) (and_parts _ _ e).0), still key))
      (λ _. nowhere_runs key (Some (Read key)) a))
  run_from k None a sane names =
      cond_both (same a bad) _ _ (RunsAs k None a) (λ e h. picked _ (bad, s) a _ refl e (still k)) (λ _. nowhere_runs k None a)

  -- where a withdrawal applies, the span holds the count; and the other way round
  abbrev pub WithdrawnAs : ℕ → Option (List ℤ) → Span → Type 0
  WithdrawnAs k o p = ((v : List ℤ) → o ≡ Some v → RanIn p s k v) × (In p (held s k) → o ≡ Some (moved s k p.step))

  stays : (k : ℕ) → WithdrawnAs k (Some s) (everywhere c)
  stays k = (λ v e. let same_state : s ≡ v = cc in (held_within c s k least counts, sym same_state ∙ still k), λ h. ap Some (still k))

  fails : (k : ℕ) → WithdrawnAs k None nowhere
  fails k = (λ v e. let z : ◌≡◌ {A = ℕ} 0 1 = cc in absurd (omega arith), λ h. absurd (omega (arith, ints)))

  -- a move applies where it stays within the range
  shifts : (k : ℕ) (low high by : ℤ) →
      (In (span low high by) (held s k) → Within c (held s k +ℤ by)) → (Within c (held s k +ℤ by) → In (span low high by) (held s k)) →
      WithdrawnAs k (shifted c s k by) (span low high by)
  shifts k low high by there back =
      let x = held s k +ℤ by in
      cond_both (in_range c x) (Some (moved s k by)) None (λ o. WithdrawnAs k o (span low high by))
      (λ e. (λ v f. let to : moved s k by ≡ v = cc in (back (grind (arith, ints)), sym to), λ h. refl))
      (λ e. (λ v f. let z : ◌≡◌ {A = ℕ} 0 1 = cc in absurd (omega arith), λ h. let w = there h in absurd (grind (arith, ints))))

  stay : (k : ℕ) (b : Bool) → WithdrawnAs k (provided b s) (cond b (everywhere c) nowhere)
  stay k b = choose (WithdrawnAs k) b (Some s) None (everywhere c) nowhere (λ _. stays k) (λ _. fails k)

  pub withdrawal_as : (k : ℕ) (m : Option Movement) (a : Answer) → Sane c m → Names k m → WithdrawnAs k (undone c s m a) (withdrawal_span c m a)
  withdrawal_as k (Some (Add key n)) a sane names =
      let within = held_within c s key least counts in
      subst (λ j. WithdrawnAs j (undone c s (Some (Add key n)) a) (withdrawal_span c (Some (Add key n)) a)) names
      (choose (WithdrawnAs key) (same a done) _ _ _ _ (λ _. shifts key n c (neg_ℤ n) (λ h. omega (arith, ints)) (λ h. omega (arith, ints))) (λ _. stay key (same a full)))
  withdrawal_as k (Some (Take key n)) a sane names =
      let within = held_within c s key least counts in
      subst (λ j. WithdrawnAs j (undone c s (Some (Take key n)) a) (withdrawal_span c (Some (Take key n)) a)) names
      (choose (WithdrawnAs key) (same a done) _ _ _ _ (λ _. shifts key (pos 0) (c -ℤ n) n (λ h. omega (arith, ints)) (λ h. omega (arith, ints))) (λ _. stay key (same a short)))
  withdrawal_as k (Some (Read key)) a sane names = stay k (is_reading c a)
  withdrawal_as k None a sane names = stay k (same a bad)

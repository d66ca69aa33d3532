-- A bank keeps the laws of an object, at every ceiling from 0 on.
use Rattle.std.specs.Prelude.{◌≡◌, ℕ, ◌<◌, true, false, ◌&&◌, List, ℤ, pos, ◌+ℤ◌, ◌≤ℤ◌, Some, ◌==◌, ◌≢◌, int_le, int_lt, slice_set, refl}
use Rattle.std.proofs.Common.{sym, ap, subst, subst₂, ◌∙◌, inl, inr, ⊎_elim, arith}
use Rattle.std.specs.Int.{int_max, int_min}
use Rattle.std.proofs.lemmas.List.{set-get_or}
use Rattle.std.proofs.lemmas.Int.{ints, clamps}
use Rattle.std.proofs.lemmas.Bool.{and_from, cases_Bool, cases_eq, cond_both, cond-true, eq-eqb, eqb-true, or_left, or_right}
use Rattle.objects.specs.declared.records.Operation.{Operation}
use Rattle.objects.specs.declared.records.Record.{Record}
use Rattle.objects.specs.Kinds.{Runs, Commutes, Laws}
use Rattle.counters.specs.declared.span.Span.{Span}
use Rattle.counters.specs.Bank.{ran, withdrawn}
use Rattle.counters.specs.Counts.{Counts, counters, held, moved}
use Rattle.counters.specs.Kind.{bank}
use Rattle.counters.specs.Movements.{meant}
use Rattle.counters.specs.Spans.{commuting, run_span, runs_in as span_of_run, tested, withdraws_in as span_of_withdrawal}
use Rattle.counters.specs.Lemmas.Applies.{RanIn, run_from, run_told, withdrawal_as}
use Rattle.counters.specs.Lemmas.Counts.{Movable, counts_moved, counts_only, held_moved, held_only, held_other, moved_moved, moves_apart, moves_commute, only}
use Rattle.counters.specs.Lemmas.Fit.{Fit, In, fit}
use Rattle.counters.specs.Lemmas.Movements.{names, sane}

-- two spans that commute, at a count where both apply
kept : (p q : Span) (x : ℤ) → commuting p q ≡ true → In p x → In q x → In p (x +ℤ q.step) × In q (x +ℤ p.step)
kept p q x e hp hq = grind (arith, ints, clamps)

le_test : {x y : ℤ} → x ≤ℤ y → int_le x y ≡ true
le_test {x} {y} h = grind (arith, ints)

-- two spans commute that keep each other at every count where both apply
holds : (p q : Span) → ((x : ℤ) → In p x → In q x → In p (x +ℤ q.step) × In q (x +ℤ p.step)) → commuting p q ≡ true
holds p q keep = ⊎_elim (or_left _ _) (λ meet. or_right _ _ (bounds meet)) (cases_Bool (int_lt k m))
  where
    m : ℤ
    m = int_max p.low q.low

    k : ℤ
    k = int_min p.high q.high

    both : (x : ℤ) → m ≤ℤ x → x ≤ℤ k → In p x × In q x
    both x low high = omega (arith, ints, clamps)

    bounds : int_lt k m ≡ false → ((int_le p.low (m +ℤ q.step) && int_le (k +ℤ q.step) p.high) && (int_le q.low (m +ℤ p.step) && int_le (k +ℤ p.step) q.high)) ≡ true
    bounds meet =
        let order : m ≤ℤ k = omega (arith, ints) in
        let least = both m (omega (arith, ints)) order in
        let most = both k order (omega (arith, ints)) in
        let low = keep m least.0 least.1 in
        let high = keep k most.0 most.1 in
        and_from _ _ (and_from _ _ (le_test low.0.0) (le_test high.0.1)) (and_from _ _ (le_test low.1.0) (le_test high.1.1))

abbrev pub key : Record → ℕ
key r = r.operation.key

module _ (c : ℤ) (least : pos 0 ≤ℤ c) where
  abbrev pub forth : Record → Span
  forth r = span_of_run c r

  abbrev pub back : Record → Span
  back r = span_of_withdrawal c r

  pub fits : (r : Record) → Fit c (key r) (forth r) (back r)
  fits r = fit c (key r) (meant c r.operation) r.answer least (sane c r.operation) (names c r.operation)

  -- where a record runs, and where its withdrawal applies
  pub runs_in : (s t : List ℤ) (r : Record) → Counts c s → Runs (bank c) s r t → RanIn (forth r) s (key r) t
  runs_in s t r counts runs =
      subst (λ u. RanIn (forth r) s (key r) u) runs.ends
      (subst (λ a. RanIn (run_span c (meant c r.operation) a) s (key r) (ran c s r.operation).1) runs.answers
      (run_told c least s counts (key r) (meant c r.operation) (sane c r.operation) (names c r.operation)))

  pub runs_at : (s : List ℤ) (r : Record) → Counts c s → In (forth r) (held s (key r)) → Runs (bank c) s r (moved s (key r) (forth r).step)
  runs_at s r counts h =
      let run = run_from c least s counts (key r) (meant c r.operation) r.answer (sane c r.operation) (names c r.operation) h in
      record { answers = run.0; ends = run.1 }

  pub withdraws : (s : List ℤ) (r : Record) → Counts c s →
      ((v : List ℤ) → withdrawn c s r ≡ Some v → RanIn (back r) s (key r) v) × (In (back r) (held s (key r)) → withdrawn c s r ≡ Some (moved s (key r) (back r).step))
  withdraws s r counts = withdrawal_as c least s counts (key r) (meant c r.operation) r.answer (sane c r.operation) (names c r.operation)

  run_moves : (s t : List ℤ) (r : Record) → Counts c s → Runs (bank c) s r t → Counts c t
  run_moves s t r counts runs =
      let told = runs_in s t r counts runs in
      subst (Counts c) (sym told.1) (counts_moved c s (key r) (forth r).step counts ((fits r).runs_within (held s (key r)) told.0).1)

  run_lawful : (s : List ℤ) (o : Operation) → Counts c s → Counts c (ran c s o).1
  run_lawful s o counts = run_moves s (ran c s o).1 (record { operation = o; answer = (ran c s o).0 }) counts (record { answers = refl; ends = refl })

  withdraw_lawful : (s t : List ℤ) (r : Record) → Counts c s → withdrawn c s r ≡ Some t → Counts c t
  withdraw_lawful s t r counts e =
      let told = (withdraws s r counts).0 t e in
      subst (Counts c) (sym told.1) (counts_moved c s (key r) (back r).step counts ((fits r).backs_within (held s (key r)) told.0).1)

  -- a move and its opposite
  moved_back : (s : List ℤ) (r : Record) → Counts c s → moved (moved s (key r) (forth r).step) (key r) (back r).step ≡ s
  moved_back s r counts =
      let k = key r in
      let nothing : (held s k +ℤ (forth r).step) +ℤ (back r).step ≡ held s k = omega (arith, ints, (fits r).opposite) in
      moved_moved s k (forth r).step (back r).step counts.many (fits r).steady ∙ ap (slice_set s k) nothing ∙ set-get_or s k (pos 0)

  undo : (s t : List ℤ) (r : Record) → Counts c s → Runs (bank c) s r t → withdrawn c t r ≡ Some s
  undo s t r counts runs =
      let k = key r in
      let told = runs_in s t r counts runs in
      let u = moved s k (forth r).step in
      let there : In (back r) (held u k) = subst (In (back r)) (sym (held_moved s k (forth r).step counts.many (fits r).steady)) ((fits r).undoes (held s k) told.0) in
      let lawful : Counts c u = counts_moved c s k (forth r).step counts ((fits r).runs_within (held s k) told.0).1 in
      ap (λ x. withdrawn c x r) told.1 ∙ (withdraws u r lawful).1 there ∙ ap Some (moved_back s r counts)

  -- a withdrawal and a run that each leave the other's span: both ways round come to one state
  abbrev Square : Record → Record → List ℤ → List ℤ → List ℤ → Type 0
  Square p q t u v = (w : List ℤ) × ((withdrawn c u p ≡ Some w) × Runs (bank c) v q w)

  square : (p q : Record) (t : List ℤ) → Counts c t →
      let u = moved t (key q) (forth q).step in
      let v = moved t (key p) (back p).step in
      Counts c u → Counts c v → In (back p) (held u (key p)) → In (forth q) (held v (key q)) → moved u (key p) (back p).step ≡ moved v (key q) (forth q).step →
      Square p q t u v
  square p q t counts lu lv there here same_end = (
    moved (moved t (key q) (forth q).step) (key p) (back p).step,
    ((withdraws _ p lu).1 there, subst (Runs (bank c) _ q) (sym same_end) (runs_at _ q lv here)),
  )

  -- the steps of a record, on the counter that it names
  run_steady : (r : Record) → Movable (key r) (forth r).step
  run_steady r = (fits r).steady

  back_steady : (r : Record) → Movable (key r) (back r).step
  back_steady r = ⊎_elim inl (λ e. inr (omega (arith, ints, (fits r).opposite))) (fits r).steady

  -- what each one's span holds once the other has moved the count
  one_key : (p q : Record) (t : List ℤ) → Counts c t → key p ≡ key q →
      (held (moved t (key q) (forth q).step) (key p) ≡ held t (key p) +ℤ (forth q).step) × (held (moved t (key p) (back p).step) (key q) ≡ held t (key p) +ℤ (back p).step)
  one_key p q t counts e = (
    subst (λ j. held (moved t (key q) (forth q).step) j ≡ held t j +ℤ (forth q).step) (sym e) (held_moved t (key q) (forth q).step counts.many (run_steady q)),
    subst (λ j. held (moved t (key p) (back p).step) j ≡ held t (key p) +ℤ (back p).step) e (held_moved t (key p) (back p).step counts.many (back_steady p)),
  )

  square_one : (p q : Record) (t : List ℤ) → Counts c t → key p ≡ key q → In (back p) (held t (key p)) → In (forth q) (held t (key q)) → commuting (back p) (forth q) ≡ true →
      Square p q t (moved t (key q) (forth q).step) (moved t (key p) (back p).step)
  square_one p q t counts e hp hq yes_test =
      let x = held t (key p) in
      let hq' : In (forth q) x = subst (λ j. In (forth q) (held t j)) (sym e) hq in
      let both = kept (back p) (forth q) x yes_test hp hq' in
      let one = one_key p q t counts e in
      square p q t counts
      (counts_moved c t (key q) (forth q).step counts ((fits q).runs_within (held t (key q)) hq).1)
      (counts_moved c t (key p) (back p).step counts ((fits p).backs_within x hp).1)
      (subst (In (back p)) (sym one.0) both.0)
      (subst (In (forth q)) (sym one.1) both.1)
      (subst (λ j. moved (moved t j (forth q).step) (key p) (back p).step ≡ moved (moved t (key p) (back p).step) j (forth q).step) e
      (moves_commute t (key p) (forth q).step (back p).step counts.many (subst (λ j. Movable j (forth q).step) (sym e) (run_steady q)) (back_steady p)))

  square_two : (p q : Record) (t : List ℤ) → Counts c t → (key p ≢ key q) → In (back p) (held t (key p)) → In (forth q) (held t (key q)) →
      Square p q t (moved t (key q) (forth q).step) (moved t (key p) (back p).step)
  square_two p q t counts ne hp hq =
      square p q t counts
      (counts_moved c t (key q) (forth q).step counts ((fits q).runs_within (held t (key q)) hq).1)
      (counts_moved c t (key p) (back p).step counts ((fits p).backs_within (held t (key p)) hp).1)
      (subst (In (back p)) (sym (held_other t (key q) (key p) (forth q).step ne)) hp)
      (subst (In (forth q)) (sym (held_other t (key p) (key q) (back p).step (λ e. ne (sym e)))) hq)
      (moves_apart t (key q) (key p) (forth q).step (back p).step ne)

  sound : (p q : Record) → tested c p q ≡ true → Commutes (bank c) p q
  sound p q e = record { square = go }
    where
      go : (t u v : List ℤ) → Counts c t → withdrawn c t p ≡ Some v → Runs (bank c) t q u → Square p q t u v
      go t u v counts withdrew runs =
          let told_p = (withdraws t p counts).0 v withdrew in
          let told_q = runs_in t u q counts runs in
          subst₂ (λ y z. Square p q t y z) (sym told_q.1) (sym told_p.1)
          (⊎_elim
          (λ eq. square_one p q t counts eq told_p.0 told_q.0 (sym (cond-true (key p == key q) _ true (eq-eqb (key p) (key q) eq)) ∙ e))
          (λ ne. square_two p q t counts ne told_p.0 told_q.0)
          (cases_eq (key p) (key q)))

  -- at a state with the count x, where both apply, the two records tell what each does there
  probe : (p q : Record) (x : ℤ) → key p ≡ key q → key p < counters → Commutes (bank c) p q → In (back p) x → In (forth q) x → In (back p) (x +ℤ (forth q).step) × In (forth q) (x +ℤ (back p).step)
  probe p q x e there commutes hp hq =
      let k = key p in
      let t = only k x in
      let counts = counts_only c k x least ((fits p).backs_within x hp).0 in
      let x_is : held t k ≡ x = held_only k x there in
      let hp' : In (back p) (held t k) = subst (In (back p)) (sym x_is) hp in
      let hq' : In (forth q) (held t (key q)) = subst (λ j. In (forth q) (held t j)) e (subst (In (forth q)) (sym x_is) hq) in
      let withdrew = (withdraws t p counts).1 hp' in
      let runs = runs_at t q counts hq' in
      let w = commutes.square t _ _ counts withdrew runs in
      let lu = run_moves t _ q counts runs in
      let lv = withdraw_lawful t _ p counts withdrew in
      let one = one_key p q t counts e in (
        subst (λ y. In (back p) (y +ℤ (forth q).step)) x_is (subst (In (back p)) one.0 ((withdraws _ p lu).0 w.0 w.1.0).0),
        subst (λ y. In (forth q) (y +ℤ (back p).step)) x_is (subst (In (forth q)) one.1 (runs_in _ w.0 q lv w.1.1).0),
      )

  exact : (p q : Record) → Commutes (bank c) p q → tested c p q ≡ true
  exact p q commutes =
      cond_both (key p == key q) (commuting (back p) (forth q)) true (λ b. b ≡ true) (λ e. one (eqb-true (key p) (key q) e)) (λ _. refl)
    where
      one : key p ≡ key q → commuting (back p) (forth q) ≡ true
      one e = ⊎_elim
          (λ there. holds (back p) (forth q) (λ x. probe p q x e there commutes))
          (λ still_p. ⊎_elim
          (λ there. holds (back p) (forth q) (λ x. probe p q x e (subst (λ j. j < counters) (sym e) there) commutes))
          (λ still_q. holds (back p) (forth q) (λ x hp hq. (omega (arith, ints), omega (arith, ints))))
          (run_steady q))
          (back_steady p)

  pub bank_laws : Laws (bank c)
  bank_laws = record { undo = undo; sound = sound; exact = exact; run_lawful = run_lawful; withdraw_lawful = withdraw_lawful }

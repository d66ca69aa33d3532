-- A bank's withdrawals where a record moved nothing, or runs in no lawful state.
use Rattle.std.proofs.Common.{◌≡◌, List, ℤ, pos, ◌+ℤ◌, ◌≤ℤ◌, Some, None, Option, sym, refl, ap, ◌∙◌, subst, ⊎_elim, arith}
use Rattle.std.proofs.lemmas.Int.{ints}
use Rattle.objects.specs.declared.records.Record.{Record}
use Rattle.objects.specs.Kinds.{Runs, PlainWithdrawals}
use Rattle.counters.specs.Bank.{withdrawn}
use Rattle.counters.specs.Counts.{Counts, held}
use Rattle.counters.specs.Kind.{bank}
use Rattle.counters.specs.Spans.{everywhere}
use Rattle.counters.specs.Lemmas.Counts.{counts_only, held_moved, held_only, held_within, moved_nothing, only}
use Rattle.counters.specs.Lemmas.Fit.{In}
use Rattle.counters.specs.Lemmas.Laws.{back, fits, forth, key, runs_at, runs_in, withdraws}

module _ (c : ℤ) (least : pos 0 ≤ℤ c) where
  still : (s t : List ℤ) (r : Record) → Counts c s → Runs (bank c) s r s → Counts c t → withdrawn c t r ≡ Some t
  still s t r counts runs counts_t =
      let k = key r in
      let fit = fits c least r in
      let told = runs_in c least s s r counts runs in
      let step = (forth c least r).step in
      let same_count : held s k ≡ held s k +ℤ step = ap (λ x. held x k) told.1 ∙ held_moved s k step counts.many fit.steady in
      let nothing : step ≡ pos 0 = omega (arith, ints) in
      let all : back c least r ≡ everywhere c = fit.free (held s k) told.0 nothing in
      let there : In (back c least r) (held t k) = subst (λ p. In p (held t k)) (sym all) (held_within c t k least counts_t) in
      (withdraws c least t r counts_t).1 there ∙ ap Some (moved_nothing t k (back c least r).step (ap (λ p. p.step) all))

  -- a state in which a record runs that is withdrawn somewhere
  runs_somewhere : (t : List ℤ) (r : Record) → Counts c t → In (back c least r) (held t (key r)) → (s : List ℤ) × (Counts c s × In (forth c least r) (held s (key r)))
  runs_somewhere t r counts h =
      let k = key r in
      let fit = fits c least r in
      let y = fit.met (held t k) h in
      ⊎_elim
      (λ there. (only k y.0, (counts_only c k y.0 least (fit.runs_within y.0 y.1).0, subst (In (forth c least r)) (sym (held_only k y.0 there)) y.1)))
      (λ loose. (t, (counts, loose (held t k) h)))
      fit.loose

  never : (t : List ℤ) (r : Record) → ((s u : List ℤ) → Counts c s → Runs (bank c) s r u → ⊥) → Counts c t → withdrawn c t r ≡ None
  never t r nowhere counts = go (withdrawn c t r) refl
    where
      go : (o : Option (List ℤ)) → withdrawn c t r ≡ o → o ≡ None
      go None e = refl
      go (Some v) e =
          let some = runs_somewhere t r counts ((withdraws c least t r counts).0 v e).0 in
          absurd (nowhere some.0 _ some.1.0 (runs_at c least some.0 r some.1.0 some.1.1))

  pub bank_withdrawals : PlainWithdrawals (bank c)
  bank_withdrawals = record { still = still; never = never }

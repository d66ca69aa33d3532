-- A dated map keeps the laws of an object.
use Rattle.std.specs.Prelude.{◌≡◌, ℕ, ◌<◌, ◌≤◌, true, false, cond, not, ◌&&◌, List, ℤ, Some, None, Option, ◌==◌, nat_le, slice_set, refl}
use Rattle.std.proofs.Common.{subst, subst₂, arith}
use Rattle.std.proofs.lemmas.Grind.{common_steps}
use Rattle.std.proofs.lemmas.Bool.Decides.{nat_tests}
use Rattle.std.proofs.lemmas.Bool.{and_parts, cond_both}
use Rattle.objects.specs.declared.records.Record.{Record}
use Rattle.objects.specs.declared.traces.Change.{Change}
use Rattle.objects.specs.declared.traces.Trace.{Trace}
use Rattle.objects.specs.Kinds.{Laws, PlainWithdrawals, Runs}
use Rattle.objects.specs.Traces.{showing}
use Rattle.std.proofs.lemmas.Option.{cond_some}
use Rattle.objects.proofs.Placed.{Elsewhere, Placed, Proper, Shown, changed, placed_laws, placed_withdrawals}
use Rattle.maps.specs.declared.trace.Window.{Window}
use Rattle.maps.specs.Days.{Days, day_count, empty, fits, held, same_content}
use Rattle.maps.specs.Kind.{dated_map}
use Rattle.maps.specs.Requests.{meant}
use Rattle.maps.specs.Traces.{shows, trace, window, wrote}
use Rattle.maps.specs.Lemmas.Contents.{empty_days, empty_held, empty_many, same_is, same_same, set_days}
use Rattle.maps.specs.Lemmas.Sights.{Fair, Saw, Told, blind, does, fair, sane, seen, told, written}

-- a map of one filled day
only : ℕ → Option ℤ → List (Option ℤ)
only d v = slice_set empty d v

only_days : (d : ℕ) (v : Option ℤ) → fits v ≡ true → Days (only d v)
unfolding only
only_days d v right = set_days empty d v empty_days right

saw_only : (w : Window) → w.first ≤ w.last → w.last < day_count → Saw (Some w) (only w.first w.content)
unfolding only
saw_only w order most = (grind (arith, common_steps, empty_many), λ e above below. grind (arith, common_steps, empty_held e))

meets : (e : Trace Window (Option ℤ)) → Fair e → (s : List (Option ℤ)) × (Days s × Saw e.saw s)
meets e blind = (empty, (empty_days, tt))
meets e (seen w order most right) = (only w.first w.content, (only_days w.first w.content right, saw_only w order most))
meets e (written d before after most right _) = (only d before, (only_days d before right, saw_only (window d d before) (omega arith) most))

-- a change is of a day, and changes it
pub record Written (e : Trace Window (Option ℤ)) (c : Change (Option ℤ)) : Type 0 where
  pub there : c.place < day_count
  pub fits_before : fits c.before ≡ true
  pub fits_after : fits c.after ≡ true
  pub other : c.before ≡ c.after → ⊥
  pub saw : e.saw ≡ Some (window c.place c.place c.before)

written_is : (e : Trace Window (Option ℤ)) (c : Change (Option ℤ)) → Fair e → e.change ≡ Some c → Written e c
written_is e c blind is = absurd (cc)
written_is e c (seen w order most right) is = absurd (cc)
written_is e c (written d before after most right right') is =
    let told = cond_some (not (same_content before after)) (record { place = d; before = before; after = after }) c is in
    subst (Written (wrote d before after)) told.1 (record {
      there = most;
      fits_before = right;
      fits_after = right';
      other = λ alike. grind (arith, told.0, same_same before);
      saw = refl;
    })

proper : (e : Trace Window (Option ℤ)) (c : Change (Option ℤ)) → Written e c → Proper same_content None shows trace Saw dated_map e c
proper e c write = record {
  other = write.other;
  inside = λ s lawful. omega (arith, lawful.many, write.there);
  saw = λ s lawful saw. (subst (λ v. Saw v s) write.saw saw).0;
  back = λ s lawful. set_days s c.place c.before lawful write.fits_before;
  forth = λ s lawful. set_days s c.place c.after lawful write.fits_after;
}

-- what a window says of one of its days
sight_at : (w : Window) (d : ℕ) (s : List (Option ℤ)) → Saw (Some w) s → w.first ≤ d → d ≤ w.last → held s d ≡ cond (d == w.first) w.content None
sight_at w d s saw low high = grind (arith, nat_tests, saw.1 d)

module _ (c : Change (Option ℤ)) (there : c.place < day_count) (other : c.before ≡ c.after → ⊥) where
  -- a window that shows no change is of other days
  outside : (w : Window) (t : List (Option ℤ)) → held t c.place ≡ c.after → Saw (Some w) t → shows w c ≡ false → w.first ≤ c.place → c.place ≤ w.last → ⊥
  outside w t left saw hidden low high = grind (arith, nat_tests, sight_at w c.place t saw low high, same_same c.after)

  kept : (w : Window) (t : List (Option ℤ)) → w.first ≤ w.last → (w.first ≤ c.place → c.place ≤ w.last → ⊥) → Saw (Some w) t → Saw (Some w) (slice_set t c.place c.before)
  kept w t order away saw = (grind (arith, common_steps), λ e above most. grind (arith, common_steps, saw.1 e))

  apart : (f : Trace Window (Option ℤ)) → Fair f → showing shows f.saw c ≡ false → (t : List (Option ℤ)) → Days t → held t c.place ≡ c.after → Saw f.saw t →
      Saw f.saw (slice_set t c.place c.before) × Elsewhere c.place f.change
  apart f blind hidden t lawful left saw = (tt, tt)
  apart f (seen w order most right) hidden t lawful left saw = (kept w t order (outside w t left saw hidden) saw, tt)
  apart f (written d before after most right right') hidden t lawful left saw =
      let w = window d d before in
      let away = outside w t left saw hidden in (
        kept w t (omega arith) away saw,
        cond_both (not (same_content before after)) (Some (record { place = d; before = before; after = after })) None (Elsewhere c.place) (λ _ is. away (omega arith) (omega arith)) (λ _. tt),
      )

  -- one that shows it has the change in a map of one filled day
  shown_days : (w : Window) (o : Option (Change (Option ℤ))) → w.first ≤ w.last → w.last < day_count → fits w.content ≡ true → shows w c ≡ true →
      Shown same_content None shows trace Saw dated_map (record { saw = Some w; change = o }) c
  shown_days w o order most right found =
      let low : w.first ≤ c.place = grind (arith, nat_tests) in
      let high : c.place ≤ w.last = grind (arith, nat_tests) in
      let seen_is : cond (c.place == w.first) w.content None ≡ c.after = same_is _ _ (and_parts (nat_le w.first c.place && nat_le c.place w.last) _ found).1 in
      let s = only w.first w.content in
      let lawful = only_days w.first w.content right in
      let saw = saw_only w order most in
      record {
        state = s;
        lawful = lawful;
        left = grind (arith, sight_at w c.place s saw low high);
        saw = saw;
        lost = λ after.
            grind (arith, common_steps, lawful.many, sight_at w c.place (slice_set s c.place c.before) after low high);
      }

  shown : (f : Trace Window (Option ℤ)) → Fair f → showing shows f.saw c ≡ true → Shown same_content None shows trace Saw dated_map f c
  shown f blind found = absurd (cc)
  shown f (seen w order most right) found = shown_days w None order most right found
  shown f (written d before after most right right') found = shown_days (window d d before) (wrote d before after).change (omega arith) most right found

ran : (s t : List (Option ℤ)) (r : Record) → Days s → Runs dated_map s r t → (e : Trace Window (Option ℤ)) × ((trace r ≡ Some e) × (Saw e.saw s × (t ≡ changed s e.change)))
ran s t r lawful runs =
    subst₂ (λ a u. Told s (meant r.operation) (a, u)) runs.answers runs.ends (told s (meant r.operation) (sane r.operation) lawful)

runs : (s : List (Option ℤ)) (r : Record) (e : Trace Window (Option ℤ)) → Days s → trace r ≡ Some e → Saw e.saw s → Runs dated_map s r (changed s e.change)
runs s r e lawful is saw = let does_so = does s (meant r.operation) r.answer e is saw in record { answers = does_so.0; ends = does_so.1 }

fair_trace : (r : Record) (e : Trace Window (Option ℤ)) → trace r ≡ Some e → Fair e
fair_trace r e = fair (meant r.operation) r.answer e (sane r.operation)

pub written_by : (r : Record) (e : Trace Window (Option ℤ)) (c : Change (Option ℤ)) → trace r ≡ Some e → e.change ≡ Some c → Written e c
written_by r e c is = written_is e c (fair_trace r e is)

placed : Placed same_content None shows trace Saw dated_map
placed = record {
  equal_same = same_same;
  same_equal = same_is;
  ran = ran;
  runs = runs;
  meets = λ r e is. meets e (fair_trace r e is);
  proper = λ r e c is change. proper e c (written_by r e c is change);
  apart = λ p q e f c has_p has_q is. let write = written_by p e c has_p is in apart c write.there write.other f (fair_trace q f has_q);
  shown = λ p q e f c has_p has_q is. let write = written_by p e c has_p is in shown c write.there write.other f (fair_trace q f has_q);
  withdrawn = λ s r. refl;
  tested = λ p q. refl;
}

pub dated_map_laws : Laws dated_map
dated_map_laws = placed_laws same_content None shows trace Saw dated_map placed

pub dated_map_withdrawals : PlainWithdrawals dated_map
dated_map_withdrawals = placed_withdrawals same_content None shows trace Saw dated_map placed

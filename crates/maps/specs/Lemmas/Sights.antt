-- A map's records go by their traces.
use Rattle.std.specs.Prelude.{◌≡◌, ℕ, ◌<◌, ◌≤◌, true, List, ℤ, Some, None, Option, IfSome, slice_set, refl}
use Rattle.std.proofs.Common.{sym, ap, subst, ◌∙◌, arith}
use Rattle.std.proofs.lemmas.List.{set-get_or}
use Rattle.std.proofs.lemmas.Int.{ints}
use Rattle.std.proofs.lemmas.Bool.{and_from, and_parts}
use Rattle.std.proofs.lemmas.Bool.Decides.{nat_tests}
use Rattle.objects.specs.declared.records.Answer.{Answer}
use Rattle.objects.specs.declared.records.Operation.{Operation}
use Rattle.objects.specs.declared.traces.Trace.{Trace}
use Rattle.objects.specs.Answers.{absent, bad, found, new, nothing, old, same}
use Rattle.objects.specs.Kinds.{provided}
use Rattle.objects.specs.Traces.{either, looked}
use Rattle.objects.proofs.Placed.{changed}
use Rattle.std.proofs.lemmas.Option.{cond_some}
use Rattle.objects.proofs.Provided.{either_both}
use Rattle.objects.proofs.Same.{same_refl, same_true}
use Rattle.maps.specs.declared.request.Request.{Request}
use Rattle.maps.specs.declared.request.Request.TheVariants.{Put, Drop, Find}
use Rattle.maps.specs.declared.trace.Window.{Window}
use Rattle.maps.specs.Days.{Days, day_count, fits, held, in_range}
use Rattle.maps.specs.Kind.{did, found_at, replaced}
use Rattle.maps.specs.Latest.{IsLatest, latest}
use Rattle.maps.specs.Requests.{Sane, meant}
use Rattle.maps.specs.Traces.{is_found, is_old, traced, window, wrote}
use Rattle.maps.specs.Lemmas.Contents.{same_is}
use Rattle.maps.specs.Lemmas.Latest.{latest_right, latest_unique}

-- what a record says that it saw, is so
abbrev pub Saw : Option Window → List (Option ℤ) → Type 0
Saw None s = Unit {0}
Saw (Some w) s = (held s w.first ≡ w.content) × ((e : ℕ) → w.first < e → e ≤ w.last → held s e ≡ None)

-- the traces that records have
pub data Fair : Trace Window (Option ℤ) → Type 0 where
  blind : Fair (looked None)
  seen : (w : Window) → w.first ≤ w.last → w.last < day_count → fits w.content ≡ true → Fair (looked (Some w))
  written : (d : ℕ) (before after : Option ℤ) → d < day_count → fits before ≡ true → fits after ≡ true → Fair (wrote d before after)

pub sane : (o : Operation) → IfSome (meant o) Sane
sane o = grind (arith, ints, nat_tests)

-- put and drop have the traces of a write, by what they answer on an empty day and what they leave
abbrev written_as : ℕ → Answer → Option ℤ → Answer → Option (Trace Window (Option ℤ))
written_as d else after a = either (same a else) (wrote d None after) (is_old a) (wrote d (Some a.value) after)

fair_written : (d : ℕ) (else : Answer) (after : Option ℤ) (a : Answer) (e : Trace Window (Option ℤ)) → d < day_count → fits after ≡ true → written_as d else after a ≡ Some e → Fair e
fair_written d else after a e there right =
    either_both (same a else) (is_old a) _ _ Fair (λ _. written d None after there refl right) (λ old_is. written d (Some a.value) after there (and_parts _ _ old_is).1 right) e

pub fair : (m : Option Request) (a : Answer) (e : Trace Window (Option ℤ)) → IfSome m Sane → traced m a ≡ Some e → Fair e
fair (Some (Put d v)) a e h is = fair_written d new (Some v) a e h.0 h.1 is
fair (Some (Drop d)) a e h is = fair_written d absent None a e h refl is
fair (Some (Find d)) a e h is =
    either_both (same a nothing) (is_found d a) _ _ Fair (λ _. seen (window 0 d None) (omega arith) h refl)
    (λ found_is. seen (window a.place d (Some a.value)) (grind (arith, nat_tests)) h (grind (arith, nat_tests)))
    e is
fair None a e h is = subst Fair (cond_some (same a bad) _ e is).1 blind

-- a run's answer names the trace of what it saw and did
abbrev pub Told : List (Option ℤ) → Option Request → Answer × List (Option ℤ) → Type 0
Told s m r = (e : Trace Window (Option ℤ)) × ((traced m r.0 ≡ Some e) × (Saw e.saw s × (r.1 ≡ changed s e.change)))

-- a write of what was there changes nothing
wrote_changed : (s : List (Option ℤ)) (d : ℕ) (before after : Option ℤ) → held s d ≡ before → slice_set s d after ≡ changed s (wrote d before after).change
wrote_changed s d before after is = grind (arith, same_is before after, set-get_or s d None)

saw_day : (s : List (Option ℤ)) (d : ℕ) (before : Option ℤ) → held s d ≡ before → Saw (Some (window d d before)) s
saw_day s d before is = (is, λ e above most. absurd (omega arith))

-- a day that is written, by what it held
written_told : (s : List (Option ℤ)) (m : Option Request) (d : ℕ) (else : Answer) (after c : Option ℤ) →
    traced m else ≡ Some (wrote d None after) → ((w : ℤ) → is_old (old w) ≡ true → traced m (old w) ≡ Some (wrote d (Some w) after)) →
    held s d ≡ c → fits c ≡ true → Told s m (replaced else c, slice_set s d after)
written_told s m d else after None first second is right = (wrote d None after, (first, (saw_day s d None is, wrote_changed s d None after is)))
written_told s m d else after (Some w) first second is right =
    (wrote d (Some w) after, (second w (and_from _ _ (same_refl (old w)) right), (saw_day s d (Some w) is, wrote_changed s d (Some w) after is)))

found_told : (s : List (Option ℤ)) (d : ℕ) (o : Option (ℕ × ℤ)) → d < day_count → Days s → IsLatest s d o → Told s (Some (Find d)) (found_at o, s)
found_told s d None h lawful is = (looked (Some (window 0 d None)), (refl, ((is 0 (omega arith), λ e above most. is e most), refl)))
found_told s d (Some x) h lawful is =
    let right : in_range x.1 ≡ true = sym (ap fits is.1) ∙ lawful.each x.0 (omega arith) in
    let saw : Trace Window (Option ℤ) = looked (Some (window x.0 d (Some x.1))) in
    let can : is_found d (found x.0 x.1) ≡ true = grind (arith, nat_tests, same_refl (found x.0 x.1)) in
    (saw, (ap (λ b. provided b saw) can, ((is.1, is.2), refl)))

pub told : (s : List (Option ℤ)) (m : Option Request) → IfSome m Sane → Days s → Told s m (did s m)
told s (Some (Put d v)) h lawful =
    written_told s (Some (Put d v)) d new (Some v) (held s d) refl (λ w can. ap (λ b. provided b (wrote d (Some w) (Some v))) can) refl (lawful.each d h.0)
told s (Some (Drop d)) h lawful =
    written_told s (Some (Drop d)) d absent None (held s d) refl (λ w can. ap (λ b. provided b (wrote d (Some w) None)) can) refl (lawful.each d h)
told s (Some (Find d)) h lawful = found_told s d (latest s d) h lawful (latest_right s d)
told s None h lawful = (looked None, (refl, (tt, refl)))

-- where a trace saw what there is, its record runs
abbrev pub Does : List (Option ℤ) → Option Request → Answer → Trace Window (Option ℤ) → Type 0
Does s m a e = Saw e.saw s → ((did s m).0 ≡ a) × ((did s m).1 ≡ changed s e.change)

writes : (s : List (Option ℤ)) (d : ℕ) (else a : Answer) (before after : Option ℤ) → same a (replaced else before) ≡ true → held s d ≡ before →
    (replaced else (held s d) ≡ a) × (slice_set s d after ≡ changed s (wrote d before after).change)
writes s d else a before after answer is = (ap (replaced else) is ∙ sym (same_true a (replaced else before) answer), wrote_changed s d before after is)

written_does : (s : List (Option ℤ)) (d : ℕ) (else : Answer) (after : Option ℤ) (a : Answer) (e : Trace Window (Option ℤ)) → written_as d else after a ≡ Some e → Saw e.saw s →
    (replaced else (held s d) ≡ a) × (slice_set s d after ≡ changed s e.change)
written_does s d else after a e =
    either_both (same a else) (is_old a) _ _ (λ f. Saw f.saw s → (replaced else (held s d) ≡ a) × (slice_set s d after ≡ changed s f.change))
    (λ answer saw. writes s d else a None after answer saw.0)
    (λ answer saw. writes s d else a (Some a.value) after (and_parts _ _ answer).0 saw.0)
    e

pub does : (s : List (Option ℤ)) (m : Option Request) (a : Answer) (e : Trace Window (Option ℤ)) → traced m a ≡ Some e → Does s m a e
does s (Some (Put d v)) a e is = written_does s d new (Some v) a e is
does s (Some (Drop d)) a e is = written_does s d absent None a e is
does s (Some (Find d)) a e is =
    either_both (same a nothing) (is_found d a) _ _ (Does s (Some (Find d)) a)
    (λ answer saw. (ap found_at (sym (latest_unique s d None (λ e most. grind (arith, saw.1 e)))) ∙ sym (same_true a nothing answer), refl))
    (λ answer saw. let told = and_parts (same a (found a.place a.value)) _ answer in
    let most : a.place ≤ d = grind (arith, nat_tests) in
    (ap found_at (sym (latest_unique s d (Some (a.place, a.value)) (most, saw.0, saw.1))) ∙ sym (same_true a (found a.place a.value) told.0), refl))
    e is
does s None a e is = let told = cond_some (same a bad) _ e is in subst (Does s None a) told.1 (λ _. (sym (same_true a bad told.0), refl))

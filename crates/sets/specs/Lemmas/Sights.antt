-- A set's records go by their traces.
use Rattle.std.specs.Prelude.{◌≡◌, ℕ, ◌<◌, ◌≤◌, Bool, true, false, cond, List, pos, Some, None, Option, IfSome, slice_set, refl}
use Rattle.std.proofs.Common.{sym, ap, subst, ◌∙◌, arith}
use Rattle.std.specs.Int.RustNames.{unsigned_abs}
use Rattle.std.proofs.lemmas.Int.{ints}
use Rattle.std.proofs.lemmas.Bool.{and_parts, cond_both, cond-false, cond-true}
use Rattle.std.proofs.lemmas.Bool.Decides.{nat_tests}
use Rattle.objects.specs.declared.records.Answer.{Answer}
use Rattle.objects.specs.declared.records.Operation.{Operation}
use Rattle.objects.specs.declared.traces.Trace.{Trace}
use Rattle.objects.specs.Answers.{absent, already, answer_no, answer_yes, bad, gone, holding, new, same}
use Rattle.objects.specs.Traces.{looked}
use Rattle.objects.proofs.Placed.{changed}
use Rattle.std.proofs.lemmas.Option.{cond_some}
use Rattle.objects.proofs.Provided.{either_both}
use Rattle.objects.proofs.Same.{picked, same_true}
use Rattle.sets.specs.declared.request.Request.{Request}
use Rattle.sets.specs.declared.request.Request.TheVariants.{Insert, Remove, Has, Size}
use Rattle.sets.specs.declared.trace.Seen.{Seen}
use Rattle.sets.specs.declared.trace.Seen.TheVariants.{Key, Count}
use Rattle.sets.specs.Kind.{did}
use Rattle.sets.specs.Members.{Members, keys, member, size}
use Rattle.sets.specs.Requests.{Sane, meant}
use Rattle.sets.specs.Traces.{is_count, traced, turned_key}
use Rattle.sets.specs.Lemmas.Counted.{size_most}

-- what a record says that it saw, is so
abbrev pub Saw : Option Seen → List Bool → Type 0
Saw None s = Unit {0}
Saw (Some (Key k b)) s = member s k ≡ b
Saw (Some (Count n)) s = pos (size s) ≡ n

-- the traces that records have
pub data Fair : Trace Seen Bool → Type 0 where
  blind : Fair (looked None)
  saw_key : (k : ℕ) (b : Bool) → k < keys → Fair (looked (Some (Key k b)))
  turned : (k : ℕ) (b : Bool) → k < keys → Fair (turned_key k b)
  counted : (n : ℕ) → n ≤ keys → Fair (looked (Some (Count (pos n))))

pub sane : (o : Operation) → IfSome (meant o) Sane
sane o = grind (arith, nat_tests)

-- a count that size can answer is one from 0 to 256
count_is : (a : Answer) → is_count a ≡ true → (n : ℕ) × ((n ≤ keys) × (pos n ≡ a.value))
count_is a h = (unsigned_abs a.value, (grind (arith, ints), grind (arith, ints)))

pub fair : (m : Option Request) (a : Answer) (e : Trace Seen Bool) → IfSome m Sane → traced m a ≡ Some e → Fair e
fair (Some (Insert k)) a e h is = either_both (same a new) (same a already) _ _ Fair (λ _. turned k false h) (λ _. saw_key k true h) e is
fair (Some (Remove k)) a e h is = either_both (same a gone) (same a absent) _ _ Fair (λ _. turned k true h) (λ _. saw_key k false h) e is
fair (Some (Has k)) a e h is = either_both (same a answer_yes) (same a answer_no) _ _ Fair (λ _. saw_key k true h) (λ _. saw_key k false h) e is
fair (Some Size) a e h is =
    let told = cond_some (is_count a) _ e is in
    let n = count_is a told.0 in
    subst Fair told.1 (subst (λ v. Fair (looked (Some (Count v)))) n.1.1 (counted n.0 n.1.0))
fair None a e h is = subst Fair (cond_some (same a bad) _ e is).1 blind

-- a run's answer names the trace of what it saw and did
abbrev pub Told : List Bool → Option Request → Answer × List Bool → Type 0
Told s m r = (e : Trace Seen Bool) × ((traced m r.0 ≡ Some e) × (Saw e.saw s × (r.1 ≡ changed s e.change)))

pub told : (s : List Bool) (m : Option Request) → Members s → Told s m (did s m)
told s (Some (Insert k)) members =
    cond_both (member s k) (already, s) (new, slice_set s k true) (Told s (Some (Insert k))) (λ is. (looked (Some (Key k true)), (refl, (is, refl)))) (λ is. (turned_key k false, (refl, (is, refl))))
told s (Some (Remove k)) members =
    cond_both (member s k) (gone, slice_set s k false) (absent, s) (Told s (Some (Remove k))) (λ is. (turned_key k true, (refl, (is, refl)))) (λ is. (looked (Some (Key k false)), (refl, (is, refl))))
told s (Some (Has k)) members =
    cond_both (member s k) answer_yes answer_no (λ a. Told s (Some (Has k)) (a, s)) (λ is. (looked (Some (Key k true)), (refl, (is, refl)))) (λ is. (looked (Some (Key k false)), (refl, (is, refl))))
told s (Some Size) members =
    let most = size_most s members in
    (looked (Some (Count (pos (size s)))), (grind (arith, ints), (refl, refl)))
told s None members = (looked None, (refl, (tt, refl)))

-- where a trace saw what there is, its record runs
abbrev pub Does : List Bool → Option Request → Answer → Trace Seen Bool → Type 0
Does s m a e = Saw e.saw s → ((did s m).0 ≡ a) × ((did s m).1 ≡ changed s e.change)

pub does : (s : List Bool) (m : Option Request) (a : Answer) (e : Trace Seen Bool) → traced m a ≡ Some e → Does s m a e
does s (Some (Insert k)) a e is =
    either_both (same a new) (same a already) _ _ (Does s (Some (Insert k)) a)
    (λ is saw. picked _ (new, slice_set s k true) a _ (cond-false (member s k) _ _ saw) is refl)
    (λ is saw. picked _ (already, s) a _ (cond-true (member s k) _ _ saw) is refl)
    e is
does s (Some (Remove k)) a e is =
    either_both (same a gone) (same a absent) _ _ (Does s (Some (Remove k)) a)
    (λ is saw. picked _ (gone, slice_set s k false) a _ (cond-true (member s k) _ _ saw) is refl)
    (λ is saw. picked _ (absent, s) a _ (cond-false (member s k) _ _ saw) is refl)
    e is
does s (Some (Has k)) a e is =
    either_both (same a answer_yes) (same a answer_no) _ _ (Does s (Some (Has k)) a)
    (λ is saw. picked _ (answer_yes, s) a _ (ap (λ b. (cond b answer_yes answer_no, s)) saw) is refl)
    (λ is saw. picked _ (answer_no, s) a _ (ap (λ b. (cond b answer_yes answer_no, s)) saw) is refl)
    e is
does s (Some Size) a e is =
    let told = cond_some (is_count a) _ e is in
    subst (Does s (Some Size) a) told.1 (λ saw. (ap holding saw ∙ sym (same_true a (holding a.value) (and_parts _ _ told.0).0), refl))
does s None a e is = let told = cond_some (same a bad) _ e is in subst (Does s None a) told.1 (λ _. (sym (same_true a bad told.0), refl))

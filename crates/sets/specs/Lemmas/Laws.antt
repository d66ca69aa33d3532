-- A set keeps the laws of an object.
use Rattle.std.specs.Prelude.{◌≡◌, ℕ, ◌<◌, ◌≤◌, Bool, true, false, not, List, length, pos, Some, ◌≢◌, slice_index_or, slice_set, refl}
use Rattle.std.proofs.Common.{sym, ap, subst, subst₂, ◌∙◌, arith}
use Rattle.std.specs.Bool.{beq}
use Rattle.std.specs.Cmp.{booleans_Decides}
use Rattle.std.proofs.Math.Bool.{not-not}
use Rattle.std.proofs.lemmas.List.{get_or-set_other, get_or-set_same, length-set}
use Rattle.std.proofs.lemmas.Int.{ints}
use Rattle.std.proofs.lemmas.Bool.Decides.{nat_tests}
use Rattle.std.proofs.lemmas.Bool.{both_ways}
use Rattle.objects.specs.declared.records.Record.{Record}
use Rattle.objects.specs.declared.traces.Change.{Change}
use Rattle.objects.specs.declared.traces.Trace.{Trace}
use Rattle.objects.specs.Kinds.{Laws, PlainWithdrawals, Runs, provided}
use Rattle.objects.specs.Traces.{looked, restored, reverted, showing}
use Rattle.objects.proofs.Placed.{Elsewhere, Placed, Proper, Shown, changed, placed_laws, placed_withdrawals}
use Rattle.sets.specs.declared.trace.Seen.{Seen}
use Rattle.sets.specs.declared.trace.Seen.TheVariants.{Key, Count}
use Rattle.sets.specs.Kind.{key_set}
use Rattle.sets.specs.Members.{Members, empty, keys, member, size, turned as turned_from}
use Rattle.sets.specs.Requests.{meant}
use Rattle.sets.specs.Traces.{shows, trace, turned_key}
use Rattle.sets.specs.Lemmas.Counted.{first, first_members, size_first, size_set, size_with, size_without, sized}
use Rattle.sets.specs.Lemmas.Sights.{Fair, Saw, Told, blind, counted, does, fair, sane, saw_key, told, turned}

pub not_itself : (b : Bool) → b ≢ not b
not_itself b e = grind (arith, booleans_Decides)

-- a set in which a key is a member, or isn't
only : ℕ → Bool → List Bool
only k b = slice_set empty k b

empty_many : length empty ≡ keys
unfolding empty
empty_many = refl

only_members : (k : ℕ) (b : Bool) → Members (only k b)
unfolding only
only_members k b = record { many = length-set empty k b ∙ empty_many }

only_holds : (k : ℕ) (b : Bool) → k < keys → member (only k b) k ≡ b
unfolding only
only_holds k b h = get_or-set_same empty k b false (omega (arith, empty_many))

meets : (e : Trace Seen Bool) → Fair e → (s : List Bool) × (Members s × Saw e.saw s)
meets e blind = (empty, (record { many = empty_many }, tt))
meets e (saw_key k b h) = (only k b, (only_members k b, only_holds k b h))
meets e (turned k b h) = (only k b, (only_members k b, only_holds k b h))
meets e (counted n h) = (first n, (first_members n h, ap pos (size_first n)))

-- a change is of a key, and turns it
pub record Turned (e : Trace Seen Bool) (c : Change Bool) : Type 0 where
  pub there : c.place < keys
  pub turns : c.before ≡ not c.after
  pub saw : e.saw ≡ Some (Key c.place c.before)

turned_is : (e : Trace Seen Bool) (c : Change Bool) → Fair e → e.change ≡ Some c → Turned e c
turned_is e c blind is = absurd cc
turned_is e c (saw_key k b h) is = absurd cc
turned_is e c (turned k b h) is =
    let turn : Change Bool = record { place = k; before = b; after = not b } in
    let same_change : turn ≡ c = cc in
    subst (Turned (turned_key k b)) same_change (record { there = h; turns = sym (not-not b); saw = refl })
turned_is e c (counted n h) is = absurd cc

set_members : (s : List Bool) (k : ℕ) (b : Bool) → Members s → Members (slice_set s k b)
set_members s k b members = record { many = length-set s k b ∙ members.many }

proper : (e : Trace Seen Bool) (c : Change Bool) → Turned e c → Proper beq false shows trace Saw key_set e c
proper e c turn = record {
  other = λ is. not_itself c.after (sym is ∙ turn.turns);
  inside = λ s members. omega (arith, members.many, turn.there);
  saw = λ s members saw. subst (λ v. Saw v s) turn.saw saw;
  back = λ s members. set_members s c.place c.before members;
  forth = λ s members. set_members s c.place c.after members;
}

module _ (c : Change Bool) (turns : c.before ≡ not c.after) (there : c.place < keys) where
  -- a key that shows no change is another one
  other_key : (k : ℕ) (b : Bool) (t : List Bool) → slice_index_or t c.place false ≡ c.after → member t k ≡ b → shows (Key k b) c ≡ false → k ≢ c.place
  other_key k b t left saw hidden is = grind (arith, nat_tests, booleans_Decides)

  kept : (k : ℕ) (b : Bool) (t : List Bool) → (k ≢ c.place) → member t k ≡ b → member (slice_set t c.place c.before) k ≡ b
  kept k b t ne saw = get_or-set_other t c.place k c.before false ne ∙ saw

  -- every set shows a count that a change moves
  no_count : (n : ℕ) (t : List Bool) → Members t → slice_index_or t c.place false ≡ c.after → pos (size t) ≡ pos n → shows (Count (pos n)) c ≢ false
  no_count n t members left saw hidden = grind (arith, ints, size_with t c.place members there, size_without t c.place members there)

  apart : (f : Trace Seen Bool) → Fair f → showing shows f.saw c ≡ false → (t : List Bool) → Members t → slice_index_or t c.place false ≡ c.after → Saw f.saw t →
      Saw f.saw (slice_set t c.place c.before) × Elsewhere c.place f.change
  apart f blind hidden t members left saw = (tt, tt)
  apart f (saw_key k b h) hidden t members left saw = (kept k b t (other_key k b t left saw hidden) saw, tt)
  apart f (turned k b h) hidden t members left saw = (kept k b t (other_key k b t left saw hidden) saw, λ e. other_key k b t left saw hidden (sym e))
  apart f (counted n h) hidden t members left saw = absurd (no_count n t members left saw hidden)

  shown_key : (f : Trace Seen Bool) (k : ℕ) (b : Bool) → f.saw ≡ Some (Key k b) → shows (Key k b) c ≡ true → Shown beq false shows trace Saw key_set f c
  shown_key f k b is found =
      let same_key : k ≡ c.place = grind (arith, nat_tests) in
      let as_left : b ≡ c.after = grind (arith, booleans_Decides) in
      let sight : f.saw ≡ Some (Key c.place c.after) = cc in
      let s = only c.place c.after in
      let there_in : c.place < length s = omega (arith, (only_members c.place c.after).many) in
      record {
        state = s;
        lawful = only_members c.place c.after;
        left = only_holds c.place c.after there;
        saw = subst (λ v. Saw v s) (sym sight) (only_holds c.place c.after there);
        lost = λ saw. not_itself c.after (sym (subst (λ v. Saw v (slice_set s c.place c.before)) sight saw) ∙ get_or-set_same s c.place c.before false there_in ∙ turns);
      }

  -- a count moves by one where a change is taken back
  lost_count : (n : ℕ) (s : List Bool) → Members s → member s c.place ≡ c.after → size s ≡ n → pos (size (slice_set s c.place c.before)) ≢ pos n
  lost_count n s members holds many same =
      grind (arith, ints, size_set s c.place c.before (omega (arith, members.many)))

  shown_count : (n : ℕ) → n ≤ keys → shows (Count (pos n)) c ≡ true → Shown beq false shows trace Saw key_set (looked (Some (Count (pos n)))) c
  shown_count n most found =
      let some : c.after ≡ true → 0 < n = λ is. grind (arith, ints) in
      let less : c.after ≡ false → n < keys = λ is. grind (arith, ints) in
      let case = sized c.place n c.after there most some less in
      record {
        state = case.state;
        lawful = case.members;
        left = case.holds;
        saw = ap pos case.many;
        lost = lost_count n case.state case.members case.holds case.many;
      }

  shown : (f : Trace Seen Bool) → Fair f → showing shows f.saw c ≡ true → Shown beq false shows trace Saw key_set f c
  shown f blind found = absurd (both_ways false refl found)
  shown f (saw_key k b h) found = shown_key f k b refl found
  shown f (turned k b h) found = shown_key f k b refl found
  shown f (counted n h) found = shown_count n h found

ran : (s t : List Bool) (r : Record) → Members s → Runs key_set s r t → (e : Trace Seen Bool) × ((trace r ≡ Some e) × (Saw e.saw s × (t ≡ changed s e.change)))
ran s t r members runs =
    subst₂ (λ a u. Told s (meant r.operation) (a, u)) runs.answers runs.ends (told s (meant r.operation) members)

runs : (s : List Bool) (r : Record) (e : Trace Seen Bool) → Members s → trace r ≡ Some e → Saw e.saw s → Runs key_set s r (changed s e.change)
runs s r e members is saw = let does_so = does s (meant r.operation) r.answer e is saw in record { answers = does_so.0; ends = does_so.1 }

fair_trace : (r : Record) (e : Trace Seen Bool) → trace r ≡ Some e → Fair e
fair_trace r e = fair (meant r.operation) r.answer e (sane r.operation)

pub turned_by : (r : Record) (e : Trace Seen Bool) (c : Change Bool) → trace r ≡ Some e → e.change ≡ Some c → Turned e c
turned_by r e c is = turned_is e c (fair_trace r e is)

-- the change of a record taken back is a turn of its key
pub turned_back : (s : List Bool) (r : Record) (e : Trace Seen Bool) (c : Change Bool) → Some e ≡ trace r → e.change ≡ Some c → turned_from s c.place c.after ≡ reverted beq false s (trace r)
turned_back s r e c has is =
    ap (λ b. provided (beq (member s c.place) c.after) (slice_set s c.place b)) (sym (turned_by r e c (sym has) is).turns)
    ∙ ap (restored beq false s) (sym is)
    ∙ ap (reverted beq false s) has

placed : Placed beq false shows trace Saw key_set
placed = record {
  equal_same = λ b. (booleans_Decides b b).1 refl;
  same_equal = λ b c. (booleans_Decides b c).0;
  ran = ran;
  runs = runs;
  meets = λ r e is. meets e (fair_trace r e is);
  proper = λ r e c is change. proper e c (turned_by r e c is change);
  apart = λ p q e f c has_p has_q is. let turn = turned_by p e c has_p is in apart c turn.turns turn.there f (fair_trace q f has_q);
  shown = λ p q e f c has_p has_q is. let turn = turned_by p e c has_p is in shown c turn.turns turn.there f (fair_trace q f has_q);
  withdrawn = λ s r. refl;
  tested = λ p q. refl;
}

pub key_set_laws : Laws key_set
key_set_laws = placed_laws beq false shows trace Saw key_set placed

pub key_set_withdrawals : PlainWithdrawals key_set
key_set_withdrawals = placed_withdrawals beq false shows trace Saw key_set placed

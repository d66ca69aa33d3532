-- A kind whose states are lists of places keeps the laws, if its records go by their traces.
use Rattle.std.proofs.Common.{◌≡◌, ℕ, ◌<◌, Bool, true, false, List, length, get_or, set, Some, None, Option, sym, refl, ap, ◌∙◌, subst, ap₂, subst₂, ⊎_elim, arith}
use Rattle.std.proofs.lemmas.List.{get_or-set_same, get_or-set_other, set_comm, set-get_or, set-set}
use Rattle.std.proofs.lemmas.Bool.{cases_Bool, cond-true, not_from_false, not-true}
use Rattle.objects.specs.declared.records.Operation.{Operation}
use Rattle.objects.specs.declared.records.Record.{Record}
use Rattle.objects.specs.declared.traces.Change.{Change}
use Rattle.objects.specs.declared.traces.Trace.{Trace}
use Rattle.objects.specs.Kinds.{Commutes, Kind, Laws, PlainWithdrawals, Runs}
use Rattle.objects.specs.Traces.{cleared, restored, reverted, showing, unseen}
use Rattle.std.proofs.lemmas.Option.{cond_some}

-- the places after a change, if there was one
abbrev pub changed : {X : Type 0} → List X → Option (Change X) → List X
changed s None = s
changed s (Some c) = set s c.place c.after

-- a change, if there is one, is elsewhere
abbrev pub Elsewhere : {X : Type 0} → ℕ → Option (Change X) → Type 0
Elsewhere n None = Unit {0}
Elsewhere n (Some c) = n ≡ c.place → ⊥

-- what a kind over the places of X has to show: `Saw v s`, that what v says was seen is so in s
module _ {V X : Type 0} (equal : X → X → Bool) (blank : X) (shows : V → Change X → Bool) (trace : Record → Option (Trace V X)) (Saw : Option V → List X → Type 0) (k : Kind (List X)) where
  -- the change of a record with the trace e
  pub record Proper (e : Trace V X) (c : Change X) : Type 0 where
    pub other : c.before ≡ c.after → ⊥
    pub inside : (s : List X) → k.Lawful s → c.place < length s
    pub saw : (s : List X) → k.Lawful s → Saw e.saw s → get_or s c.place blank ≡ c.before
    pub back : (s : List X) → k.Lawful s → k.Lawful (set s c.place c.before)
    pub forth : (s : List X) → k.Lawful s → k.Lawful (set s c.place c.after)

  -- a lawful state in which the later trace f sees what the change c left, and sees it no more once that is taken back
  pub record Shown (f : Trace V X) (c : Change X) : Type 0 where
    pub state : List X
    pub lawful : k.Lawful state
    pub left : get_or state c.place blank ≡ c.after
    pub saw : Saw f.saw state
    pub lost : Saw f.saw (set state c.place c.before) → ⊥

  pub record Placed : Type 0 where
    pub equal_same : (x : X) → equal x x ≡ true
    pub same_equal : (x y : X) → equal x y ≡ true → x ≡ y
    -- a record runs in the states that its trace saw, and no other
    pub ran : (s t : List X) (r : Record) → k.Lawful s → Runs k s r t → (e : Trace V X) × ((trace r ≡ Some e) × (Saw e.saw s × (t ≡ changed s e.change)))
    pub runs : (s : List X) (r : Record) (e : Trace V X) → k.Lawful s → trace r ≡ Some e → Saw e.saw s → Runs k s r (changed s e.change)
    pub meets : (r : Record) (e : Trace V X) → trace r ≡ Some e → (s : List X) × (k.Lawful s × Saw e.saw s)
    pub proper : (r : Record) (e : Trace V X) (c : Change X) → trace r ≡ Some e → e.change ≡ Some c → Proper e c
    -- a sight that shows no change is the same without it; one that shows it isn't
    pub apart : (p q : Record) (e f : Trace V X) (c : Change X) → trace p ≡ Some e → trace q ≡ Some f → e.change ≡ Some c → showing shows f.saw c ≡ false →
        (t : List X) → k.Lawful t → get_or t c.place blank ≡ c.after → Saw f.saw t → Saw f.saw (set t c.place c.before) × Elsewhere c.place f.change
    pub shown : (p q : Record) (e f : Trace V X) (c : Change X) → trace p ≡ Some e → trace q ≡ Some f → e.change ≡ Some c → showing shows f.saw c ≡ true → Shown f c
    -- withdrawal and test are those of the traces
    pub withdrawn : (s : List X) (r : Record) → k.withdrawn s r ≡ reverted equal blank s (trace r)
    pub tested : (p q : Record) → k.tested p q ≡ cleared shows (trace p) (trace q)

  module _ (P : Placed) where
    -- a record with a trace, after the run
    restored_after : (s : List X) (r : Record) (e : Trace V X) (o : Option (Change X)) → trace r ≡ Some e → e.change ≡ o → k.Lawful s → Saw e.saw s → restored equal blank (changed s o) o ≡ Some s
    restored_after s r e None has is lawful saw = refl
    restored_after s r e (Some c) has is lawful saw =
        let proper = P.proper r e c has is in
        let u = set s c.place c.after in
        let held = get_or-set_same s c.place c.after blank (proper.inside s lawful) in
        cond-true _ (Some (set u c.place c.before)) None (subst (λ x. equal x c.after ≡ true) (sym held) (P.equal_same c.after))
        ∙ ap Some (set-set s c.place c.after c.before ∙ ap (set s c.place) (sym (proper.saw s lawful saw)) ∙ set-get_or s c.place blank)

    withdrawn_by : (s : List X) (r : Record) (e : Trace V X) → trace r ≡ Some e → k.withdrawn s r ≡ restored equal blank s e.change
    withdrawn_by s r e has = P.withdrawn s r ∙ ap (reverted equal blank s) has

    undo : (s t : List X) (r : Record) → k.Lawful s → Runs k s r t → k.withdrawn t r ≡ Some s
    undo s t r lawful runs =
        let told = P.ran s t r lawful runs in
        let e = told.0 in
        ap (λ u. k.withdrawn u r) told.1.1.1
        ∙ withdrawn_by _ r e told.1.0
        ∙ restored_after s r e e.change told.1.0 refl lawful told.1.1.0

    changed_lawful : (s : List X) (r : Record) (e : Trace V X) (o : Option (Change X)) → trace r ≡ Some e → e.change ≡ o → k.Lawful s → k.Lawful (changed s o)
    changed_lawful s r e None has is lawful = lawful
    changed_lawful s r e (Some c) has is lawful = (P.proper r e c has is).forth s lawful

    runs_lawful : (s t : List X) (r : Record) → k.Lawful s → Runs k s r t → k.Lawful t
    runs_lawful s t r lawful runs =
        let told = P.ran s t r lawful runs in
        subst k.Lawful (sym told.1.1.1) (changed_lawful s r told.0 told.0.change told.1.0 refl lawful)

    run_lawful : (s : List X) (o : Operation) → k.Lawful s → k.Lawful (k.ran s o).1
    run_lawful s o lawful = runs_lawful s (k.ran s o).1 (record { operation = o; answer = (k.ran s o).0 }) lawful (record { answers = refl; ends = refl })

    -- where a withdrawal applies: the record has a trace, and its change stands
    abbrev Stands : List X → List X → Option (Change X) → Type 0
    Stands s v None = s ≡ v
    Stands s v (Some c) = (get_or s c.place blank ≡ c.after) × (set s c.place c.before ≡ v)

    stands : (s v : List X) (o : Option (Change X)) → restored equal blank s o ≡ Some v → Stands s v o
    stands s v None e = cc
    stands s v (Some c) e = let told = cond_some _ (set s c.place c.before) v e in (P.same_equal _ _ told.0, told.1)

    withdrew : (s v : List X) (r : Record) → k.withdrawn s r ≡ Some v → (e : Trace V X) × ((trace r ≡ Some e) × Stands s v e.change)
    withdrew s v r is = go (trace r) refl
      where
        go : (o : Option (Trace V X)) → trace r ≡ o → (e : Trace V X) × ((trace r ≡ Some e) × Stands s v e.change)
        go None has = let z : ◌≡◌ {A = ℕ} 0 1 = cc (P.withdrawn s r, ap (reverted equal blank s) has) in absurd (omega arith)
        go (Some e) has = (e, (has, stands s v e.change (sym (withdrawn_by s r e has) ∙ is)))

    stands_lawful : (s v : List X) (r : Record) (e : Trace V X) (o : Option (Change X)) → trace r ≡ Some e → e.change ≡ o → k.Lawful s → Stands s v o → k.Lawful v
    stands_lawful s v r e None has is lawful st = subst k.Lawful st lawful
    stands_lawful s v r e (Some c) has is lawful st = subst k.Lawful st.1 ((P.proper r e c has is).back s lawful)

    withdraw_lawful : (s t : List X) (r : Record) → k.Lawful s → k.withdrawn s r ≡ Some t → k.Lawful t
    withdraw_lawful s t r lawful is =
        let told = withdrew s t r is in stands_lawful s t r told.0 told.0.change told.1.0 refl lawful told.1.1

    -- both ways round come to one state
    abbrev Square : Record → Record → List X → List X → Type 0
    Square p q u v = (w : List X) × ((k.withdrawn u p ≡ Some w) × Runs k v q w)

    -- a change elsewhere and one that is taken back
    changes_apart : (t : List X) (c : Change X) (o : Option (Change X)) → Elsewhere c.place o →
        (get_or (changed t o) c.place blank ≡ get_or t c.place blank) × (changed (set t c.place c.before) o ≡ set (changed t o) c.place c.before)
    changes_apart t c None away = (refl, refl)
    changes_apart t c (Some d) away = (get_or-set_other t d.place c.place d.after blank away, set_comm t c.place d.place c.before d.after away)

    -- p's withdrawal takes a change back that q did not see
    square : (p q : Record) (e f : Trace V X) (c : Change X) (t : List X) → trace p ≡ Some e → trace q ≡ Some f → e.change ≡ Some c → k.Lawful t →
        get_or t c.place blank ≡ c.after → Saw f.saw t → showing shows f.saw c ≡ false → Square p q (changed t f.change) (set t c.place c.before)
    square p q e f c t has_p has_q is lawful held saw hidden =
        let apart = P.apart p q e f c has_p has_q is hidden t lawful held saw in
        let moved = changes_apart t c f.change apart.1 in
        let u = changed t f.change in
        let v = set t c.place c.before in
        let w = set u c.place c.before in
        let still : equal (get_or u c.place blank) c.after ≡ true = subst (λ x. equal x c.after ≡ true) (sym (moved.0 ∙ held)) (P.equal_same c.after) in (
          w,
          (
            withdrawn_by u p e has_p ∙ ap (restored equal blank u) is ∙ cond-true _ (Some w) None still,
            subst (Runs k v q) moved.1 (P.runs v q f ((P.proper p e c has_p is).back t lawful) has_q apart.0),
          ),
        )

    sound : (p q : Record) → k.tested p q ≡ true → Commutes k p q
    sound p q passed = record { square = meet }
      where
        meet : (t u v : List X) → k.Lawful t → k.withdrawn t p ≡ Some v → Runs k t q u → Square p q u v
        meet t u v lawful withdrawal runs =
            let told_p = withdrew t v p withdrawal in
            let told_q = P.ran t u q lawful runs in
            let e = told_p.0 in
            let f = told_q.0 in
            let clear : unseen shows e.change f.saw ≡ true = ap₂ (cleared shows) (sym told_p.1.0) (sym told_q.1.0) ∙ sym (P.tested p q) ∙ passed in
            go e f told_p.1.0 told_q.1.0 e.change refl told_p.1.1 told_q.1.1.0 told_q.1.1.1 clear
          where
            go : (e f : Trace V X) → trace p ≡ Some e → trace q ≡ Some f → (o : Option (Change X)) → e.change ≡ o → Stands t v o → Saw f.saw t → u ≡ changed t f.change → unseen shows o f.saw ≡ true → Square p q u v
            go e f has_p has_q None is st saw ends clear =
                (u, (withdrawn_by u p e has_p ∙ ap (restored equal blank u) is, subst (λ s. Runs k s q u) st runs))
            go e f has_p has_q (Some c) is st saw ends clear =
                subst₂ (Square p q) (sym ends) st.1 (square p q e f c t has_p has_q is lawful st.0 saw (not-true _ clear))

    exact : (p q : Record) → Commutes k p q → k.tested p q ≡ true
    exact p q commutes = P.tested p q ∙ go (trace p) (trace q) refl refl
      where
        seen : (e f : Trace V X) → trace p ≡ Some e → trace q ≡ Some f → (o : Option (Change X)) → e.change ≡ o → unseen shows o f.saw ≡ true
        seen e f has_p has_q None is = refl
        seen e f has_p has_q (Some c) is = ⊎_elim (λ there. absurd (refuted there)) (not_from_false _) (cases_Bool (showing shows f.saw c))
          where
            refuted : showing shows f.saw c ≡ true → ⊥
            refuted there =
                let case = P.shown p q e f c has_p has_q is there in
                let t = case.state in
                let withdrawal = withdrawn_by t p e has_p ∙ ap (restored equal blank t) is ∙ cond-true _ (Some (set t c.place c.before)) None (subst (λ x. equal x c.after ≡ true) (sym case.left) (P.equal_same c.after)) in
                let meet = commutes.square t _ _ case.lawful withdrawal (P.runs t q f case.lawful has_q case.saw) in
                let told = P.ran _ _ q ((P.proper p e c has_p is).back t case.lawful) meet.1.1 in
                let same_trace : told.0 ≡ f = cc in
                case.lost (subst (λ g. Saw g.saw (set t c.place c.before)) same_trace told.1.1.0)

        go : (a b : Option (Trace V X)) → trace p ≡ a → trace q ≡ b → cleared shows a b ≡ true
        go None b has_p has_q = refl
        go (Some e) None has_p has_q = refl
        go (Some e) (Some f) has_p has_q = seen e f has_p has_q e.change refl

    pub placed_laws : Laws k
    placed_laws = record { undo = undo; sound = sound; exact = exact; run_lawful = run_lawful; withdraw_lawful = withdraw_lawful }

    still : (s t : List X) (r : Record) → k.Lawful s → Runs k s r s → k.Lawful t → k.withdrawn t r ≡ Some t
    still s t r lawful runs _ =
        let told = P.ran s s r lawful runs in
        go told.0 told.0.change told.1.0 refl told.1.1.0 told.1.1.1
      where
        go : (e : Trace V X) (o : Option (Change X)) → trace r ≡ Some e → e.change ≡ o → Saw e.saw s → s ≡ changed s o → k.withdrawn t r ≡ Some t
        go e None has is saw ends = withdrawn_by t r e has ∙ ap (restored equal blank t) is
        go e (Some c) has is saw ends =
            let proper = P.proper r e c has is in
            absurd (proper.other (sym (proper.saw s lawful saw) ∙ ap (λ x. get_or x c.place blank) ends ∙ get_or-set_same s c.place c.after blank (proper.inside s lawful)))

    never : (t : List X) (r : Record) → ((s u : List X) → k.Lawful s → Runs k s r u → ⊥) → k.Lawful t → k.withdrawn t r ≡ None
    never t r nowhere _ = P.withdrawn t r ∙ go (trace r) refl
      where
        go : (o : Option (Trace V X)) → trace r ≡ o → reverted equal blank t o ≡ None
        go None has = refl
        go (Some e) has = let there = P.meets r e has in absurd (nowhere there.0 _ there.1.0 (P.runs there.0 r e there.1.0 has there.1.1))

    pub placed_withdrawals : PlainWithdrawals k
    placed_withdrawals = record { still = still; never = never }

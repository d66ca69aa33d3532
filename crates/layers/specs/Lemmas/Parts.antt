-- A state with a part that a kind moves, and leaves all else as it is.
use Rattle.std.specs.Prelude.{◌≡◌, ℕ, true, Some, None, Option, refl}
use Rattle.std.proofs.Common.{sym, ap, subst, subst₂, ◌∙◌, arith}
use Rattle.std.specs.Option.{option_map}
use Rattle.objects.specs.declared.records.Operation.{Operation}
use Rattle.objects.specs.declared.records.Answer.{Answer}
use Rattle.objects.specs.declared.records.Record.{Record}
use Rattle.objects.specs.Kinds.{Kind, Laws, PlainWithdrawals, Runs}

-- what a mapped value came from
mapped_some : {S T : Type 0} (f : S → T) (o : Option S) (t : T) → option_map f o ≡ Some t → (s : S) × ((o ≡ Some s) × (f s ≡ t))
mapped_some f None t e = let z : ◌≡◌ {A = ℕ} 0 1 = cc in absurd (omega arith)
mapped_some f (Some s) t e = (s, (refl, cc))

-- the part of the kind k in the states W
pub record Part {W S : Type 0} (Lawful : W → Type 0) (k : Kind S) : Type 0 where
  pub get : W → S
  pub put : W → S → W
  pub get_put : (w : W) (s : S) → get (put w s) ≡ s
  pub put_get : (w : W) → put w (get w) ≡ w
  pub put_put : (w : W) (s t : S) → put (put w s) t ≡ put w t
  pub lawful_get : (w : W) → Lawful w → k.Lawful (get w)
  pub lawful_put : (w : W) (s : S) → Lawful w → k.Lawful s → Lawful (put w s)

module _ {W S : Type 0} {Lawful : W → Type 0} {k : Kind S} (part : Part Lawful k) where
  -- run and withdrawal in the part
  abbrev pub ran_in : W → Operation → Answer × W
  ran_in w o = ((k.ran (part.get w) o).0, part.put w (k.ran (part.get w) o).1)

  abbrev pub withdrawn_in : W → Record → Option W
  withdrawn_in w r = option_map (part.put w) (k.withdrawn (part.get w) r)

  abbrev pub RunsIn : W → Record → W → Type 0
  RunsIn w r v = ((ran_in w r.operation).0 ≡ r.answer) × ((ran_in w r.operation).1 ≡ v)

  pub runs_below : (w v : W) (r : Record) → RunsIn w r v → Runs k (part.get w) r (part.get v)
  runs_below w v r runs = record { answers = runs.0; ends = sym (part.get_put w _) ∙ ap part.get runs.1 }

  pub runs_above : (w : W) (s : S) (r : Record) → Runs k (part.get w) r s → RunsIn w r (part.put w s)
  runs_above w s r runs = (runs.answers, ap (part.put w) runs.ends)

  -- a run leaves all but its part
  ends_in : (w v : W) (r : Record) → RunsIn w r v → v ≡ part.put w (part.get v)
  ends_in w v r runs = sym runs.1 ∙ ap (part.put w) (runs_below w v r runs).ends

  put_over : (w v : W) (r : Record) (s : S) → RunsIn w r v → part.put v s ≡ part.put w s
  put_over w v r s runs = ap (λ x. part.put x s) (ends_in w v r runs) ∙ part.put_put w (part.get v) s

  module _ (laws : Laws k) where
    pub undo_in : (w v : W) (r : Record) → Lawful w → RunsIn w r v → withdrawn_in v r ≡ Some w
    undo_in w v r lawful runs =
        ap (option_map (part.put v)) (laws.undo (part.get w) (part.get v) r (part.lawful_get w lawful) (runs_below w v r runs))
        ∙ ap Some (put_over w v r (part.get w) runs ∙ part.put_get w)

    pub sound_in : (p q : Record) → k.tested p q ≡ true → (t u v : W) → Lawful t → withdrawn_in t p ≡ Some v → RunsIn t q u → (w : W) × ((withdrawn_in u p ≡ Some w) × RunsIn v q w)
    sound_in p q passed t u v lawful withdrew runs =
        let from = mapped_some (part.put t) (k.withdrawn (part.get t) p) v withdrew in
        let x = from.0 in
        let square = (laws.sound p q passed).square (part.get t) (part.get u) x (part.lawful_get t lawful) from.1.0 (runs_below t u q runs) in
        let y = square.0 in
        let there : RunsIn (part.put t x) q (part.put (part.put t x) y) = runs_above (part.put t x) y q (subst (λ s. Runs k s q y) (sym (part.get_put t x)) square.1.1) in (
          part.put t y,
          (
            ap (option_map (part.put u)) square.1.0 ∙ ap Some (put_over t u q y runs),
            subst (λ s. RunsIn s q (part.put t y)) from.1.1 (subst (RunsIn (part.put t x) q) (part.put_put t x y) there),
          ),
        )

    pub exact_in : (w₀ : W) → Lawful w₀ → (p q : Record) → ((t u v : W) → Lawful t → withdrawn_in t p ≡ Some v → RunsIn t q u → (w : W) × ((withdrawn_in u p ≡ Some w) × RunsIn v q w)) → k.tested p q ≡ true
    exact_in w₀ lawful₀ p q commute = laws.exact p q (record { square = square })
      where
        square : (t u v : S) → k.Lawful t → k.withdrawn t p ≡ Some v → Runs k t q u → (w : S) × ((k.withdrawn u p ≡ Some w) × Runs k v q w)
        square t u v lawful withdrew runs =
            let at = part.put w₀ t in
            let same_t = part.get_put w₀ t in
            let withdrew_in : withdrawn_in at p ≡ Some (part.put at v) = ap (option_map (part.put at)) (ap (λ s. k.withdrawn s p) same_t ∙ withdrew) in
            let runs_in = runs_above at u q (subst (λ s. Runs k s q u) (sym same_t) runs) in
            let w = commute at (part.put at u) (part.put at v) (part.lawful_put w₀ t lawful₀ lawful) withdrew_in runs_in in
            let from = mapped_some (part.put (part.put at u)) _ w.0 w.1.0 in
            let ends : part.get w.0 ≡ from.0 = ap part.get (sym from.1.1) ∙ part.get_put _ _ in (
              from.0,
              (
                ap (λ s. k.withdrawn s p) (sym (part.get_put at u)) ∙ from.1.0,
                subst₂ (λ s e. Runs k s q e) (part.get_put at v) ends (runs_below _ _ q w.1.1),
              ),
            )

    pub run_lawful_in : (w : W) (o : Operation) → Lawful w → Lawful (ran_in w o).1
    run_lawful_in w o lawful = part.lawful_put w _ lawful (laws.run_lawful (part.get w) o (part.lawful_get w lawful))

    pub withdraw_lawful_in : (w v : W) (r : Record) → Lawful w → withdrawn_in w r ≡ Some v → Lawful v
    withdraw_lawful_in w v r lawful withdrew =
        let from = mapped_some (part.put w) (k.withdrawn (part.get w) r) v withdrew in
        subst Lawful from.1.1 (part.lawful_put w from.0 lawful (laws.withdraw_lawful (part.get w) from.0 r (part.lawful_get w lawful) from.1.0))

  module _ (plain : PlainWithdrawals k) where
    pub still_in : (w v : W) (r : Record) → Lawful w → RunsIn w r w → Lawful v → withdrawn_in v r ≡ Some v
    still_in w v r lawful runs lawful' =
        ap (option_map (part.put v)) (plain.still (part.get w) (part.get v) r (part.lawful_get w lawful) (runs_below w w r runs) (part.lawful_get v lawful')) ∙ ap Some (part.put_get v)

    pub never_in : (v : W) (r : Record) → ((w u : W) → Lawful w → RunsIn w r u → ⊥) → Lawful v → withdrawn_in v r ≡ None
    never_in v r nowhere lawful = ap (option_map (part.put v)) (plain.never (part.get v) r below (part.lawful_get v lawful))
      where
        below : (s u : S) → k.Lawful s → Runs k s r u → ⊥
        below s u lawful_s runs = nowhere (part.put v s) _ (part.lawful_put v s lawful lawful_s) (runs_above (part.put v s) u r (subst (λ x. Runs k x r u) (sym (part.get_put v s)) runs))

-- two parts that have nothing in common
pub record Disjoint {W S T : Type 0} {Lawful : W → Type 0} {a : Kind S} {b : Kind T} (p : Part Lawful a) (q : Part Lawful b) : Type 0 where
  pub get_first : (w : W) (t : T) → p.get (q.put w t) ≡ p.get w
  pub get_second : (w : W) (s : S) → q.get (p.put w s) ≡ q.get w
  pub put_both : (w : W) (s : S) (t : T) → q.put (p.put w s) t ≡ p.put (q.put w t) s

-- a withdrawal in one part and a run in the other
pub apart_in : {W S T : Type 0} {Lawful : W → Type 0} {a : Kind S} {b : Kind T} (first : Part Lawful a) (second : Part Lawful b) → Disjoint first second →
    (p q : Record) (t u v : W) → withdrawn_in first t p ≡ Some v → RunsIn second t q u → (w : W) × ((withdrawn_in first u p ≡ Some w) × RunsIn second v q w)
apart_in {a = a} {b = b} first second disjoint p q t u v withdrew runs =
    let from = mapped_some (first.put t) (a.withdrawn (first.get t) p) v withdrew in
    let x = from.0 in
    let y = second.get u in
    let ended : u ≡ second.put t y = ends_in second t u q runs in
    let seen : first.get u ≡ first.get t = ap first.get ended ∙ disjoint.get_first t y in
    let there : RunsIn second (first.put t x) q (second.put (first.put t x) y) =
    runs_above second (first.put t x) y q (subst (λ s. Runs b s q y) (sym (disjoint.get_second t x)) (runs_below second t u q runs)) in (
      first.put u x,
      (
        ap (option_map (first.put u)) (ap (λ s. a.withdrawn s p) seen ∙ from.1.0),
        subst₂ (λ s e. RunsIn second s q e) from.1.1 (disjoint.put_both t x y ∙ ap (λ s. first.put s x) (sym ended)) there,
      ),
    )

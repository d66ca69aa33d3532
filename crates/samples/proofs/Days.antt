-- What stands after one posting more, and after one less.
use Rattle.std.proofs.Common.{◌≡◌, ℕ, zero, suc, ◌+◌, ◌-◌, ◌<◌, Bool, true, false, List, [], ◌∷◌, ◌++◌, length, get_or, set, take, drop, map, filter, sym, refl, ap, ◌∙◌, subst, subst₂, add-one, append-nil, arith}
use Rattle.std.proofs.lemmas.Bool.{cond-true, cond-false}
use Rattle.std.proofs.lemmas.List.{length-drop, map-append}
use Rattle.std.proofs.Math.Seq.{take-length, take-suc}
use Rattle.std.proofs.lemmas.List.Elements.{filter-append}
use Rattle.objects.specs.declared.records.Record.{Record}
use Rattle.objects.specs.Kinds.{Kind, Laws, Runs}
use Rattle.objects.specs.Leads.{Leads, none, more}
use Rattle.objects.proofs.Carry.{runs_lawful}
use Rattle.samples.specs.declared.posting.Posting.{Posting}
use Rattle.samples.specs.Days.{StillLeads, replayed, standing_records}

-- the records after a posting that stands, and after one that doesn't
stands : (p : Posting) (ps : List Posting) → p.standing ≡ true → standing_records (p ∷ ps) ≡ p.record ∷ standing_records ps
stands p ps is = ap (map (λ x. x.record)) (cond-true p.standing (p ∷ filter (λ x. x.standing) ps) (filter (λ x. x.standing) ps) is)

falls : (p : Posting) (ps : List Posting) → p.standing ≡ false → standing_records (p ∷ ps) ≡ standing_records ps
falls p ps is = ap (map (λ x. x.record)) (cond-false p.standing (p ∷ filter (λ x. x.standing) ps) (filter (λ x. x.standing) ps) is)

-- one posting more at the end
pub standing_more : (ps : List Posting) (p : Posting) → standing_records (ps ++ (p ∷ [])) ≡ standing_records ps ++ standing_records (p ∷ [])
standing_more ps p = ap (map (λ x. x.record)) (filter-append (λ x. x.standing) ps (p ∷ [])) ∙ map-append (λ x. x.record) (filter (λ x. x.standing) ps) _

module _ {S : Type 0} (k : Kind S) where
  -- one record more at the end
  pub leads_more : (s t u : S) (rs : List Record) (r : Record) → Leads k s rs t → Runs k t r u → Leads k s (rs ++ (r ∷ [])) u
  leads_more s t u [] r none runs = more runs none
  leads_more s t u (q ∷ rs) r (more {t = v} first rest) runs = more first (leads_more v t u rs r rest runs)

  pub replayed_more : (s : S) (rs : List Record) (r : Record) → replayed k s (rs ++ (r ∷ [])) ≡ (k.ran (replayed k s rs) r.operation).1
  replayed_more s [] r = refl
  replayed_more s (q ∷ rs) r = replayed_more (k.ran s q.operation).1 rs r

  leads_replayed : (s t : S) (rs : List Record) → Leads k s rs t → replayed k s rs ≡ t
  leads_replayed s t [] none = refl
  leads_replayed s t (r ∷ rs) (more {t = v} first rest) = ap (λ x. replayed k x rs) first.ends ∙ leads_replayed v t rs rest

  -- what was replayed of all the postings, where what stands of them leads somewhere
  pub replayed_all : (s u t : S) (ps : List Posting) (n : ℕ) → n ≡ length ps → u ≡ replayed k s (standing_records (take n ps)) → Leads k s (standing_records ps) t → u ≡ t
  replayed_all s u t ps n all is leads = is ∙ ap (λ qs. replayed k s (standing_records qs)) (ap (λ m. take m ps) all ∙ take-length ps) ∙ leads_replayed s t (standing_records ps) leads

  pub leads_none : (s : S) (ps : List Posting) → ps ≡ [] → Leads k s (standing_records ps) s
  leads_none s ps is = subst (λ qs. Leads k s (standing_records qs) s) (sym is) none

  -- the first n postings, and one more that stands, or that doesn't
  module _ (s t : S) (ps : List Posting) (n : ℕ) (d : Posting) (h : n < length ps) where
    front : standing_records (take (n + 1) ps) ≡ standing_records (take n ps) ++ standing_records (get_or ps n d ∷ [])
    front = ap (λ m. standing_records (take m ps)) (add-one n) ∙ ap standing_records (take-suc ps n d h) ∙ standing_more (take n ps) (get_or ps n d)

    pub replayed_stands : t ≡ replayed k s (standing_records (take n ps)) → (get_or ps n d).standing ≡ true → (k.ran t (get_or ps n d).record.operation).1 ≡ replayed k s (standing_records (take (n + 1) ps))
    replayed_stands so is =
        ap (λ x. (k.ran x (get_or ps n d).record.operation).1) so
        ∙ sym (replayed_more s (standing_records (take n ps)) (get_or ps n d).record)
        ∙ sym (ap (replayed k s) (front ∙ ap (λ rs. standing_records (take n ps) ++ rs) (stands (get_or ps n d) [] is)))

    pub replayed_falls : t ≡ replayed k s (standing_records (take n ps)) → (get_or ps n d).standing ≡ false → t ≡ replayed k s (standing_records (take (n + 1) ps))
    replayed_falls so is =
        so ∙ sym (ap (replayed k s) (front ∙ ap (λ rs. standing_records (take n ps) ++ rs) (falls (get_or ps n d) [] is) ∙ append-nil (standing_records (take n ps))))

  module _ (laws : Laws k) (s t : S) where
    -- a posting before others that still lead
    before : (p : Posting) (ps qs : List Posting) → StillLeads k ps s qs t → StillLeads k (p ∷ ps) s (p ∷ qs) t
    before p ps qs step s₀ lawful leads = go p.standing refl
      where
        next : Leads k s₀ (p.record ∷ standing_records ps) s → Leads k s₀ (p.record ∷ standing_records qs) t
        next (more {t = v} first rest) = more first (step v (runs_lawful laws lawful first) rest)

        go : (b : Bool) → p.standing ≡ b → Leads k s₀ (standing_records (p ∷ qs)) t
        go true is = subst (λ rs. Leads k s₀ rs t) (sym (stands p qs is)) (next (subst (λ rs. Leads k s₀ rs s) (stands p ps is) leads))
        go false is = subst (λ rs. Leads k s₀ rs t) (sym (falls p qs is)) (step s₀ lawful (subst (λ rs. Leads k s₀ rs s) (falls p ps is) leads))

    -- the posting at i changed, where that keeps what stands from there on leading
    pub leads_past : (ps : List Posting) (i : ℕ) (d q : Posting) → i < length ps → StillLeads k (get_or ps i d ∷ drop (suc i) ps) s (q ∷ drop (suc i) ps) t → StillLeads k ps s (set ps i q) t
    leads_past [] i d q h step = absurd (omega arith)
    leads_past (p ∷ ps) zero d q h step = step
    leads_past (p ∷ ps) (suc i) d q h step = before p ps (set ps i q) (leads_past ps i d q (omega arith) step)

-- one posting more, that ran and stands, of one kind, whose fixed part stays
pub leads_posted : {F S : Type 0} (kind : F → Kind S) (f g : F) → g ≡ f → (s t u : S) (ps qs : List Posting) (p : Posting) → qs ≡ ps ++ (p ∷ []) →
    Leads (kind f) s (standing_records ps) t → Runs (kind g) t p.record u → p.standing ≡ true → Leads (kind f) s (standing_records qs) u
leads_posted kind f g same s t u ps qs p more_is leads runs is =
    subst (λ rs. Leads (kind f) s rs u) (sym (ap standing_records more_is ∙ standing_more ps p ∙ ap (λ rs. standing_records ps ++ rs) (stands p [] is)))
    (leads_more (kind f) s t u (standing_records ps) p.record leads (subst (λ x. Runs (kind x) t p.record u) same runs))

-- all that comes after i, as the code slices it
after : {A : Type 0} (i : ℕ) (xs : List A) → take (length xs - i) (drop i xs) ≡ drop i xs
after i xs = ap (λ n. take n (drop i xs)) (sym (length-drop i xs)) ∙ take-length (drop i xs)

-- the turn at i as the code has it: the posting as it was read there, and a slice of those after it
pub leads_at : {S : Type 0} (k : Kind S) → Laws k → (ps xs : List Posting) (i : ℕ) (p q : Posting) (s t : S) → i < length ps → p ≡ get_or ps i p → xs ≡ ps →
    StillLeads k (p ∷ take (length xs - (i + 1)) (drop (i + 1) xs)) s (q ∷ take (length xs - (i + 1)) (drop (i + 1) xs)) t → StillLeads k ps s (set ps i q) t
leads_at k laws ps xs i p q s t h is all step =
    leads_past k laws s t ps i p q h (subst₂ (λ x ys. StillLeads k (x ∷ ys) s (q ∷ ys) t) is (after (i + 1) xs ∙ ap (drop (i + 1)) all ∙ ap (λ n. drop n ps) (add-one i)) step)

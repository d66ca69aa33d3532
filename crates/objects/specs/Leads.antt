-- Records that run one after the other, and a record that is withdrawn from before them.
use Rattle.std.specs.Prelude.{◌≡◌, ℕ, ◌<◌, true, false, List, [], ◌∷◌, length, is_some, slice_index_or, Ok, Err, Result, ◌++◌, codes}
use Rattle.std.specs.Fmt.{decimal}
use Rattle.std.specs.Option.{unwrap_or}
use Rattle.objects.specs.declared.records.Record.{Record}
use Rattle.objects.specs.declared.retract.NotWithdrawn.{NotWithdrawn}
use Rattle.objects.specs.declared.retract.NotWithdrawn.TheVariants.{Inapplicable, Blocked}
use Rattle.objects.specs.Kinds.{Kind, Runs}

-- the records run in turn, each with its answer, from one state to another
pub data Leads {S : Type 0} (k : Kind S) : S → List Record → S → Type 0 where
  none : {s : S} → Leads k s [] s
  more : {s t u : S} {r : Record} {rs : List Record} → Runs k s r t → Leads k t rs u → Leads k s (r ∷ rs) u

-- p's test says yes to each of the first n records
abbrev pub Passes : {S : Type 0} → Kind S → Record → List Record → ℕ → Type 0
Passes k p rs n = (i : ℕ) → i < n → k.tested p (slice_index_or rs i p) ≡ true

-- the answer to a retraction of p from before rs, in the state s
abbrev pub Retracted : {S : Type 0} → Kind S → S → Record → List Record → Result (Unit {0}) NotWithdrawn → Type 0
Retracted k s p rs (Ok _) = Passes k p rs (length rs) × (is_some (k.withdrawn s p) ≡ true)
Retracted k s p rs (Err Inapplicable) = Passes k p rs (length rs) × (is_some (k.withdrawn s p) ≡ false)
Retracted k s p rs (Err (Blocked i)) = Passes k p rs i × (i < length rs) × (k.tested p (slice_index_or rs i p) ≡ false)

-- the state after it
abbrev pub retracted : {S : Type 0} → Kind S → S → Record → Result (Unit {0}) NotWithdrawn → S
retracted k s p (Ok _) = unwrap_or (k.withdrawn s p) s
retracted k s p (Err e) = s

-- if p ran first and then rs, and p isn't blocked: it is withdrawn, and rs run with the same answers as if p had never been posted
abbrev pub NeverPosted : {S : Type 0} → Kind S → S → Record → List Record → Result (Unit {0}) NotWithdrawn → S → Type 0
NeverPosted {S} k s p rs (Err (Blocked i)) t = Unit {0}
NeverPosted {S} k s p rs (Err Inapplicable) t = (s₀ s₁ : S) → k.Lawful s₀ → Runs k s₀ p s₁ → Leads k s₁ rs s → ⊥
NeverPosted {S} k s p rs (Ok _) t = (s₀ s₁ : S) → k.Lawful s₀ → Runs k s₀ p s₁ → Leads k s₁ rs s → Leads k s₀ rs t

-- why a record is not withdrawn, in words
abbrev pub reason_text : NotWithdrawn → List ℕ
reason_text Inapplicable = codes "it cannot have run"
reason_text (Blocked i) = decimal i ++ codes " stands in the way"

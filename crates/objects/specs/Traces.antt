-- Kinds whose states are lists of places: how a record is withdrawn, and tested against a later one, by the traces of the two.
-- A record that can't have run has no trace. What two places hold is compared by `equal`; `blank` stands past the last place.
use Rattle.std.specs.Prelude.{Bool, true, false, cond, not, List, Some, None, Option, slice_index_or, slice_set}
use Rattle.objects.specs.declared.traces.Change.{Change}
use Rattle.objects.specs.declared.traces.Trace.{Trace}
use Rattle.objects.specs.Kinds.{provided}

-- the trace of a record that can have been answered in two ways, by the test of each
abbrev pub either : {T : Type 0} → Bool → T → Bool → T → Option T
either first t second u = cond first (Some t) (provided second u)

-- a change is taken back where its place holds what it left there; where nothing changed, nothing moves
abbrev pub restored : {X : Type 0} → (X → X → Bool) → X → List X → Option (Change X) → Option (List X)
restored equal blank s None = Some s
restored equal blank s (Some c) = provided (equal (slice_index_or s c.place blank) c.after) (slice_set s c.place c.before)

abbrev pub reverted : {V X : Type 0} → (X → X → Bool) → X → List X → Option (Trace V X) → Option (List X)
reverted equal blank s None = None
reverted equal blank s (Some t) = restored equal blank s t.change

-- the trace of a record that changed nothing
abbrev pub looked : {V X : Type 0} → Option V → Trace V X
looked v = record { saw = v; change = None }

-- `shows v c`: what was seen, v, shows the change c; where nothing was seen, that shows no change
abbrev pub showing : {V X : Type 0} → (V → Change X → Bool) → Option V → Change X → Bool
showing shows None c = false
showing shows (Some v) c = shows v c

abbrev pub unseen : {V X : Type 0} → (V → Change X → Bool) → Option (Change X) → Option V → Bool
unseen shows None v = true
unseen shows (Some c) v = not (showing shows v c)

-- the test of an earlier record against a later one, by their traces: yes, unless the later one saw what the earlier one's change had left
abbrev pub cleared : {V X : Type 0} → (V → Change X → Bool) → Option (Trace V X) → Option (Trace V X) → Bool
cleared shows None q = true
cleared shows (Some p) None = true
cleared shows (Some p) (Some q) = unseen shows p.change q.saw

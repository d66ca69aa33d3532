-- What a record tells of the map that it ran on: the days that it looked at, and the day that it changed.
use Rattle.std.specs.Prelude.{ℕ, Bool, cond, not, ◌&&◌, ℤ, Some, None, Option, ◌==◌, nat_le}
use Rattle.objects.specs.declared.records.Answer.{Answer}
use Rattle.objects.specs.declared.records.Record.{Record}
use Rattle.objects.specs.declared.traces.Change.{Change}
use Rattle.objects.specs.declared.traces.Trace.{Trace}
use Rattle.objects.specs.Answers.{absent, bad, found, new, nothing, old, same}
use Rattle.objects.specs.Kinds.{provided}
use Rattle.objects.specs.Traces.{either, looked}
use Rattle.maps.specs.Days.{in_range, same_content}
use Rattle.maps.specs.Requests.{meant}
use Rattle.maps.specs.declared.request.Request.{Request}
use Rattle.maps.specs.declared.request.Request.TheVariants.{Put, Drop, Find}
use Rattle.maps.specs.declared.trace.Window.{Window}

-- the days from the first to the last, of which the first held this and the others were empty
abbrev pub window : ℕ → ℕ → Option ℤ → Window
window first last content = record { first = first; last = last; content = content }

-- a day held what was before; it has changed if that is another content
abbrev pub wrote : ℕ → Option ℤ → Option ℤ → Trace Window (Option ℤ)
wrote d before after = record { saw = Some (window d d before); change = provided (not (same_content before after)) (record { place = d; before = before; after = after }) }

-- an old value, and a find, that can have been answered
abbrev pub is_old : Answer → Bool
is_old a = same a (old a.value) && in_range a.value

abbrev pub is_found : ℕ → Answer → Bool
is_found d a = same a (found a.place a.value) && (nat_le a.place d && in_range a.value)

abbrev pub traced : Option Request → Answer → Option (Trace Window (Option ℤ))
traced (Some (Put d v)) a = either (same a new) (wrote d None (Some v)) (is_old a) (wrote d (Some a.value) (Some v))
traced (Some (Drop d)) a = either (same a absent) (wrote d None None) (is_old a) (wrote d (Some a.value) None)
traced (Some (Find d)) a = either (same a nothing) (looked (Some (window 0 d None))) (is_found d a) (looked (Some (window a.place d (Some a.value))))
traced None a = provided (same a bad) (looked None)

abbrev pub trace : Record → Option (Trace Window (Option ℤ))
trace r = traced (meant r.operation) r.answer

-- a window shows the change of one of its days, if it saw there what the change left
abbrev pub shows : Window → Change (Option ℤ) → Bool
shows w c = (nat_le w.first c.place && nat_le c.place w.last) && same_content (cond (c.place == w.first) w.content None) c.after

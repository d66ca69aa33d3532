-- What a record tells of the set that it ran on: what it saw, and the key that it turned.
use Rattle.std.specs.Prelude.{ℕ, Bool, true, false, cond, not, ◌&&◌, pos, Some, None, Option, ◌==◌, int_lt}
use Rattle.std.specs.Bool.{beq}
use Rattle.objects.specs.declared.records.Answer.{Answer}
use Rattle.objects.specs.declared.records.Record.{Record}
use Rattle.objects.specs.declared.traces.Change.{Change}
use Rattle.objects.specs.declared.traces.Trace.{Trace}
use Rattle.objects.specs.Answers.{absent, already, answer_no, answer_yes, bad, gone, new, same, is_value_to}
use Rattle.objects.specs.Kinds.{provided}
use Rattle.objects.specs.Traces.{either, looked}
use Rattle.sets.specs.Requests.{meant}
use Rattle.sets.specs.declared.request.Request.{Request}
use Rattle.sets.specs.declared.request.Request.TheVariants.{Insert, Remove, Has, Size}
use Rattle.sets.specs.declared.trace.Seen.{Seen}
use Rattle.sets.specs.declared.trace.Seen.TheVariants.{Key, Count}

-- the key was `from`, and is the opposite since
abbrev pub turned_key : ℕ → Bool → Trace Seen Bool
turned_key k from = record { saw = Some (Key k from); change = Some (record { place = k; before = from; after = not from }) }

-- an answer that size can give
abbrev pub is_count : Answer → Bool
is_count a = is_value_to (pos 256) a

abbrev pub traced : Option Request → Answer → Option (Trace Seen Bool)
traced None a = provided (same a bad) (looked None)
traced (Some (Insert k)) a = either (same a new) (turned_key k false) (same a already) (looked (Some (Key k true)))
traced (Some (Remove k)) a = either (same a gone) (turned_key k true) (same a absent) (looked (Some (Key k false)))
traced (Some (Has k)) a = either (same a answer_yes) (looked (Some (Key k true))) (same a answer_no) (looked (Some (Key k false)))
traced (Some Size) a = provided (is_count a) (looked (Some (Count a.value)))

abbrev pub trace : Record → Option (Trace Seen Bool)
trace r = traced (meant r.operation) r.answer

-- a key seen shows a change of that key, if it was seen as the change left it; a count shows every change,
-- but for the one count that can't be: 0 where the key is a member, 256 where it isn't
abbrev pub shows : Seen → Change Bool → Bool
shows (Key k b) c = k == c.place && beq b c.after
shows (Count n) c = cond c.after (int_lt (pos 0) n) (int_lt n (pos 256))

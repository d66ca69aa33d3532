-- The kind of a dated map.
use Rattle.std.specs.Prelude.{ℕ, List, ℤ, Some, None, Option, slice_set}
use Rattle.objects.specs.declared.records.Answer.{Answer}
use Rattle.objects.specs.Answers.{absent, bad, found, new, nothing, old}
use Rattle.objects.specs.Kinds.{Kind}
use Rattle.objects.specs.Traces.{cleared, reverted}
use Rattle.maps.specs.Days.{Days, held, same_content}
use Rattle.maps.specs.Latest.{latest}
use Rattle.maps.specs.Requests.{meant}
use Rattle.maps.specs.Traces.{shows, trace}
use Rattle.maps.specs.declared.request.Request.{Request}
use Rattle.maps.specs.declared.request.Request.TheVariants.{Put, Drop, Find}

-- old with the value that the day held; another answer where it was empty
abbrev pub replaced : Answer → Option ℤ → Answer
replaced else None = else
replaced else (Some v) = old v

abbrev pub found_at : Option (ℕ × ℤ) → Answer
found_at None = nothing
found_at (Some x) = found x.0 x.1

abbrev pub did : List (Option ℤ) → Option Request → Answer × List (Option ℤ)
did s (Some (Put d v)) = (replaced new (held s d), slice_set s d (Some v))
did s (Some (Drop d)) = (replaced absent (held s d), slice_set s d None)
did s (Some (Find d)) = (found_at (latest s d), s)
did s None = (bad, s)

abbrev pub dated_map : Kind (List (Option ℤ))
dated_map = record {
  Lawful = Days;
  ran = λ s o. did s (meant o);
  withdrawn = λ s r. reverted same_content None s (trace r);
  tested = λ p q. cleared shows (trace p) (trace q);
}

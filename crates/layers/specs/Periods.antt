-- A period lock: put and drop (8 and 9) with a key below the day are answered closed; all else passes.
use Rattle.std.specs.Prelude.{ℕ, Bool, cond, ◌&&◌, ◌||◌, Ok, Err, ◌==◌, nat_lt}
use Rattle.objects.specs.declared.records.Operation.{Operation}
use Rattle.objects.specs.Answers.{closed}
use Rattle.layers.specs.Filters.{Passage}

abbrev pub closes : ℕ → Operation → Bool
closes day o = (o.code == 8 || o.code == 9) && nat_lt o.key day

abbrev pub locked : ℕ → Operation → Passage
locked day o = cond (closes day o) (Err closed) (Ok o)

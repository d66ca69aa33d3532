-- What an operation asks of a set.
use Rattle.std.specs.Prelude.{ℕ, ◌<◌, cond, Some, None, Option, ◌==◌, nat_le}
use Rattle.objects.specs.declared.records.Operation.{Operation}
use Rattle.sets.specs.Members.{keys}
use Rattle.sets.specs.declared.request.Request.{Request}
use Rattle.sets.specs.declared.request.Request.TheVariants.{Insert, Remove, Has, Size}

-- the code 4 inserts, 5 removes, 6 asks for a key
abbrev pub on_key : ℕ → ℕ → Option Request
on_key code key = cond (code == 4) (Some (Insert key)) (cond (code == 5) (Some (Remove key)) (cond (code == 6) (Some (Has key)) None))

-- nothing, and so bad, for a unit other than 0, a foreign code, a key above 255; 7 asks for the size, and ignores its key
abbrev pub meant : Operation → Option Request
meant o = cond (o.unit == 0) (cond (o.code == 7) (Some Size) (cond (nat_le o.key 255) (on_key o.code o.key) None)) None

-- the keys of a request are those of the set
abbrev pub Sane : Request → Type 0
Sane (Insert key) = key < keys
Sane (Remove key) = key < keys
Sane (Has key) = key < keys
Sane Size = Unit {0}

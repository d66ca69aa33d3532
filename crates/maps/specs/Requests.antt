-- What an operation asks of a map.
use Rattle.std.specs.Prelude.{◌≡◌, ℕ, ◌<◌, true, cond, ◌&&◌, ℤ, Some, None, Option, ◌==◌, nat_le}
use Rattle.objects.specs.declared.records.Operation.{Operation}
use Rattle.objects.specs.Kinds.{provided}
use Rattle.maps.specs.Days.{day_count, in_range}
use Rattle.maps.specs.declared.request.Request.{Request}
use Rattle.maps.specs.declared.request.Request.TheVariants.{Put, Drop, Find}

-- the code 8 puts a value in its range, 9 drops, 10 finds; these two ignore the amount
abbrev pub by_code : ℕ → ℕ → ℤ → Option Request
by_code code day v = cond (code == 8) (provided (in_range v) (Put day v)) (cond (code == 9) (Some (Drop day)) (provided (code == 10) (Find day)))

-- none, which is bad, for a unit other than 0, a day above 511, a foreign code, a value out of range
abbrev pub meant : Operation → Option Request
meant o = cond (o.unit == 0 && nat_le o.key 511) (by_code o.code o.key o.amount) None

-- the days and values of a request are those of the map
abbrev pub Sane : Request → Type 0
Sane (Put day v) = (day < day_count) × (in_range v ≡ true)
Sane (Drop day) = day < day_count
Sane (Find day) = day < day_count

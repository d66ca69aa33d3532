-- Which object of the pile an operation reaches, by the rule of the pair: counters left; right of it the set left, the map right.
use Rattle.std.specs.Prelude.{◌≡◌, true, false}
use Rattle.objects.specs.declared.codes.Family.{Family}
use Rattle.objects.specs.declared.codes.Family.TheVariants.{Counter, Set, Map}
use Rattle.objects.specs.declared.records.Operation.{Operation}
use Rattle.layers.specs.Pairs.{goes_left, halved}

abbrev pub Reaches : Family → Operation → Type 0
Reaches Counter o = (goes_left o ≡ true) × ((halved o).unit ≡ 0)
Reaches Set o = (goes_left o ≡ false) × ((goes_left (halved o) ≡ true) × ((halved (halved o)).unit ≡ 0))
Reaches Map o = (goes_left o ≡ false) × ((goes_left (halved o) ≡ false) × ((halved (halved o)).unit ≡ 0))

-- The operation that asks for what another moved or saw, and moves nothing.
use Rattle.std.specs.Prelude.{ℕ, cond, pos, ◌==◌}
use Rattle.objects.specs.declared.codes.Family.{Family}
use Rattle.objects.specs.declared.codes.Family.TheVariants.{Counter, Set, Map}
use Rattle.objects.specs.declared.records.Operation.{Operation}
use Rattle.objects.specs.Codes.{family}

-- of counters read, of a set has, of a map find; size asks for itself
abbrev pub asking : ℕ → Family → ℕ
asking code Counter = 3
asking code Set = cond (code == 7) 7 6
asking code Map = 10

abbrev pub asked_by : Operation → Operation
asked_by o = record { code = asking o.code (family o.code); unit = o.unit; key = o.key; amount = pos 0 }

-- What is known of every movement that an operation means.
use Rattle.std.specs.Prelude.{◌≡◌, ℕ, ℤ, Option, Some, None}
use Rattle.std.proofs.Common.{arith}
use Rattle.std.proofs.lemmas.Int.{ints}
use Rattle.std.proofs.lemmas.Bool.Decides.{nat_tests}
use Rattle.objects.specs.declared.records.Operation.{Operation}
use Rattle.counters.specs.Bounds.{Sane}
use Rattle.counters.specs.declared.movement.Movement.{Movement}
use Rattle.counters.specs.declared.movement.Movement.TheVariants.{Add, Take, Read}
use Rattle.counters.specs.Movements.{meant}

pub sane : (c : ℤ) (o : Operation) → Sane c (meant c o)
sane c o = grind (arith, ints, nat_tests)

-- the movement is of counter k, or bad
abbrev pub Names : ℕ → Option Movement → Type 0
Names k (Some (Add key n)) = key ≡ k
Names k (Some (Take key n)) = key ≡ k
Names k (Some (Read key)) = key ≡ k
Names k None = Unit {0}

pub names : (c : ℤ) (o : Operation) → Names o.key (meant c o)
names c o = grind (arith, ints, nat_tests)

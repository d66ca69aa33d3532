-- What the code has to know of its numbers, so that no sum leaves 64 bits and no index its array. These are no rules.
use Rattle.std.specs.Prelude.{◌<◌, ℤ, pos, neg_ℤ, ◌≤ℤ◌, Option, Some, None}
use Rattle.counters.specs.Counts.{counters}
use Rattle.counters.specs.declared.movement.Movement.{Movement}
use Rattle.counters.specs.declared.movement.Movement.TheVariants.{Add, Take, Read}
use Rattle.counters.specs.declared.span.Span.{Span}

abbrev pub Amount : ℤ → ℤ → Type 0
Amount c n = (pos 1 ≤ℤ n) × (n ≤ℤ c)

-- of every movement that an operation means
abbrev pub Sane : ℤ → Option Movement → Type 0
Sane c (Some (Add key n)) = (key < counters) × Amount c n
Sane c (Some (Take key n)) = (key < counters) × Amount c n
Sane c (Some (Read key)) = key < counters
Sane c None = Unit {0}

abbrev pub Small : ℤ → ℤ → Type 0
Small c x = (neg_ℤ c ≤ℤ x) × (x ≤ℤ c)

abbrev pub Bounded : ℤ → Span → Type 0
Bounded c p = Small c p.low × Small c p.high × Small c p.step

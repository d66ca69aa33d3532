-- What an operation asks of a bank with the ceiling c.
use Rattle.std.specs.Prelude.{ℕ, Bool, cond, ◌&&◌, ℤ, pos, ◌==◌, int_le, nat_le, Option, None}
use Rattle.objects.specs.declared.records.Operation.{Operation}
use Rattle.objects.specs.Kinds.{provided}
use Rattle.counters.specs.declared.movement.Movement.{Movement}
use Rattle.counters.specs.declared.movement.Movement.TheVariants.{Add, Take, Read}

-- an amount is 1 to c
abbrev pub is_amount : ℤ → ℤ → Bool
is_amount c n = int_le (pos 1) n && int_le n c

-- the code 1 adds, 2 takes, 3 reads and ignores the amount
abbrev pub by_code : ℤ → ℕ → ℕ → ℤ → Option Movement
by_code c code key n =
    cond (code == 1) (provided (is_amount c n) (Add key n))
    (cond (code == 2) (provided (is_amount c n) (Take key n)) (provided (code == 3) (Read key)))

-- none for what is bad: a unit other than 0, a key above 31, a foreign code, an amount out of range
abbrev pub meant : ℤ → Operation → Option Movement
meant c o = cond (o.unit == 0 && nat_le o.key 31) (by_code c o.code o.key o.amount) None

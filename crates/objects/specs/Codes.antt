-- What the rules say of each code: 1 add, 2 take, 3 read; 4 insert, 5 remove, 6 has, 7 size; 8 put, 9 drop, 10 find.
use Rattle.std.specs.Prelude.{ℕ, ◌-◌, ◌^◌, Bool, true, false, cond, not, ◌&&◌, ◌||◌, Some, None, Option, ◌==◌, nat_le}
use Rattle.objects.specs.declared.codes.CodeRule.{CodeRule}
use Rattle.objects.specs.declared.codes.Family.{Family}
use Rattle.objects.specs.declared.codes.Family.TheVariants.{Counter, Set, Map}
use Rattle.objects.specs.declared.records.Operation.{Operation}
use Rattle.objects.specs.Kinds.{provided}

abbrev pub is_code : ℕ → Bool
is_code n = nat_le 1 n && nat_le n 10

abbrev pub family : ℕ → Family
family n = cond (nat_le n 3) Counter (cond (nat_le n 7) Set Map)

-- counters have the keys 0 to 31, members 0 to 255, days 0 to 511
abbrev pub last_of : Family → ℕ
last_of Counter = 31
last_of Set = 255
last_of Map = 511

-- size ignores its key, so that no key is out of its range
abbrev pub last_key_of : ℕ → ℕ
last_key_of n = cond (n == 7) (2 ^ 32 - 1) (last_of (family n))

-- read, has, size and find leave the state
abbrev pub changes : ℕ → Bool
changes n = not (n == 3 || n == 6 || n == 7 || n == 10)

abbrev pub code_row : ℕ → CodeRule
code_row n = record { code = n; family = family n; last_key = last_key_of n; changes = changes n }

abbrev pub code_rule : ℕ → Option CodeRule
code_rule n = cond (is_code n) (Some (code_row n)) None

abbrev pub same_family : Family → Family → Bool
same_family Counter Counter = true
same_family Set Set = true
same_family Map Map = true
same_family f g = false

-- a bottom object of the family f knows an operation with the unit 0, a code of its family, and a key that the code takes
abbrev pub knows : Family → Operation → Bool
knows f o = o.unit == 0 && is_code o.code && same_family (family o.code) f && nat_le o.key (last_key_of o.code)

-- the row of an operation that it knows
abbrev pub own_rule : Family → Operation → Option CodeRule
own_rule f o = provided (knows f o) (code_row o.code)

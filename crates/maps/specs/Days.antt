-- The days of a map, each empty or with a value.
use Rattle.std.specs.Prelude.{◌≡◌, ℕ, ◌<◌, Bool, true, ◌&&◌, List, length, replicate, ℤ, pos, neg_ℤ, Some, None, Option, int_le, slice_index_or}
use Rattle.std.specs.Option.{option_eq}
use Rattle.std.specs.Ordering.{int_eq}

abbrev pub day_count : ℕ
day_count = 512

-- what a day holds
abbrev pub held : List (Option ℤ) → ℕ → Option ℤ
held s d = slice_index_or s d None

unfoldable pub empty : List (Option ℤ)
empty = replicate day_count None

-- -1,000,000,000 to 1,000,000,000
abbrev pub largest : ℤ
largest = pos 1000000000

abbrev pub in_range : ℤ → Bool
in_range v = int_le (neg_ℤ largest) v && int_le v largest

-- what a day may hold
abbrev pub fits : Option ℤ → Bool
fits None = true
fits (Some v) = in_range v

-- two days hold the same
abbrev pub same_content : Option ℤ → Option ℤ → Bool
same_content = option_eq int_eq

-- the lawful states
pub record Days (s : List (Option ℤ)) : Type 0 where
  pub many : length s ≡ day_count
  pub each : (d : ℕ) → d < day_count → fits (held s d) ≡ true

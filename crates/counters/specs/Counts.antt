-- The counts of a bank, by key.
use Rattle.std.specs.Prelude.{◌≡◌, ℕ, ◌<◌, Bool, ◌&&◌, List, length, replicate, ℤ, pos, ◌+ℤ◌, ◌≤ℤ◌, int_le, slice_index_or, slice_set}

abbrev pub counters : ℕ
counters = 32

-- what a counter holds at most; the definitions below take the ceiling as a variable c
abbrev pub ceiling : ℤ
ceiling = pos 1000000

abbrev pub held : List ℤ → ℕ → ℤ
held s k = slice_index_or s k (pos 0)

abbrev pub moved : List ℤ → ℕ → ℤ → List ℤ
moved s k by = slice_set s k (held s k +ℤ by)

abbrev pub zeros : List ℤ
zeros = replicate counters (pos 0)

-- 0 to c, as a test and as a fact
abbrev pub in_range : ℤ → ℤ → Bool
in_range c x = int_le (pos 0) x && int_le x c

abbrev pub Within : ℤ → ℤ → Type 0
Within c x = (pos 0 ≤ℤ x) × (x ≤ℤ c)

abbrev pub Each : ℤ → List ℤ → Type 0
Each c s = (k : ℕ) → k < counters → Within c (held s k)

-- the lawful states: 32 counters, each from 0 to c
pub record Counts (c : ℤ) (s : List ℤ) : Type 0 where
  pub many : length s ≡ counters
  pub each : Each c s

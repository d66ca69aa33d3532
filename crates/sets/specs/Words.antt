-- The set in words of 64 bits: key k is bit k % 64 of word k / 64.
use Rattle.std.specs.Prelude.{ℕ, ◌/◌, ◌%◌, ◌^◌, Bool, List, map, ◌==◌, slice_index}
use Rattle.std.specs.List.{range_with_len}
use Rattle.sets.specs.Members.{keys}

abbrev pub bit : ℕ → ℕ → Bool
bit w i = w / 2 ^ i % 2 == 1

unfoldable pub members_of : List ℕ → List Bool
members_of words = map (λ k. bit (slice_index words (k / 64)) (k % 64)) (range_with_len 0 keys)

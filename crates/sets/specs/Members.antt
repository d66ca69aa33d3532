-- The members of a set. A state says of each key, in turn, whether it is a member.
use Rattle.std.specs.Prelude.{◌≡◌, ℕ, Bool, false, not, List, length, replicate, count_by, Option, slice_index_or, slice_set}
use Rattle.std.specs.Bool.{beq}
use Rattle.objects.specs.Kinds.{provided}

abbrev pub keys : ℕ
keys = 256

abbrev pub member : List Bool → ℕ → Bool
member s k = slice_index_or s k false

unfoldable pub empty : List Bool
empty = replicate keys false

unfoldable pub size : List Bool → ℕ
size s = count_by (λ b. b) s

-- a key turned from a member into none, or from none into a member, where it is so
abbrev pub turned : List Bool → ℕ → Bool → Option (List Bool)
turned s k from = provided (beq (member s k) from) (slice_set s k (not from))

-- the lawful states: each key has its place
pub record Members (s : List Bool) : Type 0 where
  pub many : length s ≡ keys

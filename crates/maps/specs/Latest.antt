-- The latest filled day.
use Rattle.std.specs.Prelude.{◌≡◌, ℕ, zero, suc, ◌<◌, ◌≤◌, List, ℤ, Some, None, Option}
use Rattle.maps.specs.Days.{held}

-- of a day's content and the latest day before it
abbrev pub later : ℕ → Option ℤ → Option (ℕ × ℤ) → Option (ℕ × ℤ)
later d (Some v) before = Some (d, v)
later d None before = before

-- the latest filled day of the first n, with its value
abbrev pub latest_of : List (Option ℤ) → ℕ → Option (ℕ × ℤ)
latest_of s zero = None
latest_of s (suc d) = later d (held s d) (latest_of s d)

-- the latest filled day not after day d
abbrev pub latest : List (Option ℤ) → ℕ → Option (ℕ × ℤ)
latest s d = latest_of s (suc d)

-- what that means: the day is not after d, holds the value, and no day between is filled; or none up to d is filled
abbrev pub IsLatest : List (Option ℤ) → ℕ → Option (ℕ × ℤ) → Type 0
IsLatest s d None = (e : ℕ) → e ≤ d → held s e ≡ None
IsLatest s d (Some (e, v)) = (e ≤ d) × (held s e ≡ Some v) × ((f : ℕ) → e < f → f ≤ d → held s f ≡ None)

-- find looks for exactly that, in every state
abbrev pub FindsTheLatest : Type 0
FindsTheLatest = (s : List (Option ℤ)) (d : ℕ) → IsLatest s d (latest s d)

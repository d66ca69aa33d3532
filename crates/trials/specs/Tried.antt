-- The lists of what is tried.
use Rattle.std.specs.Prelude.{ℕ, ℤ, List, map, flat_map}
use Rattle.objects.specs.declared.records.Operation.{Operation}
use Rattle.objects.specs.declared.records.Answer.{Answer}
use Rattle.objects.specs.declared.records.Record.{Record}
use Rattle.objects.specs.Answers.{answered}

abbrev pub asked : ℕ → ℕ → ℕ → ℤ → Operation
asked code unit key amount = record { code = code; unit = unit; key = key; amount = amount }

-- each code with each amount, in turn
abbrev pub asked_each : ℕ → ℕ → List ℕ → List ℤ → List Operation
asked_each unit key codes amounts = flat_map (λ code. map (asked code unit key) amounts) codes

-- each operation with each answer, in turn
abbrev pub answered_each : List Operation → List Answer → List Record
answered_each os replies = flat_map (λ o. map (answered o) replies) os

-- the code with the amount, at unit 0 and each of the keys
abbrev pub at_each : List ℕ → ℕ → ℤ → List Operation
at_each keys code amount = map (λ key. asked code 0 key amount) keys

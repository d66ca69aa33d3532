-- The worked examples.
use Rattle.std.specs.Prelude.{ℕ, true, false, List, [], ◌∷◌, ℤ, pos}
use Rattle.objects.specs.Answers.{done, holding, short}
use Rattle.objects.specs.declared.records.Answer.{Answer}
use Rattle.objects.specs.declared.records.Record.{Record}
use Rattle.worked.specs.Examples.{Example, pair, counter_bank}

-- an operation on key 0 of the object itself
abbrev posted : ℕ → ℤ → Answer → Record
posted code amount a = record { operation = record { code = code; unit = 0; key = 0; amount = amount }; answer = a }

abbrev add : ℤ → Answer → Record
add = posted 1

abbrev take : ℤ → Answer → Record
take = posted 2

abbrev read : ℤ → Record
read v = posted 3 (pos 0) (holding v)

abbrev pub examples : List Example
examples =
    pair counter_bank (add (pos 5) done) (add (pos 7) done) true
    ∷ pair counter_bank (add (pos 5) done) (take (pos 7) done) false
    ∷ pair counter_bank (add (pos 5) done) (read (pos 4)) true
    ∷ pair counter_bank (add (pos 5) done) (read (pos 5)) false
    ∷ pair counter_bank (take (pos 5) done) (take (pos 7) done) true
    ∷ pair counter_bank (take (pos 5) done) (add (pos 7) done) false
    ∷ pair counter_bank (take (pos 5) done) (take (pos 9) short) false
    ∷ []

-- The worked examples.
use Rattle.std.specs.Prelude.{ℕ, true, false, List, [], ◌∷◌, ℤ, pos}
use Rattle.objects.specs.Answers.{done, found, gone, holding, new, short}
use Rattle.objects.specs.declared.records.Answer.{Answer}
use Rattle.objects.specs.declared.records.Record.{Record}
use Rattle.worked_pile.specs.Examples.{Example, pair, counter_bank, keys, dates, aliases}

-- an operation on the object itself
abbrev posted : ℕ → ℕ → ℤ → Answer → Record
posted code key amount a = record { operation = record { code = code; unit = 0; key = key; amount = amount }; answer = a }

-- by the key
abbrev add_to : ℕ → ℤ → Answer → Record
add_to = posted 1

abbrev take_from : ℕ → ℤ → Answer → Record
take_from = posted 2

abbrev insert : ℕ → Answer → Record
insert key = posted 4 key (pos 0)

abbrev remove : ℕ → Answer → Record
remove key = posted 5 key (pos 0)

abbrev put : ℕ → ℤ → Answer → Record
put = posted 8

abbrev find : ℕ → Answer → Record
find key = posted 10 key (pos 0)

-- on key 0, or with a key that is ignored
abbrev add : ℤ → Answer → Record
add = add_to 0

abbrev take : ℤ → Answer → Record
take = take_from 0

abbrev read : ℤ → Record
read v = posted 3 0 (pos 0) (holding v)

abbrev size : ℤ → Record
size n = posted 7 0 (pos 0) (holding n)

abbrev pub examples : List Example
examples =
    pair counter_bank (add (pos 5) done) (add (pos 7) done) true
    ∷ pair counter_bank (add (pos 5) done) (take (pos 7) done) false
    ∷ pair counter_bank (add (pos 5) done) (read (pos 4)) true
    ∷ pair counter_bank (add (pos 5) done) (read (pos 5)) false
    ∷ pair counter_bank (take (pos 5) done) (take (pos 7) done) true
    ∷ pair counter_bank (take (pos 5) done) (add (pos 7) done) false
    ∷ pair counter_bank (take (pos 5) done) (take (pos 9) short) false
    ∷ pair keys (insert 3 new) (size (pos 1)) false
    ∷ pair keys (remove 3 gone) (size (pos 256)) true
    ∷ pair dates (put 10 (pos 50) new) (find 12 (found 10 (pos 50))) false
    ∷ pair aliases (add_to 1000 (pos 5) done) (take_from 1001 (pos 5) done) false
    ∷ []

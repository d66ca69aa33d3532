-- The tags of answers, and the answers that the rules name. A field that no rule mentions is 0.
use Rattle.std.specs.Prelude.{ℕ, Bool, ◌&&◌, List, [], ◌∷◌, ℤ, pos, ◌==◌, int_le}
use Rattle.std.specs.Ordering.{int_eq}
use Rattle.objects.specs.declared.records.Operation.{Operation}
use Rattle.objects.specs.declared.records.Answer.{Answer}
use Rattle.objects.specs.declared.records.Record.{Record}

-- bad, done, full, short, value, new, already, gone, absent, yes, no, old, found, nothing, closed
abbrev pub tags : List ℕ
tags = 0 ∷ 1 ∷ 2 ∷ 3 ∷ 4 ∷ 5 ∷ 6 ∷ 7 ∷ 8 ∷ 9 ∷ 10 ∷ 11 ∷ 12 ∷ 13 ∷ 14 ∷ []

-- an answer that says no more than its tag
abbrev pub plain : ℕ → Answer
plain tag = record { tag = tag; place = 0; value = pos 0 }

abbrev pub bad : Answer
bad = plain 0

abbrev pub done : Answer
done = plain 1

abbrev pub full : Answer
full = plain 2

abbrev pub short : Answer
short = plain 3

abbrev pub new : Answer
new = plain 5

abbrev pub already : Answer
already = plain 6

abbrev pub gone : Answer
gone = plain 7

abbrev pub absent : Answer
absent = plain 8

abbrev pub answer_yes : Answer
answer_yes = plain 9

abbrev pub answer_no : Answer
answer_no = plain 10

abbrev pub nothing : Answer
nothing = plain 13

abbrev pub closed : Answer
closed = plain 14

abbrev pub plain_answers : List Answer
plain_answers =
    bad ∷ done ∷ full ∷ short ∷ new ∷ already ∷ gone ∷ absent ∷ answer_yes ∷ answer_no ∷ nothing ∷ closed ∷ []

-- value: what a counter holds, or how many members a set has
abbrev pub holding : ℤ → Answer
holding v = record { tag = 4; place = 0; value = v }

-- old: the value that a day held before
abbrev pub old : ℤ → Answer
old v = record { tag = 11; place = 0; value = v }

-- found: the day on which a value was found as the place, and the value
abbrev pub found : ℕ → ℤ → Answer
found day v = record { tag = 12; place = day; value = v }

-- two answers are the same
abbrev pub same : Answer → Answer → Bool
same a b = a.tag == b.tag && a.place == b.place && int_eq a.value b.value

-- the answer value, with a value from 0 to the most that there can be
abbrev pub is_value_to : ℤ → Answer → Bool
is_value_to most a = same a (holding a.value) && (int_le (pos 0) a.value && int_le a.value most)

-- an operation with its answer
abbrev pub answered : Operation → Answer → Record
answered o a = record { operation = o; answer = a }

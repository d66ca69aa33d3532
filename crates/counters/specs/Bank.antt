-- How a bank with the ceiling c runs and withdraws, over its counts s.
use Rattle.std.specs.Prelude.{ℕ, Bool, cond, List, ℤ, ◌+ℤ◌, neg_ℤ, Some, None, Option, int_le}
use Rattle.objects.specs.declared.records.Operation.{Operation}
use Rattle.objects.specs.declared.records.Answer.{Answer}
use Rattle.objects.specs.declared.records.Record.{Record}
use Rattle.objects.specs.Kinds.{provided}
use Rattle.objects.specs.Answers.{bad, done, full, short, holding, is_value_to, same}
use Rattle.counters.specs.Counts.{held, in_range, moved}
use Rattle.counters.specs.Movements.{meant}
use Rattle.counters.specs.declared.movement.Movement.{Movement}
use Rattle.counters.specs.declared.movement.Movement.TheVariants.{Add, Take, Read}

abbrev pub did : ℤ → List ℤ → Option Movement → Answer × List ℤ
did c s (Some (Add k n)) = cond (int_le (held s k +ℤ n) c) (done, moved s k n) (full, s)
did c s (Some (Take k n)) = cond (int_le n (held s k)) (done, moved s k (neg_ℤ n)) (short, s)
did c s (Some (Read k)) = (holding (held s k), s)
did c s None = (bad, s)

abbrev pub ran : ℤ → List ℤ → Operation → Answer × List ℤ
ran c s o = did c s (meant c o)

-- a move, where it stays from 0 to c
abbrev pub shifted : ℤ → List ℤ → ℕ → ℤ → Option (List ℤ)
shifted c s k by = provided (in_range c (held s k +ℤ by)) (moved s k by)

-- an answer that a read can give
abbrev pub is_reading : ℤ → Answer → Bool
is_reading c a = is_value_to c a

-- a done is moved back; what left the counts is withdrawn everywhere; what runs in no lawful state is withdrawn nowhere
abbrev pub undone : ℤ → List ℤ → Option Movement → Answer → Option (List ℤ)
undone c s (Some (Add k n)) a = cond (same a done) (shifted c s k (neg_ℤ n)) (provided (same a full) s)
undone c s (Some (Take k n)) a = cond (same a done) (shifted c s k n) (provided (same a short) s)
undone c s (Some (Read k)) a = provided (is_reading c a) s
undone c s None a = provided (same a bad) s

abbrev pub withdrawn : ℤ → List ℤ → Record → Option (List ℤ)
withdrawn c s r = undone c s (meant c r.operation) r.answer

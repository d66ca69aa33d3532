-- The test of a bank with the ceiling c, by ranges of the one counter that both records name.
use Rattle.std.specs.Prelude.{Bool, true, cond, ◌&&◌, ◌||◌, ℤ, pos, ◌+ℤ◌, ◌-ℤ◌, neg_ℤ, ◌==◌, int_le, int_lt, Option, Some, None}
use Rattle.std.specs.Int.{int_max, int_min}
use Rattle.objects.specs.declared.records.Answer.{Answer}
use Rattle.objects.specs.declared.records.Record.{Record}
use Rattle.objects.specs.Answers.{bad, done, full, same, short}
use Rattle.counters.specs.Bank.{is_reading}
use Rattle.counters.specs.Movements.{meant}
use Rattle.counters.specs.declared.movement.Movement.{Movement}
use Rattle.counters.specs.declared.movement.Movement.TheVariants.{Add, Take, Read}
use Rattle.counters.specs.declared.span.Span.{Span}

-- the counts from low to high, each moved by step
abbrev pub span : ℤ → ℤ → ℤ → Span
span low high step = record { low = low; high = high; step = step }

abbrev pub everywhere : ℤ → Span
everywhere c = span (pos 0) c (pos 0)

abbrev pub nowhere : Span
nowhere = span (pos 1) (pos 0) (pos 0)

-- where a record runs, and how it moves the count
abbrev pub run_span : ℤ → Option Movement → Answer → Span
run_span c (Some (Add k n)) a = cond (same a done) (span (pos 0) (c -ℤ n) n) (cond (same a full) (span ((c -ℤ n) +ℤ pos 1) c (pos 0)) nowhere)
run_span c (Some (Take k n)) a = cond (same a done) (span n c (neg_ℤ n)) (cond (same a short) (span (pos 0) (n -ℤ pos 1) (pos 0)) nowhere)
run_span c (Some (Read k)) a = cond (is_reading c a) (span a.value a.value (pos 0)) nowhere
run_span c None a = cond (same a bad) (everywhere c) nowhere

-- where its withdrawal applies, and how that moves the count
abbrev pub withdrawal_span : ℤ → Option Movement → Answer → Span
withdrawal_span c (Some (Add k n)) a = cond (same a done) (span n c (neg_ℤ n)) (cond (same a full) (everywhere c) nowhere)
withdrawal_span c (Some (Take k n)) a = cond (same a done) (span (pos 0) (c -ℤ n) n) (cond (same a short) (everywhere c) nowhere)
withdrawal_span c (Some (Read k)) a = cond (is_reading c a) (everywhere c) nowhere
withdrawal_span c None a = cond (same a bad) (everywhere c) nowhere

-- p is where the earlier record's withdrawal applies, q where the later record runs, m to k where both do:
-- yes where that is nowhere, else where each one's move keeps m and k where the other applies
abbrev pub commuting : Span → Span → Bool
commuting p q =
    let m = int_max p.low q.low in
    let k = int_min p.high q.high in
    int_lt k m || ((int_le p.low (m +ℤ q.step) && int_le (k +ℤ q.step) p.high) && (int_le q.low (m +ℤ p.step) && int_le (k +ℤ p.step) q.high))

abbrev pub runs_in : ℤ → Record → Span
runs_in c r = run_span c (meant c r.operation) r.answer

abbrev pub withdraws_in : ℤ → Record → Span
withdraws_in c r = withdrawal_span c (meant c r.operation) r.answer

-- two records of one key
abbrev pub tested_on_one_key : ℤ → Record → Record → Bool
tested_on_one_key c p q = commuting (withdraws_in c p) (runs_in c q)

-- two records of different keys never meet
abbrev pub tested : ℤ → Record → Record → Bool
tested c p q = cond (p.operation.key == q.operation.key) (tested_on_one_key c p q) true

-- The kind of a bank, each counter with the ceiling c.
use Rattle.std.specs.Prelude.{List, ℤ}
use Rattle.objects.specs.Kinds.{Kind}
use Rattle.counters.specs.Bank.{ran, withdrawn}
use Rattle.counters.specs.Counts.{Counts}
use Rattle.counters.specs.Spans.{tested}

abbrev pub bank : ℤ → Kind (List ℤ)
bank c = record { Lawful = Counts c; ran = ran c; withdrawn = withdrawn c; tested = tested c }

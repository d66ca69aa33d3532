use Rattle.std.proofs.Common.{rules}
use Rattle.std.proofs.lemmas.Int.{to_z-of_z}
use Rattle.counters.proofs.span.Span.of_run.Goals as goal

pub returns-in-Some-Add-2 : goal.returns-in-Some-Add-2
returns-in-Some-Add-2 c = search (rules, to_z-of_z)

use Rattle.std.proofs.Common.{rules}
use Rattle.sets.specs.Lemmas.Words.{size_counted}
use Rattle.sets.proofs.bits.BitSet.size.Goals as goal

pub returns : goal.returns
returns c = search (rules, size_counted)

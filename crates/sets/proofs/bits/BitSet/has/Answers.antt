use Rattle.std.proofs.Common.{rules}
use Rattle.sets.specs.Lemmas.Words.{member_bit, member_past}
use Rattle.sets.proofs.bits.BitSet.has.Goals as goal

pub returns : goal.returns
returns c = search (rules, member_bit, member_past)

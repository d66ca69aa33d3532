use Rattle.std.proofs.Common.{refl}
use Rattle.sets.specs.Members.{empty}
use Rattle.sets.specs.Words.{members_of}
use Rattle.sets.specs.Lemmas.Laws.{key_set_withdrawals}
use Rattle.sets.proofs.bits.BitSet.new.Goals as goal

pub returns : goal.returns
unfolding empty members_of
returns c = record { empty = refl; withdrawals = key_set_withdrawals }

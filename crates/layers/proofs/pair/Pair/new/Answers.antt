use Rattle.std.proofs.Common.{refl}
use Rattle.layers.specs.Lemmas.Pairs.{paired_withdrawals}
use Rattle.layers.proofs.pair.Pair.new.Goals as goal

pub returns : goal.returns
returns g c = record { left = refl; right = refl; withdrawals = paired_withdrawals _ _ }

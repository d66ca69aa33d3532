use Rattle.std.proofs.Common.{refl}
use Rattle.layers.specs.Lemmas.Filters.{filtered_withdrawals}
use Rattle.layers.proofs.filter.Filtered.new.Goals as goal

pub returns : goal.returns
returns g c = record { filter = refl; below = refl; withdrawals = filtered_withdrawals _ _ }

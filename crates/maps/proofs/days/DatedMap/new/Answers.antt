use Rattle.std.proofs.Common.{refl}
use Rattle.maps.specs.Days.{empty}
use Rattle.maps.specs.Lemmas.Contents.{empty_days}
use Rattle.maps.specs.Lemmas.Latest.{latest_right}
use Rattle.maps.specs.Lemmas.Laws.{dated_map_withdrawals}
use Rattle.maps.proofs.days.DatedMap.new.Goals as goal

pub invariant_of-result : goal.invariant_of-result
unfolding empty
invariant_of-result c = record { lawful = empty_days }

pub returns : goal.returns
unfolding empty
returns c = record { empty = refl; withdrawals = dated_map_withdrawals; latest = latest_right }

use Rattle.std.proofs.Common.{refl}
use Rattle.worked_pile.specs.List.{examples}
use Rattle.worked_pile.proofs.Judged.{all_hold}
use Rattle.worked_pile.proofs.examples_hold.Goals as goal

pub returns : goal.returns
returns c = record { count = refl; hold = all_hold examples refl }

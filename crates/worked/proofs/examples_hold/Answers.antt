use Rattle.std.proofs.Common.{refl}
use Rattle.worked.specs.List.{examples}
use Rattle.worked.proofs.Judged.{all_hold}
use Rattle.worked.proofs.examples_hold.Goals as goal

pub returns : goal.returns
returns c = record { count = refl; hold = all_hold examples refl }

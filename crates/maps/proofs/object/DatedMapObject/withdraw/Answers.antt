use Rattle.std.proofs.Common.{sym}
use Rattle.maps.specs.Lemmas.Laws.{written_by}
use Rattle.maps.proofs.object.DatedMapObject.withdraw.Goals as goal

pub restore-requires : goal.restore-requires
restore-requires c =
    (written_by c.args.record.now c.in-Some.trace c.in-Some-change.change (sym c.in-Some.ensures) c.in-Some-change.is).fits_before

-- Numbers of 64 bits as the integers that they stand for.
use Rattle.std.proofs.lemmas.Int.{clamps, ints, to_z-of_z}

pub ruleset wide = (ints, clamps, to_z-of_z)

use Rattle.std.proofs.Common.{arith}
use Rattle.sets.specs.Lemmas.Words.{turn_made, turn_past}
use Rattle.sets.proofs.bits.BitSet.turn.Goals as goal

pub returns-then-key-lt-KEYS-clause-after : goal.returns-then-key-lt-KEYS-clause-after
returns-then-key-lt-KEYS-clause-after c = (turn_made _ _ _ _ c.has.ensures c.if-has-from.false (omega arith) c.if-key-lt-KEYS.true).1

pub returns-else-key-lt-KEYS-clause-after : goal.returns-else-key-lt-KEYS-clause-after
returns-else-key-lt-KEYS-clause-after c = turn_past _ _ _ _ c.has.ensures c.if-has-from.false c.if-key-lt-KEYS.false

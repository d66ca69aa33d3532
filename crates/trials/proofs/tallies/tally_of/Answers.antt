use Rattle.std.proofs.Common.{arith}
use Rattle.trials.proofs.Rows.{rows_more, rows_fit}
use Rattle.trials.proofs.tallies.tally_of.Goals as goal

pub overflow_add-all : goal.overflow_add-all
overflow_add-all g c = omega (arith, rows_fit c.args.records.now c.loop-i.i-counter (omega arith) (omega arith))

pub overflow_add-all-in-loop-i : goal.overflow_add-all-in-loop-i
overflow_add-all-in-loop-i g c = omega (arith, rows_fit c.args.records.now c.loop-i.i-counter (omega arith) (omega arith))

pub overflow_add-all-in-loop-i-2 : goal.overflow_add-all-in-loop-i-2
overflow_add-all-in-loop-i-2 g c = omega (arith, rows_fit c.args.records.now c.loop-i.i-counter (omega arith) (omega arith))

pub loop-i-preserved : goal.loop-i-preserved
loop-i-preserved g c = rows_more _ c.args.records.now c.loop-i.i-counter _ c.loop-i.all c.row-row.result (omega arith) c.loop-i.invariant c.row-row.ensures

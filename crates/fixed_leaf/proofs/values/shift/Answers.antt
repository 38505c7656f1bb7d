-- The table is small enough for the sums.
use Rattle.fixed_leaf.proofs.Excesses.{less_table, shift_fits, shift_table}
use Rattle.fixed_leaf.proofs.values.shift.Goals as goal

pub overflow_add-excess : goal.overflow_add-excess
overflow_add-excess c = shift_fits c.args.excess.now c.args.joint.now c.args.value c.requires.tail c.requires.head c.requires.table c.requires.value _ (less_table c.args.excess.now c.args.joint.now c.args.value c.requires.tail c.requires.head c.requires.table c.requires.value)

pub returns : goal.returns
returns c = shift_table c.args.excess.now c.args.joint.now c.args.value c.requires.tail c.requires.head c.requires.table c.requires.value _ (less_table c.args.excess.now c.args.joint.now c.args.value c.requires.tail c.requires.head c.requires.table c.requires.value)

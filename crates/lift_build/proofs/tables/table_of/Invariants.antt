use Rattle.lift_build.proofs.TableLoops.{TableSoFar}
use Rattle.lift_build.proofs.tables.table_of.Given as goal

abbrev pub invariant-loop-sum : goal.invariant-loop-sum
invariant-loop-sum l = TableSoFar l.behind l.weight l.copies l.sum l.least.items l.table.items l.last

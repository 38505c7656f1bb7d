use Rattle.std.proofs.Common.{arith}
use Rattle.std.proofs.lemmas.Grind.{common_steps}
use Rattle.joint_model.proofs.ColumnSums.{columns_more}
use Rattle.joint_model.proofs.models.columns.Goals as goal

pub loop-kind-preserved : goal.loop-kind-preserved
loop-kind-preserved c = grind (arith, common_steps, columns_more)

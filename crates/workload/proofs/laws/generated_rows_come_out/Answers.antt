use Rattle.std.proofs.Common.{refl}
use Rattle.workload.proofs.laws.generated_rows_come_out.Goals as goal

pub returns : goal.returns
returns c = record { state = refl; draw = refl; weight = refl; demand = refl; one_item = refl }

use Rattle.joint_flows.proofs.BrokenRows.{no_bad_row_is_flow}
use Rattle.joint_flows.proofs.laws.no_bad_row_is_flow.Goals as goal

pub returns : goal.returns
returns c = no_bad_row_is_flow

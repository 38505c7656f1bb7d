use Rattle.flow_model.proofs.BoxParts.{boxes_split as split}
use Rattle.flow_model.proofs.laws.boxes_split.Goals as goal

pub returns : goal.returns
returns c = split

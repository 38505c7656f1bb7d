use Rattle.pattern_extract.proofs.WorthLaws.{flows_are_packings}
use Rattle.pattern_extract.proofs.laws.flows_are_packings.Goals as goal

pub returns : goal.returns
returns c = flows_are_packings

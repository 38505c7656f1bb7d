use Rattle.std.proofs.Common.{refl}
use Rattle.flow_model.proofs.Examples.{graph_of}
use Rattle.pattern_extract.proofs.Examples.{faithful}
use Rattle.pattern_extract.proofs.laws.examples_come_out.Goals as goal

pub returns : goal.returns
returns c = record { faithful = faithful graph_of; times = refl; content = refl }

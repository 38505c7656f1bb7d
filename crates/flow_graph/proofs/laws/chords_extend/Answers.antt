use Rattle.flow_graph.proofs.Extensions.{chords_extend as extend}
use Rattle.flow_graph.proofs.laws.chords_extend.Goals as goal

pub returns : goal.returns
returns c = extend

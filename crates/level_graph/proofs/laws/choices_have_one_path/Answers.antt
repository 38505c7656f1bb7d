use Rattle.level_graph.proofs.Choices.{has_one_path}
use Rattle.level_graph.proofs.laws.choices_have_one_path.Goals as goal

pub returns : goal.returns
returns c = λ N pieces room states arcs are content choice. has_one_path pieces room states arcs are content choice

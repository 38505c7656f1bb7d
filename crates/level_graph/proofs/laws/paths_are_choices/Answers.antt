use Rattle.level_graph.proofs.Choices.{has_choice}
use Rattle.level_graph.proofs.laws.paths_are_choices.Goals as goal

pub returns : goal.returns
returns c = λ N pieces room states arcs are path h. has_choice pieces room states arcs are path h

use Rattle.search_tree.proofs.Counted.{open_trees_have_points}
use Rattle.search_tree.proofs.laws.open_trees_have_points.Goals as goal

pub returns : goal.returns
returns c = open_trees_have_points c.points_are_counted.ensures

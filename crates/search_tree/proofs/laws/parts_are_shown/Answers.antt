use Rattle.search_tree.proofs.Narrower.{parts_are_shown}
use Rattle.search_tree.proofs.laws.parts_are_shown.Goals as goal

pub returns : goal.returns
returns c = parts_are_shown

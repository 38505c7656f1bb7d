use Rattle.std.proofs.Common.{◌≡◌, length, refl}
use Rattle.flow_graph.specs.Arcs.{numbered}
use Rattle.search_tests.proofs.WorkedTree.{lone_needs}
use Rattle.search_tests.proofs.tests.trees.worked.Goals as goal

pub returns-clause-needs : goal.returns-clause-needs
returns-clause-needs c =
    let size : length (numbered c.args.graph.now) ≡ 5 = rw c.requires.graph refl in
    c.in_ok-split.ensures.needs c.args.graph.now (lone_needs c.args.graph.now c.in_ok-tree.tree c.in_ok-root.root c.in_ok-known.known.shown c.in_ok-need.need c.in_ok-tree.ensures size c.in_ok-need.ensures.need c.in_ok-need.ensures.arcs)

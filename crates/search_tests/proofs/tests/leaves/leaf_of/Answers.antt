use Rattle.std.proofs.Common.{◌≡◌, ℕ, List, sym, subst, rules}
use Rattle.packing_laws.specs.Instances.{InstanceValue}
use Rattle.flow_graph.specs.Arcs.{TypeValue}
use Rattle.flow_model.specs.Boxes.{LiesWithin, root_ranges}
use Rattle.search_tests.specs.Worked.{both_graphs, box_of, three_in_two}
use Rattle.search_tests.proofs.WorkedBoxes.{lies_within}
use Rattle.search_tests.proofs.tests.leaves.leaf_of.Goals as goal

pub fixed_leaf-requires-clause-within : goal.fixed_leaf-requires-clause-within
fixed_leaf-requires-clause-within c =
    let box : c.in_ok-ranges.ranges ≡ box_of c.args.chords.bins c.args.chords.loss c.args.chords.piece c.args.chords.others c.args.chords.most = search rules in
    let graph : c.in_ok-graph.graph ≡ both_graphs = search rules in
    let instance : c.in-Some.instance ≡ three_in_two = search rules in
    subst (λ (b : List (ℕ × ℕ)). LiesWithin b (root_ranges c.in-Some.instance c.in_ok-graph.graph)) (sym box)
    (subst (λ (g : List TypeValue). LiesWithin (box_of c.args.chords.bins c.args.chords.loss c.args.chords.piece c.args.chords.others c.args.chords.most) (root_ranges c.in-Some.instance g)) (sym graph)
    (subst (λ (I : InstanceValue). LiesWithin (box_of c.args.chords.bins c.args.chords.loss c.args.chords.piece c.args.chords.others c.args.chords.most) (root_ranges I both_graphs)) (sym instance)
    (lies_within c.args.chords.bins c.args.chords.loss c.args.chords.piece c.args.chords.others c.args.chords.most c.requires.bins c.requires.loss c.requires.piece c.requires.others c.requires.most)))

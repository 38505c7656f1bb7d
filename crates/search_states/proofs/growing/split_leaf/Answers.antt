use Rattle.std.proofs.Common.{◌≡◌, List, Option, length, ap, sym, subst, ◌∙◌}
use Rattle.flow_graph.specs.Arcs.{TypeValue, numbered}
use Rattle.cert_laws.specs.Rules.{Box}
use Rattle.fixed_leaf.specs.Leaves.{TellsChords}
use Rattle.search_tree.specs.Points.{HasOpenChord}
use Rattle.search_states.specs.declared.known.Known.{Known}
use Rattle.search_states.specs.States.{IsFinding}
use Rattle.search_states.proofs.Splits.{box, grown_state, high_valued, high_within, leaf_chord, low_valued, low_within}
use Rattle.search_states.proofs.growing.split_leaf.Goals as goal

pub chord_in-split-requires-clause-some : goal.chord_in-split-requires-clause-some
chord_in-split-requires-clause-some c =
    let I = c.args.instance.now in
    let g : List TypeValue = c.args.graph.now in
    let is : c.in_ok-ranges.ranges ≡ box I g c.args.state c.requires.state c.args.index c.requires.leaf = c.in_ok-ranges.ensures.value c.requires.leaf.place c.requires.leaf.read in
    let told : TellsChords g c.as_slice.result.now = subst (TellsChords g) (sym c.as_slice.ensures) c.requires.state.told in
    let chord : HasOpenChord g c.in_ok-ranges.ranges = subst (HasOpenChord g) (sym is) (leaf_chord I g c.args.state c.requires.state c.args.index c.requires.leaf) in
    let size : length c.in_ok-ranges.ranges ≡ length (numbered g) = c.in_ok-ranges.ensures.size ∙ ap (λ (b : Box). length b) c.requires.state.root ∙ c.flows_lie_in_root.ensures.size I g in
    (g, told, chord, size)

pub look_at-requires-clause-within : goal.look_at-requires-clause-within
look_at-requires-clause-within c =
    let is = c.in_ok-ranges.ensures.value c.requires.leaf.place c.requires.leaf.read in
    low_within c.args.instance.now c.args.graph.now c.args.state c.requires.state c.args.index c.requires.leaf c.boxes_split.ensures c.flows_lie_in_root.ensures c.in_ok-ranges.ranges is c.chord_in-split.result c.chord_in-split.ensures.genuine c.in_ok-part.part c.in_ok-part.ensures

pub look_at-requires-clause-valued : goal.look_at-requires-clause-valued
look_at-requires-clause-valued c =
    let is = c.in_ok-ranges.ensures.value c.requires.leaf.place c.requires.leaf.read in
    low_valued c.args.instance.now c.args.graph.now c.args.state c.requires.state c.args.index c.requires.leaf c.boxes_split.ensures c.flows_lie_in_root.ensures c.in_ok-ranges.ranges is c.chord_in-split.result c.chord_in-split.ensures.genuine c.parts_are_shown.ensures c.known.ensures c.in_ok-given.given.shown (c.in_ok-given.ensures.shown c.requires.leaf.place c.requires.leaf.read) c.in_ok-part.part c.in_ok-part.ensures

pub look_at-requires-2-clause-within : goal.look_at-requires-2-clause-within
look_at-requires-2-clause-within c =
    let is = c.in_ok-ranges.ensures.value c.requires.leaf.place c.requires.leaf.read in
    high_within c.args.instance.now c.args.graph.now c.args.state c.requires.state c.args.index c.requires.leaf c.boxes_split.ensures c.flows_lie_in_root.ensures c.in_ok-ranges.ranges is c.chord_in-split.result c.chord_in-split.ensures.genuine c.in_ok-part-2.part c.in_ok-part-2.ensures

pub look_at-requires-2-clause-valued : goal.look_at-requires-2-clause-valued
look_at-requires-2-clause-valued c =
    let is = c.in_ok-ranges.ensures.value c.requires.leaf.place c.requires.leaf.read in
    high_valued c.args.instance.now c.args.graph.now c.args.state c.requires.state c.args.index c.requires.leaf c.boxes_split.ensures c.flows_lie_in_root.ensures c.in_ok-ranges.ranges is c.chord_in-split.result c.chord_in-split.ensures.genuine c.parts_are_shown.ensures c.known.ensures c.in_ok-given-2.given.shown (c.in_ok-given-2.ensures.shown c.requires.leaf.place c.requires.leaf.read) c.in_ok-part-2.part c.in_ok-part-2.ensures

pub returns-clause-state : goal.returns-clause-state
returns-clause-state c =
    let I = c.args.instance.now in
    let g : List TypeValue = c.args.graph.now in
    let is = c.in_ok-ranges.ensures.value c.requires.leaf.place c.requires.leaf.read in
    let told : TellsChords g c.as_slice.result.now = subst (TellsChords g) (sym c.as_slice.ensures) c.requires.state.told in
    let first = subst (λ (k : Option Known). IsFinding I g c.in_ok-part.part k c.in_ok-low.low) c.in_ok-given.ensures.best c.in_ok-low.ensures.found in
    let second = subst (λ (k : Option Known). IsFinding I g c.in_ok-part-2.part k c.in_ok-high.high) c.in_ok-given-2.ensures.best c.in_ok-high.ensures.found in
    c.keep_need.ensures.state I g second.need
    (c.keep_need-grown.ensures.state I g first.need
    (grown_state I g c.args.state c.requires.state c.args.index c.requires.leaf c.boxes_split.ensures c.flows_lie_in_root.ensures c.in_ok-ranges.ranges is c.chord_in-split.result c.chord_in-split.ensures.genuine c.in_ok-low.low c.in_ok-high.high c.in_ok-part.part c.in_ok-part-2.part c.in_ok-part.ensures c.in_ok-part-2.ensures first second c.split.new.self c.in_ok-split.ensures.ok c.split-2.new.self (c.in_ok-split.ensures.chords g (c.chord_in-split.ensures.chord g told)) (c.in_ok-split.ensures.needs g)))

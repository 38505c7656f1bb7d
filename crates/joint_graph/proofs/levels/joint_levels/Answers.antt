use Rattle.std.proofs.Common.{◌≡◌, ◌^◌, ◌<◌, ℕ, List, length, sym, ap, subst, rules, arith}
use Rattle.label_graph.specs.declared.parts.Piece.{Piece}
use Rattle.label_graph.proofs.MergedArcs.{sorted-arcs}
use Rattle.joint_graph.specs.declared.states.State.{State}
use Rattle.joint_graph.specs.Joints.{IsJoint}
use Rattle.joint_graph.specs.inner.Pushes.{AreStates, AreArcsBefore}
use Rattle.joint_graph.proofs.LevelArcs.{arcs-all}
use Rattle.joint_graph.proofs.LevelPaths.{levels-are-joint}
use Rattle.joint_graph.proofs.levels.joint_levels.Goals as goal

pub arcs_of-requires : goal.arcs_of-requires
arcs_of-requires g c =
    let states = subst (λ (ss : List (State g.row.N)). AreStates c.args.pieces.now c.args.caps.now ss) (sym c.as_slice.ensures.value) c.in_ok-states.ensures in
    (search rules, (search rules, (search rules, (c.requires.small, (c.requires.pieces.few, (c.known_weights.ensures.ranged, (c.requires.types, states)))))))

pub new-requires : goal.new-requires
new-requires g c =
    let pieces = c.args.pieces.now in
    let caps = c.args.caps.now in
    let states = c.in_ok-states.states.items in
    let sorted = c.sort_distinct.new.all.items in
    let before = subst (λ (ss : List (State g.row.N)). AreArcsBefore pieces caps ss (length ss) c.in_ok-arcs.arcs.items) c.as_slice.ensures.value c.in_ok-arcs.ensures in
    let arcs = arcs-all pieces caps states c.in_ok-arcs.arcs.items sorted before c.sort_distinct.ensures.same in
    let few : length states < 2 ^ 63 = omega (arith, c.in_ok-states.states.small, c.in_ok-states.states.ok) in
    let joint = levels-are-joint pieces caps states c.in_ok-states.ensures.ordered c.in_ok-states.ensures.reached sorted arcs c.requires.small c.known_pieces.ensures.sized c.known_weights.ensures.ranged c.requires.pieces c.requires.some c.requires.types few (sorted-arcs _ c.arcs_are_in_order.ensures sorted c.sort_distinct.ensures.sorted) in
    let count : length c.as_slice-2.result.now ≡ length states = ap length c.as_slice-2.ensures.value in
    let one = subst (λ (ps : List (Piece g.row.N)). IsJoint g.row.N (record { pieces = ps; caps = caps; inner = length states; arcs = sorted })) (sym c.in_ok-pieces.ensures.items) joint in
    let two = subst (λ (cs : List (List ℕ)). IsJoint g.row.N (record { pieces = c.in_ok-pieces.pieces.items; caps = cs; inner = length states; arcs = sorted })) (sym c.in_ok-caps.ensures.items) one in
    (search rules, (search rules, (search rules, subst (λ (n : ℕ). IsJoint g.row.N (record { pieces = c.in_ok-pieces.pieces.items; caps = c.in_ok-caps.caps.items; inner = n; arcs = sorted })) (sym count) two)))

pub returns : goal.returns
returns g c =
    let pieces = c.args.pieces.now in
    let caps = c.args.caps.now in
    let states = c.in_ok-states.states.items in
    let sorted = c.sort_distinct.new.all.items in
    let before = subst (λ (ss : List (State g.row.N)). AreArcsBefore pieces caps ss (length ss) c.in_ok-arcs.arcs.items) c.as_slice.ensures.value c.in_ok-arcs.ensures in
    let arcs = arcs-all pieces caps states c.in_ok-arcs.arcs.items sorted before c.sort_distinct.ensures.same in
    let count : length c.as_slice-2.result.now ≡ length states = ap length c.as_slice-2.ensures.value in
    rw c.new.ensures (record {
      states = states;
      states_ordered = c.in_ok-states.ensures.ordered;
      states_reached = c.in_ok-states.ensures.reached;
      pieces_are = c.in_ok-pieces.ensures.items;
      caps_are = c.in_ok-caps.ensures.items;
      inner_is = count;
      arcs_ordered = sorted-arcs _ c.arcs_are_in_order.ensures sorted c.sort_distinct.ensures.sorted;
      arcs_are = arcs;
    })

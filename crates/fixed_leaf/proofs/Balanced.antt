-- Settled values are balanced, and a flow in a box whose chords are fixed has no other values.
use Rattle.std.proofs.Common.{◌≡◌, ℕ, suc, ◌-◌, ◌≤◌, true, false, List, length, map, get_or, refl, sym, ap, ◌∙◌, subst, ⊎_elim, arith, ℤ, pos}
use Rattle.std.proofs.lemmas.Int.{ints}
use Rattle.std.proofs.lemmas.Bool.{cases_eq, eqb-true}
use Rattle.std.proofs.lemmas.List.{get_or-map, length-map}
use Rattle.packing_laws.specs.Instances.{InstanceValue, IsAmong}
use Rattle.flow_graph.specs.declared.parts.ArcKind.{ArcKind}
use Rattle.flow_graph.specs.declared.parts.ArcKind.TheVariants.{Bin, Loss, Piece}
use Rattle.flow_graph.specs.Arcs.{TypeValue, IsFlowGraph, arc_at, flow_type, numbered}
use Rattle.flow_graph.specs.Balance.{AgreeOnChords, AreBalanced, IsBalanced, value_of}
use Rattle.flow_graph.specs.Chords.{ends_in, is_chord, is_tree, range_at}
use Rattle.flow_graph.specs.Ends.{comes_in}
use Rattle.flow_graph.proofs.ArcKinds.{arc_within, kind_at, place_of, type_is}
use Rattle.flow_graph.proofs.Chords.{chord_arc, no_tree}
use Rattle.flow_graph.proofs.Extensions.{chords_extend}
use Rattle.flow_graph.proofs.Potentials.{source_balanced}
use Rattle.flow_graph.proofs.Trees.{one_tree_arc, some_and}
use Rattle.flow_model.specs.Boxes.{InBox}
use Rattle.flow_model.specs.Flows.{IsFlow}
use Rattle.flow_model.specs.Models.{node_place}
use Rattle.flow_model.proofs.SignedFlows.{conserved_is_balanced}
use Rattle.fixed_leaf.specs.declared.joints.Joint.{Joint}
use Rattle.fixed_leaf.specs.Leaves.{ChordsAreFixed}
use Rattle.fixed_leaf.specs.inner.Nets.{AreJoints, AreSettled, head_place, joint_at}
use Rattle.fixed_leaf.proofs.Forests.{excess_is, head_test}

ends_comes : (t v : ℕ) (kind : ArcKind) → ends_in t v kind ≡ true → comes_in t v kind ≡ true
ends_comes t v (Bin s) ends = cc
ends_comes t v (Loss s tail head) ends = ends
ends_comes t v (Piece s tail head item form) ends = ends

module _ (g : List TypeValue) (is : IsFlowGraph g) (joints : List Joint) (are : AreJoints g joints) (box : List (ℕ × ℕ)) (values : List ℤ) (settled : AreSettled joints box values) where
  pub long : length values ≡ length (numbered g)
  long = settled.size ∙ are.size

  -- as much comes into a node by its tree arc as goes away
  node_balanced : (t v : ℕ) → IsAmong t (length g) → 2 ≤ v → v ≤ (flow_type g t).nodes → IsBalanced g values t v
  node_balanced t v among low high =
      let found = one_tree_arc g is t among v low high in
      let there = some_and (arc_at g found.arc) (λ (e : ArcKind). ends_in t v e ≡ true) found.tree.1 in
      let kind : ArcKind = there.0 in
      let within = arc_within g found.arc kind there.1 in
      let k : ℕ = found.arc - 1 in
      let number : suc k ≡ found.arc = omega (arith, within.0) in
      let own = are.each k kind (place_of g found.arc kind there.1) in
      let node : IsAmong v (flow_type g t).nodes = (omega (arith, low), high) in
      let comes = head_test g is t v among node found.arc kind (kind_at g found.arc kind there.1) in
      let place : head_place g kind ≡ node_place g t v = eqb-true (head_place g kind) (node_place g t v) (comes ∙ ends_comes t v kind there.2) in
      let size = are.size in
      let tree : (joint_at joints k).tree ≡ true = own.tree ∙ ap (is_tree g) number ∙ found.tree.0 in
      let none = settled.trees k (omega (arith, within.0, within.1, size)) tree in
      let left = excess_is g is joints are (joint_at joints k).head t v among node (own.head ∙ place) values in
      omega (arith, ints, none, left)

  pub balanced : AreBalanced g values
  balanced t v among node = ⊎_elim
      (λ (first : v ≡ 1). subst (IsBalanced g values t) (sym first) (source_balanced g is values t among (type_is g is t among).source (λ w low high. node_balanced t w among low high)))
      (λ later. node_balanced t v among (omega (arith, node.0, later)) node.1)
      (cases_eq v 1)

  module _ (fixed : ChordsAreFixed g box) (I : InstanceValue) (other : List ℕ) (flow : IsFlow I g other) (inside : InBox other box) where
    chord_value : (a : ℕ) → is_chord g a ≡ true → value_of values a ≡ pos (range_at box a).0
    chord_value a chord =
        let there = chord_arc g a chord in
        let within = arc_within g a there.0 there.1 in
        let size = are.size in
        let number : suc (a - 1) ≡ a = omega (arith, within.0) in
        let own = are.each (a - 1) there.0 (place_of g a there.0 there.1) in
        let tree : (joint_at joints (a - 1)).tree ≡ false = own.tree ∙ ap (is_tree g) number ∙ no_tree g a chord in
        settled.chords (a - 1) (omega (arith, within.0, within.1, size)) tree ∙ ap (λ (b : ℕ). pos (range_at box b).0) number

    other_value : (a : ℕ) → IsAmong a (length (numbered g)) → value_of (map pos other) a ≡ pos (get_or other (a - 1) 0)
    other_value a among = let size = flow.size in get_or-map (λ (n : ℕ). pos n) other (a - 1) 0 (pos 0) (omega (arith, among.0, among.1, size))

    agree : AgreeOnChords g (map pos other) values
    agree a chord =
        let there = chord_arc g a chord in
        let within = arc_within g a there.0 there.1 in
        let size = flow.size in
        let count = inside.size in
        let range = inside.each a (within.0, omega (arith, within.1, size, count)) in
        let one = range.0 in
        let two = range.1 in
        let same = fixed a chord in
        let value : get_or other (a - 1) 0 ≡ (range_at box a).0 = omega (arith, one, two, same) in
        other_value a within ∙ ap pos value ∙ sym (chord_value a chord)

    -- a flow in the box has the settled values
    pub same_values : map pos other ≡ values
    same_values =
        let one = chords_extend g is values long in
        let size : length (map pos other) ≡ length (numbered g) = length-map other (λ (n : ℕ). pos n) ∙ flow.size in
        let here = one.only (map pos other) size agree (conserved_is_balanced.signed g other flow.nodes) in
        let there = one.only values long (λ a chord. refl) balanced in
        here ∙ sym there

    pub value_in : (a : ℕ) → IsAmong a (length (numbered g)) → (x : ℕ) × (value_of values a ≡ pos x) × ((range_at box a).0 ≤ x) × (x ≤ (range_at box a).1)
    value_in a among =
        let size = flow.size in
        let count = inside.size in
        let range = inside.each a (among.0, omega (arith, among.1, size, count)) in
        (get_or other (a - 1) 0, ap (λ (xs : List ℤ). value_of xs a) (sym same_values) ∙ other_value a among, range.0, range.1)

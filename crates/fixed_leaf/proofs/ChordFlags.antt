-- Which arcs are chords.
use Rattle.std.proofs.Common.{◌≡◌, ℕ, suc, ◌+◌, ◌-◌, ◌≤◌, ◌<◌, Bool, true, false, not, ◌&&◌, List, map, length, get_or, Option, None, Some, ◌==◌, is_some, ap, sym, subst, ◌∙◌, refl, arith}
use Rattle.std.specs.Prelude.{slice_get}
use Rattle.std.proofs.lemmas.Bool.{cond-false, ne_eqb}
use Rattle.std.proofs.lemmas.List.{get_or-map, length-map}
use Rattle.std.proofs.lemmas.Option.{slice_get-get_or}
use Rattle.packing_laws.specs.Instances.{IsAmong}
use Rattle.flow_graph.specs.declared.parts.ArcKind.{ArcKind}
use Rattle.flow_graph.specs.declared.parts.ArcKind.TheVariants.{Bin}
use Rattle.flow_graph.specs.Arcs.{TypeValue, arc_at, numbered}
use Rattle.flow_graph.specs.Chords.{is_chord, is_tree}
use Rattle.fixed_leaf.specs.declared.joints.Joint.{Joint}
use Rattle.fixed_leaf.specs.inner.Nets.{AreJoints, no_joint}
use Rattle.fixed_leaf.specs.Leaves.{TellsChords}

pub told : (g : List TypeValue) (joints : List Joint) (flags : List Bool) → AreJoints g joints → flags ≡ map (λ (j : Joint). not j.tree) joints → TellsChords g flags
told g joints flags are is = record {
  size = ap (λ (fs : List Bool). length fs) is ∙ length-map joints (λ (j : Joint). not j.tree) ∙ are.size;
  each = λ a among.
      let k : ℕ = a - 1 in
      let size = are.size in
      let within : k < length (numbered g) = omega (arith, among.0, among.1) in
      let kind : ArcKind = get_or (numbered g) k (Bin 0) in
      let read : slice_get (numbered g) k ≡ Some kind = slice_get-get_or (numbered g) k (Bin 0) within in
      let joint = are.each k kind read in
      let number : suc k ≡ a = omega (arith, among.0) in
      let tree : (get_or joints k no_joint).tree ≡ is_tree g a = joint.tree ∙ ap (λ (n : ℕ). is_tree g n) number in
      let flag : get_or flags k false ≡ not (get_or joints k no_joint).tree = ap (λ (fs : List Bool). get_or fs k false) is ∙ get_or-map (λ (j : Joint). not j.tree) joints k no_joint false (omega (arith, within, size)) in
      let real : (a == 0) ≡ false = ne_eqb a 0 (λ none. omega (arith, none, among.0)) in
      let there : arc_at g a ≡ Some kind = cond-false (a == 0) None (slice_get (numbered g) (a - 1)) real ∙ read in
      let some : is_chord g a ≡ not (is_tree g a) = ap (λ (o : Option ArcKind). is_some o && not (is_tree g a)) there in
      flag ∙ ap not tree ∙ sym some;
}

-- The joint graph of an instance from the pieces and the capacities of all types.
use Rattle.std.proofs.Common.{◌≡◌, ℕ, ◌<◌, ◌≤◌, List, length, sym, ap, ◌∙◌, subst, subst₂, arith}
use Rattle.arc_num.specs.declared.TheConstants.{MAX_ARCS, MAX_TYPES}
use Rattle.packing_laws.specs.Instances.{InstanceValue, IsInstance}
use Rattle.label_graph.specs.declared.parts.Piece.{Piece}
use Rattle.arc_compile.specs.Compiled.{AreNamed}
use Rattle.arc_compile.specs.Extended.{places_of}
use Rattle.joint_graph.specs.declared.joints.JointSize.{JointSize}
use Rattle.joint_graph.specs.Joints.{JointValue as LabelledValue}
use Rattle.joint_graph.specs.JointLaws.{HasJointMain, IsJointOf}
use Rattle.joint_graph.specs.JointLevels.{ArePieces}
use Rattle.joint_graph.proofs.Renumbered.{arcs-no-more}
use Rattle.joint_arcs.specs.Joined.{JointValue}
use Rattle.joint_compile.specs.JointCompiled.{IsJointGraph, IsJointIn, IsJointLarge, IsJointSmall, HasJointArcs, IsNumberedJoint}
use Rattle.joint_compile.specs.JointPieces.{AreJointPieces, joint_caps, width_of}
use Rattle.joint_compile.proofs.TypeCaps.{caps_count}
use Rattle.joint_compile.proofs.UnionPieces.{joint_list, joint_named}
use Rattle.joint_compile.proofs.Widths.{width_fits}

-- weights stand in enough places
pub wide_enough : (N : ℕ) (I : InstanceValue) → IsInstance I → width_of I ≡ N → places_of I ≤ N
wide_enough N I known width = omega (arith, (width_fits (places_of I) (omega (arith, known.caps.room))).0, width)

-- what is asked of the capacities
pub types_few : (N : ℕ) (I : InstanceValue) → IsInstance I → (caps : List (List ℕ)) → caps ≡ joint_caps N I → (1 ≤ length caps) × (length caps ≤ MAX_TYPES)
types_few N I known caps same =
    let count : length caps ≡ length I.types = ap (λ (xs : List (List ℕ)). length xs) same ∙ caps_count N I in
    (omega (arith, known.type_count.0, count), omega (arith, known.type_count.1, count))

module _ {N : ℕ} (I : InstanceValue) (pieces given : List (Piece N)) (caps : List (List ℕ)) (are : AreJointPieces I pieces) (same : given ≡ pieces) (caps_are : caps ≡ joint_caps N I) where
  pub given_list : IsInstance I → ArePieces given
  given_list known = subst (λ (ps : List (Piece N)). ArePieces ps) (sym same) (joint_list I pieces are known)

  module _ (final : LabelledValue N) (size : JointSize) (joint : IsJointOf given caps final size) where
    own : IsJointOf pieces (joint_caps N I) final size
    own = subst₂ (λ (ps : List (Piece N)) (ws : List (List ℕ)). IsJointOf ps ws final size) same caps_are joint

    pub final_named : AreNamed final.pieces
    final_named =
        let graphs = own.graphs in
        let from : final.pieces ≡ pieces = graphs.final_is.image.pieces ∙ (graphs.main_is.image.pieces ∙ graphs.levels_are.pieces_are) in
        subst (λ (ps : List (Piece N)). AreNamed ps) (sym from) (joint_named I pieces are)

    pub final_few : size.main_arcs ≤ MAX_ARCS → length final.arcs ≤ MAX_ARCS
    final_few roomy =
        let image = own.graphs.final_is in
        omega (arith, arcs-no-more own.main final image.into image.image, own.main_arcs, roomy)

    pub graph_of : width_of I ≡ N → (g : JointValue) → IsNumberedJoint final g → IsJointGraph I g
    graph_of width g numbered =
        let here : IsJointIn N I g size = record { pieces = pieces; are_pieces = are; final = final; joint = own; numbered = numbered } in
        subst (λ (n : ℕ). (s : JointSize) × IsJointIn n I g s) (sym width) (size, here)

    pub small_of : width_of I ≡ N → size.main_arcs ≤ MAX_ARCS → IsJointSmall I
    small_of width roomy =
        let main : HasJointMain pieces (joint_caps N I) size.main_arcs = record { levels = own.levels; main = own.main; levels_are = own.graphs.levels_are; main_is = own.graphs.main_is; arcs_are = own.main_arcs } in
        let here : HasJointArcs N I size.main_arcs = record { pieces = pieces; are_pieces = are; main = main } in
        (size.main_arcs, subst (λ (n : ℕ). HasJointArcs n I size.main_arcs) (sym width) here, roomy)

  pub large_of : width_of I ≡ N → ((arcs : ℕ) × HasJointMain given caps arcs × (MAX_ARCS < arcs)) → IsJointLarge I
  large_of width h =
      let main : HasJointMain pieces (joint_caps N I) h.0 = subst₂ (λ (ps : List (Piece N)) (ws : List (List ℕ)). HasJointMain ps ws h.0) same caps_are h.1 in
      let here : HasJointArcs N I h.0 = record { pieces = pieces; are_pieces = are; main = main } in
      (h.0, subst (λ (n : ℕ). HasJointArcs n I h.0) (sym width) here, h.2)

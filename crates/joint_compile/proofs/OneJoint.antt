-- There is but one joint graph of an instance, and it is not both small and too large.
use Rattle.std.proofs.Common.{◌≡◌, ℕ, List, sym, ◌∙◌, subst, arith}
use Rattle.packing_laws.specs.Instances.{InstanceValue}
use Rattle.label_graph.specs.declared.parts.Piece.{Piece}
use Rattle.arc_compile.proofs.OneCompiled.{one_row}
use Rattle.joint_graph.specs.declared.joints.JointSize.{JointSize}
use Rattle.joint_graph.specs.Joints.{JointValue as LabelledValue}
use Rattle.joint_graph.specs.JointLaws.{HasJointMain, IsJointOf, JointFinalsAreOne, JointMainsAreOne}
use Rattle.joint_arcs.specs.Joined.{JointValue}
use Rattle.joint_compile.specs.JointCompiled.{HasJointArcs, IsJointIn, IsNumberedJoint}
use Rattle.joint_compile.specs.JointLaws.{JointGraphIsOne, JointSizesAreOne}
use Rattle.joint_compile.specs.JointPieces.{joint_caps, width_of}
use Rattle.joint_compile.proofs.UnionPieces.{one_joint_pieces}

one_numbered : {N : ℕ} (final : LabelledValue N) (g h : JointValue) → IsNumberedJoint final g → IsNumberedJoint final h → g ≡ h
one_numbered final g h first second =
    let inner : g.inner ≡ h.inner = first.inner ∙ sym second.inner in
    let types : g.types ≡ h.types = first.types ∙ sym second.types in
    let arcs : g.arcs ≡ h.arcs = one_row final.pieces final.arcs g.arcs h.arcs first.arcs second.arcs in
    λ i. record { inner = inner i; types = types i; arcs = arcs i }

one_joint : JointFinalsAreOne → (N : ℕ) (I : InstanceValue) (g h : JointValue) (size other : JointSize) → IsJointIn N I g size → IsJointIn N I h other → g ≡ h
one_joint finals N I g h size other first second =
    let pieces : second.pieces ≡ first.pieces = one_joint_pieces I second.pieces first.pieces second.are_pieces first.are_pieces in
    let joint : IsJointOf first.pieces (joint_caps N I) second.final other = subst (λ (ps : List (Piece N)). IsJointOf ps (joint_caps N I) second.final other) pieces second.joint in
    let final : second.final ≡ first.final = (finals N first.pieces (joint_caps N I) second.final first.final other size joint first.joint).0 in
    one_numbered first.final g h first.numbered (subst (λ (f : LabelledValue N). IsNumberedJoint f h) final second.numbered)

pub joint_graph_is_one : JointFinalsAreOne → JointGraphIsOne
joint_graph_is_one finals I g h known first second = one_joint finals (width_of I) I g h first.0 second.0 first.1 second.1

one_main : JointMainsAreOne → (N : ℕ) (I : InstanceValue) (arcs more : ℕ) → HasJointArcs N I arcs → HasJointArcs N I more → arcs ≡ more
one_main mains N I arcs more first second =
    let pieces : second.pieces ≡ first.pieces = one_joint_pieces I second.pieces first.pieces second.are_pieces first.are_pieces in
    mains N first.pieces (joint_caps N I) arcs more first.main (subst (λ (ps : List (Piece N)). HasJointMain ps (joint_caps N I) more) pieces second.main)

pub joint_sizes_are_one : JointMainsAreOne → JointSizesAreOne
joint_sizes_are_one mains I known small large =
    let same : small.0 ≡ large.0 = one_main mains (width_of I) I small.0 large.0 small.1 large.1 in
    omega (arith, small.2, large.2, same)

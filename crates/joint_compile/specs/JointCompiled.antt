-- The joint graph of an instance, by the numbers of its arcs.
use Rattle.std.specs.Prelude.{◌≡◌, ℕ, ◌≤◌, ◌<◌, List, length}
use Rattle.arc_num.specs.declared.TheConstants.{MAX_ARCS}
use Rattle.packing_laws.specs.Instances.{InstanceValue}
use Rattle.label_graph.specs.declared.parts.Piece.{Piece}
use Rattle.arc_compile.specs.Compiled.{AreNumbered}
use Rattle.joint_graph.specs.declared.joints.JointSize.{JointSize}
use Rattle.joint_graph.specs.Joints.{JointValue as LabelledValue}
use Rattle.joint_graph.specs.JointLaws.{HasJointMain, IsJointOf}
use Rattle.joint_arcs.specs.Joined.{JointValue}
use Rattle.joint_compile.specs.JointPieces.{AreJointPieces, joint_caps, width_of}

-- the nodes of a joint graph, and its arcs by tail, head, item and form, which stand in place of their pieces
pub record IsNumberedJoint {N : ℕ} (final : LabelledValue N) (g : JointValue) : Type 0 where
  pub inner : g.inner ≡ final.inner
  pub types : g.types ≡ length final.caps
  pub arcs : AreNumbered final.pieces final.arcs g.arcs

-- the joint final graph of an instance in N places, numbered, and the sizes of the main and the final graph
pub record IsJointIn (N : ℕ) (I : InstanceValue) (g : JointValue) (size : JointSize) : Type 0 where
  pub pieces : List (Piece N)
  pub are_pieces : AreJointPieces I pieces
  pub final : LabelledValue N
  pub joint : IsJointOf pieces (joint_caps N I) final size
  pub numbered : IsNumberedJoint final g

-- the joint graph of an instance
abbrev pub IsJointGraph : InstanceValue → JointValue → Type 0
IsJointGraph I g = (size : JointSize) × IsJointIn (width_of I) I g size

-- in N places the joint main graph of an instance has so many arcs
pub record HasJointArcs (N : ℕ) (I : InstanceValue) (arcs : ℕ) : Type 0 where
  pub pieces : List (Piece N)
  pub are_pieces : AreJointPieces I pieces
  pub main : HasJointMain pieces (joint_caps N I) arcs

-- the joint main graph has not too many arcs
abbrev pub IsJointSmall : InstanceValue → Type 0
IsJointSmall I = (arcs : ℕ) × HasJointArcs (width_of I) I arcs × (arcs ≤ MAX_ARCS)

-- the joint main graph has too many arcs
abbrev pub IsJointLarge : InstanceValue → Type 0
IsJointLarge I = (arcs : ℕ) × HasJointArcs (width_of I) I arcs × (MAX_ARCS < arcs)

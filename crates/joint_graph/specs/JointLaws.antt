-- Laws of joint graphs: their paths to the target of a type are the contents that fit the type, and there is one and but
-- one.
use Rattle.std.specs.Prelude.{◌≡◌, ℕ, ◌≤◌, List, All, length, slice_index}
use Rattle.label_graph.specs.declared.parts.GraphArc.{GraphArc}
use Rattle.label_graph.specs.declared.parts.Piece.{Piece}
use Rattle.label_graph.specs.Graph.{IsPath, IsContent, weight_in}
use Rattle.level_graph.specs.LevelLaws.{IsChoice}
use Rattle.joint_graph.specs.declared.joints.JointSize.{JointSize}
use Rattle.joint_graph.specs.Joints.{JointValue, IsJoint, IsType, cap_at, target_at, node_count}
use Rattle.joint_graph.specs.Merged.{Merges, IsImage, IsJointMain, IsJointFinal}
use Rattle.joint_graph.specs.JointLevels.{AreJointLevels}

-- the levels, the main and the final graph of pieces and capacities
pub record AreJointGraphs {N : ℕ} (pieces : List (Piece N)) (caps : List (List ℕ)) (levels main final : JointValue N) : Type 0 where
  pub levels_are : AreJointLevels pieces caps levels
  pub main_is : IsJointMain levels main
  pub final_is : IsJointFinal main final
  pub levels_keep : IsJoint N levels
  pub main_keep : IsJoint N main
  pub final_keep : IsJoint N final

-- the final graph of pieces and capacities, and its size and that of its main graph
pub record IsJointOf {N : ℕ} (pieces : List (Piece N)) (caps : List (List ℕ)) (final : JointValue N) (size : JointSize) : Type 0 where
  pub levels : JointValue N
  pub main : JointValue N
  pub graphs : AreJointGraphs pieces caps levels main final
  pub main_nodes : size.main_nodes ≡ node_count main
  pub main_arcs : size.main_arcs ≡ length main.arcs
  pub final_nodes : size.final_nodes ≡ node_count final
  pub final_arcs : size.final_arcs ≡ length final.arcs

-- the joint main graph of pieces and capacities has so many arcs
pub record HasJointMain {N : ℕ} (pieces : List (Piece N)) (caps : List (List ℕ)) (arcs : ℕ) : Type 0 where
  pub levels : JointValue N
  pub main : JointValue N
  pub levels_are : AreJointLevels pieces caps levels
  pub main_is : IsJointMain levels main
  pub arcs_are : arcs ≡ length main.arcs

-- each path of the final graph from the source to the target of a type fits the type
abbrev pub JointPathsFit : Type 0
JointPathsFit = (N : ℕ) (pieces : List (Piece N)) (caps : List (List ℕ)) (levels main final : JointValue N) → AreJointGraphs pieces caps levels main final → (t : ℕ) → IsType caps t → (path : List GraphArc) → IsPath final.arcs 1 (target_at final t) path → (d : ℕ) → weight_in final.pieces d path ≤ slice_index (cap_at caps t) d

-- a path from the source to the target of a type has this content
pub record HasPathOf {N : ℕ} (g : JointValue N) (t count : ℕ) (content : List ℕ) : Type 0 where
  pub path : List GraphArc
  pub leads : IsPath g.arcs 1 (target_at g t) path
  pub along : IsContent count content path

-- each content that is there and fits a type is that of a path of the final graph to its target
abbrev pub JointPathsCover : Type 0
JointPathsCover = (N : ℕ) (pieces : List (Piece N)) (caps : List (List ℕ)) (levels main final : JointValue N) → AreJointGraphs pieces caps levels main final → (t : ℕ) → IsType caps t → (content : List ℕ) → IsChoice pieces (cap_at caps t) content → HasPathOf final t (length pieces) content

-- the second graph is the first with other numbers of nodes: its image in which no two nodes become one
pub record IsRenumbered {N : ℕ} (g other : JointValue N) : Type 0 where
  pub into : List ℕ
  pub apart : Merges g into (λ v w. v ≡ w)
  pub image : IsImage g into other

-- there is but one joint main graph of pieces and capacities, up to the numbers of its nodes, which nothing says
abbrev pub JointMainsAreAlike : Type 0
JointMainsAreAlike = (N : ℕ) (pieces : List (Piece N)) (caps : List (List ℕ)) (levels others main other : JointValue N) → AreJointLevels pieces caps levels → AreJointLevels pieces caps others → IsJointMain levels main → IsJointMain others other → IsRenumbered main other

-- so all of them have as many arcs
abbrev pub JointMainsAreOne : Type 0
JointMainsAreOne = (N : ℕ) (pieces : List (Piece N)) (caps : List (List ℕ)) (arcs others : ℕ) → HasJointMain pieces caps arcs → HasJointMain pieces caps others → arcs ≡ others

-- there is but one joint final graph of pieces and capacities, and one size
abbrev pub JointFinalsAreOne : Type 0
JointFinalsAreOne = (N : ℕ) (pieces : List (Piece N)) (caps : List (List ℕ)) (final other : JointValue N) (size more : JointSize) → IsJointOf pieces caps final size → IsJointOf pieces caps other more → (final ≡ other) × (size ≡ more)

-- there is a joint main graph of all pieces and capacities
abbrev pub JointMainsExist : Type 0
JointMainsExist = (N : ℕ) (pieces : List (Piece N)) (caps : List (List ℕ)) → All (λ q. length q.weight ≡ N) pieces → (arcs : ℕ) × HasJointMain pieces caps arcs

-- A joint graph as it is kept.
use Rattle.std.specs.Prelude.{◌≡◌, List}
use Rattle.flow_graph.specs.declared.parts.ArcKind.{ArcKind}
use Rattle.joint_arcs.specs.Joined.{JointValue, IsJoint, numbered}

-- the graph keeps what joint graphs keep, and its row is that of its arcs
pub record IsStored (g : JointValue) (row : List ArcKind) : Type 0 where
  pub joint : IsJoint g
  pub row_is : row ≡ numbered g

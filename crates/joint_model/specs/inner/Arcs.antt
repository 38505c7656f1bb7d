-- What each arc of a joint graph of an instance keeps.
use Rattle.std.specs.Prelude.{ℕ, ◌<◌, ◌≤◌, All, length}
use Rattle.arc_num.specs.declared.TheConstants.{MAX_ITEMS, MAX_NUMBERED}
use Rattle.packing_laws.specs.Instances.{InstanceValue, IsAmong}
use Rattle.flow_graph.specs.declared.parts.ArcKind.{ArcKind}
use Rattle.flow_graph.specs.declared.parts.ArcKind.TheVariants.{Bin, Loss, Piece}
use Rattle.flow_model.specs.inner.Known.{NamesType}
use Rattle.joint_arcs.specs.Joined.{JointValue, node_count, numbered}

-- the two nodes are nodes of the graph, and the second comes after the first
pub record IsBetween (g : JointValue) (tail head : ℕ) : Type 0 where
  pub low : 1 ≤ tail
  pub rises : tail < head
  pub high : head ≤ node_count g

-- the arc is between nodes of the graph, or of a type of it, and carries one of n items or nothing
abbrev pub IsArcOf : ℕ → JointValue → ArcKind → Type 0
IsArcOf n g (Bin t) = IsAmong t g.types
IsArcOf n g (Loss t tail head) = IsBetween g tail head
IsArcOf n g (Piece t tail head item form) = IsBetween g tail head × IsAmong item n

-- what a joint graph of an instance keeps: its arcs, and how many there are
pub record IsKnownGraph (I : InstanceValue) (g : JointValue) : Type 0 where
  pub arcs : All (IsArcOf MAX_ITEMS g) (numbered g)
  pub types : All (NamesType (length I.types)) (numbered g)
  pub row : length (numbered g) ≤ MAX_NUMBERED

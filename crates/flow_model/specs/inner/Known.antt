-- What each arc of a graph of an instance keeps.
use Rattle.std.specs.Prelude.{ℕ, ◌<◌, ◌≤◌, List, All, length, sum_by}
use Rattle.arc_num.specs.declared.TheConstants.{MAX_ITEMS, MAX_NUMBERED}
use Rattle.packing_laws.specs.Instances.{InstanceValue, IsAmong}
use Rattle.flow_graph.specs.declared.parts.ArcKind.{ArcKind}
use Rattle.flow_graph.specs.declared.parts.ArcKind.TheVariants.{Bin, Loss, Piece}
use Rattle.flow_graph.specs.Arcs.{TypeValue, flow_type, numbered}

-- the type exists, the two nodes are nodes of it, and the second comes after the first
pub record IsBetween (g : List TypeValue) (t tail head : ℕ) : Type 0 where
  pub of_type : IsAmong t (length g)
  pub low : 1 ≤ tail
  pub rises : tail < head
  pub high : head ≤ (flow_type g t).nodes

-- the arc is of a type of the graph, between nodes of it, and carries one of n items or nothing
abbrev pub IsArcOf : ℕ → List TypeValue → ArcKind → Type 0
IsArcOf n g (Bin t) = IsAmong t (length g)
IsArcOf n g (Loss t tail head) = IsBetween g t tail head
IsArcOf n g (Piece t tail head item form) = IsBetween g t tail head × IsAmong item n

-- where the arc is a bin arc, its type is one of n
abbrev pub NamesType : ℕ → ArcKind → Type 0
NamesType n (Bin t) = IsAmong t n
NamesType n (Loss t tail head) = Unit {0}
NamesType n (Piece t tail head item form) = Unit {0}

-- what a graph of an instance keeps: its arcs, and how many nodes there are
pub record IsKnownGraph (I : InstanceValue) (g : List TypeValue) : Type 0 where
  pub arcs : All (IsArcOf MAX_ITEMS g) (numbered g)
  pub types : All (NamesType (length I.types)) (numbered g)
  pub sources : All (λ x. 1 ≤ x.nodes) g
  pub nodes : sum_by (λ x. x.nodes) g ≤ MAX_NUMBERED
  pub row : length (numbered g) ≤ MAX_NUMBERED

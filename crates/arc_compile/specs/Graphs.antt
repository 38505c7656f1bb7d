-- The level, the main and the final graph of a type of bins.
use Rattle.std.specs.Prelude.{◌≡◌, ℕ, zero, suc, ◌+◌, ◌-◌, ◌≤◌, ◌<◌, List, length}
use Rattle.arc_num.specs.declared.TheConstants.{MAX_ARCS}
use Rattle.packing_laws.specs.Instances.{InstanceValue, IsAmong}
use Rattle.label_graph.specs.declared.parts.Piece.{Piece}
use Rattle.label_graph.specs.Graph.{GraphValue}
use Rattle.level_graph.specs.Levels.{IsLevelGraph}
use Rattle.main_compress.specs.MainGraphs.{IsMainGraph}
use Rattle.final_compress.specs.FinalGraphs.{IsFinalGraph}
use Rattle.arc_compile.specs.Extended.{places_of, extended_capacity}
use Rattle.arc_compile.specs.Pieces.{ArePieces, padded}

-- in N places, the level graph of the pieces of type t, and its main graph
pub record AreMainGraphs {N : ℕ} (I : InstanceValue) (t : ℕ) (level main : GraphValue N) : Type 0 where
  pub pieces : List (Piece N)
  pub are_pieces : ArePieces I t pieces
  pub level_is : IsLevelGraph pieces (padded N (extended_capacity I t)) level
  pub main_is : IsMainGraph (padded N (extended_capacity I t)) level main

-- and the final graph of the main graph
pub record AreTypeGraphs {N : ℕ} (I : InstanceValue) (t : ℕ) (level main final : GraphValue N) : Type 0 where
  pub mains : AreMainGraphs I t level main
  pub final_is : IsFinalGraph main final

-- in N places the main graph of type t has so many arcs
pub record HasMainArcs (N : ℕ) (I : InstanceValue) (t arcs : ℕ) : Type 0 where
  pub level : GraphValue N
  pub main : GraphValue N
  pub mains : AreMainGraphs I t level main
  pub arcs_are : arcs ≡ length main.arcs

-- the main graphs of types 1 to t, in as many places as extended weights have, have so many arcs together
abbrev pub HaveMainArcs : InstanceValue → ℕ → ℕ → Type 0
HaveMainArcs I zero arcs = arcs ≡ 0
HaveMainArcs I (suc t) arcs = (before : ℕ) × (more : ℕ) × HaveMainArcs I t before × HasMainArcs (places_of I) I (suc t) more × (arcs ≡ before + more)

-- the main graphs of all types together have not too many arcs
abbrev pub IsSmall : InstanceValue → Type 0
IsSmall I = (arcs : ℕ) × HaveMainArcs I (length I.types) arcs × (arcs ≤ MAX_ARCS)

-- the main graphs of types 1 to t together have too many arcs, and those before type t have not
pub record IsTooLarge (I : InstanceValue) (t : ℕ) : Type 0 where
  pub bin_type : IsAmong t (length I.types)
  pub before : ℕ
  pub have_before : HaveMainArcs I (t - 1) before
  pub within : before ≤ MAX_ARCS
  pub arcs : ℕ
  pub have : HaveMainArcs I t arcs
  pub past : MAX_ARCS < arcs

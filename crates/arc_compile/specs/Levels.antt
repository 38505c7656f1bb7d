-- The level graph of a type of bins.
use Rattle.std.specs.Prelude.{◌≡◌, ℕ, ◌+◌, List, length, Some, slice_get}
use Rattle.packing_laws.specs.Instances.{InstanceValue}
use Rattle.label_graph.specs.declared.parts.Piece.{Piece}
use Rattle.level_graph.specs.Levels.{IsLevelCount}
use Rattle.arc_compile.specs.Extended.{places_of, extended_capacity}
use Rattle.arc_compile.specs.Pieces.{ArePieces, padded}

-- in N places the level graph of type t has so many nodes and arcs
pub record HasLevelSize (N : ℕ) (I : InstanceValue) (t nodes arcs : ℕ) : Type 0 where
  pub pieces : List (Piece N)
  pub are_pieces : ArePieces I t pieces
  pub counted : IsLevelCount pieces (padded N (extended_capacity I t)) nodes arcs

-- in as many places as extended weights have, the level graph of type t has so many nodes and arcs
abbrev pub IsLevelSize : InstanceValue → ℕ → ℕ → ℕ → Type 0
IsLevelSize I t nodes arcs = HasLevelSize (places_of I) I t nodes arcs

-- the nodes and arcs of the level graph of each type
pub record AreLevelSizes (I : InstanceValue) (levels : List (ℕ × ℕ)) : Type 0 where
  pub count : length levels ≡ length I.types
  pub each : (t : ℕ) (level : ℕ × ℕ) → slice_get levels t ≡ Some level → IsLevelSize I (t + 1) level.0 level.1

-- Laws of compiled instances: extended weights tell what fits, final graphs are exact, compiled graphs are faithful, there
-- is but one, padding changes nothing, and an instance is either small or too large from one type on.
use Rattle.std.specs.Prelude.{◌≡◌, ◌⊎◌, ◌↔◌, ℕ, ◌≤◌, List, All, length, slice_index}
use Rattle.packing_laws.specs.Instances.{InstanceValue, IsInstance, IsAmong}
use Rattle.packing_laws.specs.Packings.{Content, Exists, Fits}
use Rattle.label_graph.specs.Graph.{GraphValue}
use Rattle.flow_graph.specs.Arcs.{TypeValue}
use Rattle.flow_graph.specs.Faithful.{IsFaithful}
use Rattle.arc_compile.specs.declared.results.TypeSize.{TypeSize}
use Rattle.arc_compile.specs.Compiled.{IsCompiledType, AreCompiled}
use Rattle.arc_compile.specs.Extended.{places_of, extended_capacity, extended_in}
use Rattle.arc_compile.specs.Exact.{IsExact}
use Rattle.arc_compile.specs.Graphs.{AreTypeGraphs, HasMainArcs, IsSmall, IsTooLarge}
use Rattle.arc_compile.specs.Levels.{HasLevelSize}

-- what exists fits a type exactly where its extended weight is within the extended capacity, caps included
abbrev pub ExtendedWeightsTellFits : Type 0
ExtendedWeightsTellFits = (I : InstanceValue) (t : ℕ) (c : Content) → IsInstance I → IsAmong t (length I.types) → All (Exists I) c → Fits I t c ↔ ((d : ℕ) → extended_in I d c ≤ slice_index (extended_capacity I t) d)

-- the final graph of a type is exact, in as many places as extended weights have, or more
abbrev pub FinalGraphsAreExact : Type 0
FinalGraphsAreExact = (N : ℕ) (I : InstanceValue) (t : ℕ) (level main final : GraphValue N) → IsInstance I → IsAmong t (length I.types) → places_of I ≤ N → N ≤ 32 → AreTypeGraphs I t level main final → IsExact I t final

-- the numbered arcs of a compiled instance are faithful to it
abbrev pub CompiledGraphsAreFaithful : Type 0
CompiledGraphsAreFaithful = (I : InstanceValue) (g : List TypeValue) (sizes : List TypeSize) → IsInstance I → AreCompiled I g sizes → IsFaithful I g

-- there is but one graph, and one list of sizes, to which an instance is compiled
abbrev pub CompiledGraphsAreOne : Type 0
CompiledGraphsAreOne = (I : InstanceValue) (g other : List TypeValue) (sizes others : List TypeSize) → AreCompiled I g sizes → AreCompiled I other others → (g ≡ other) × (sizes ≡ others)

-- what holds in more places than extended weights have holds in as many
pub record PaddingKeepsGraphs : Type 0 where
  pub types : (N : ℕ) (I : InstanceValue) (t : ℕ) (x : TypeValue) (size : TypeSize) → IsInstance I → IsAmong t (length I.types) → places_of I ≤ N → N ≤ 32 → IsCompiledType N I t x size → IsCompiledType (places_of I) I t x size
  pub mains : (N : ℕ) (I : InstanceValue) (t arcs : ℕ) → IsInstance I → IsAmong t (length I.types) → places_of I ≤ N → N ≤ 32 → HasMainArcs N I t arcs → HasMainArcs (places_of I) I t arcs
  pub levels : (N : ℕ) (I : InstanceValue) (t nodes arcs : ℕ) → IsInstance I → IsAmong t (length I.types) → places_of I ≤ N → N ≤ 32 → HasLevelSize N I t nodes arcs → HasLevelSize (places_of I) I t nodes arcs

-- each instance is small, or too large from one first type on
abbrev pub SizesExist : Type 0
SizesExist = (I : InstanceValue) → IsInstance I → IsSmall I ⊎ ((t : ℕ) × IsTooLarge I t)

-- no instance is both small and too large, and but one type is the first with which it is
pub record SizesAreOne : Type 0 where
  pub small : (I : InstanceValue) (t : ℕ) → IsInstance I → IsSmall I → IsTooLarge I t → ⊥
  pub first : (I : InstanceValue) (t s : ℕ) → IsInstance I → IsTooLarge I t → IsTooLarge I s → t ≡ s

-- Types in a row, compiled each by itself, up to the first that could not be.
use Rattle.std.specs.Prelude.{◌≡◌, ℕ, ◌+◌, ◌≤◌, ◌<◌, List, length, Option, Some, None, slice_get, sum_by}
use Rattle.arc_num.specs.declared.TheConstants.{MAX_ARCS}
use Rattle.packing_laws.specs.Instances.{InstanceValue}
use Rattle.flow_graph.specs.Arcs.{TypeValue, IsFlowType}
use Rattle.arc_compile.specs.declared.results.CompileFault.{CompileFault}
use Rattle.arc_compile.specs.declared.results.CompileFault.TheVariants.{TooManyArcs, Memory}
use Rattle.arc_compile.specs.declared.type_graphs.CompiledType.{CompiledType}
use Rattle.arc_compile.specs.declared.rows.TypeRow.{TypeRow}
use Rattle.arc_compile.specs.Extended.{places_of}
use Rattle.arc_compile.specs.Graphs.{HasMainArcs}
use Rattle.arc_compile.specs.Compiled.{IsCompiledType}

-- the numbered arcs of a type that is compiled
abbrev pub type_value : CompiledType → TypeValue
type_value x = record { nodes = x.nodes; arcs = x.arcs.items }

-- type t compiled, with not too many arcs
pub record IsDone (I : InstanceValue) (t : ℕ) (x : CompiledType) : Type 0 where
  pub compiled : IsCompiledType (places_of I) I t (type_value x) x.size
  pub flow : IsFlowType (type_value x)
  pub roomy : x.size.main_arcs ≤ MAX_ARCS
  pub fewer : length x.arcs.items ≤ x.size.main_arcs

-- how many arcs the main graphs of these types have together
abbrev pub main_arcs_of : List CompiledType → ℕ
main_arcs_of types = sum_by (λ x. x.size.main_arcs) types

-- the main graph of type t has too many arcs beside so many of other types
pub record IsTooMuch (I : InstanceValue) (t others : ℕ) : Type 0 where
  pub arcs : ℕ
  pub has : HasMainArcs (places_of I) I t arcs
  pub past : MAX_ARCS < others + arcs

-- the fault of type t: its main graph has too many arcs beside so many others, or memory was wanting
abbrev pub IsFaultAt : InstanceValue → ℕ → ℕ → CompileFault → Type 0
IsFaultAt I t others (TooManyArcs s) = (s ≡ t) × IsTooMuch I t others
IsFaultAt I t others Memory = Unit {0}

-- why no more types of a row are done: these are all, or the next has a fault, or memory was wanting
abbrev pub EndsAt : InstanceValue → ℕ → ℕ → List CompiledType → Option CompileFault → Type 0
EndsAt I first count types None = length types ≡ count
EndsAt I first count types (Some (TooManyArcs s)) = (s ≡ first + length types) × (length types < count) × IsTooMuch I (first + length types) (main_arcs_of types)
EndsAt I first count types (Some Memory) = Unit {0}

-- the first of so many types, from this one on, compiled
pub record IsRow (I : InstanceValue) (first count : ℕ) (row : TypeRow) : Type 0 where
  pub each : (k : ℕ) (x : CompiledType) → slice_get row.types.items k ≡ Some x → IsDone I (first + k) x
  pub within : length row.types.items ≤ count
  pub end : EndsAt I first count row.types.items row.fault

-- An instance compiled: the numbered arcs of the final graphs of its types, and the sizes of its graphs.
use Rattle.std.specs.Prelude.{◌≡◌, ◌↔◌, ℕ, ◌-◌, ◌≤◌, List, All, AllPairs, Contains, length, slice_index_or}
use Rattle.packing_laws.specs.Instances.{InstanceValue, IsAmong}
use Rattle.label_graph.specs.declared.parts.GraphArc.{GraphArc}
use Rattle.label_graph.specs.declared.parts.Piece.{Piece}
use Rattle.label_graph.specs.Graph.{GraphValue}
use Rattle.flow_graph.specs.declared.parts.TypeArc.{TypeArc}
use Rattle.flow_graph.specs.Arcs.{TypeValue, ArcBefore, flow_type}
use Rattle.arc_compile.specs.declared.results.TypeSize.{TypeSize}
use Rattle.arc_compile.specs.Extended.{places_of}
use Rattle.arc_compile.specs.Exact.{marked_item, marked_form}
use Rattle.arc_compile.specs.Graphs.{AreTypeGraphs}

-- an arc with the item and the form that it carries in place of its mark
abbrev pub type_arc : {N : ℕ} → List (Piece N) → GraphArc → TypeArc
type_arc pieces e = record { tail = e.tail; head = e.head; item = marked_item pieces e.mark; form = marked_form pieces e.mark }

-- pieces have items, and no two are of one form
pub record AreNamed {N : ℕ} (pieces : List (Piece N)) : Type 0 where
  pub items : All (λ q. (1 ≤ q.item) × (1 ≤ q.form)) pieces
  pub apart : AllPairs (λ p q. ((p.item ≡ q.item) × (p.form ≡ q.form)) → ⊥) pieces

-- these are the arcs by tail, head, item and form
pub record AreNumbered {N : ℕ} (pieces : List (Piece N)) (arcs : List GraphArc) (numbered : List TypeArc) : Type 0 where
  pub ordered : AllPairs ArcBefore numbered
  pub count : length numbered ≡ length arcs
  pub same : (a : TypeArc) → Contains numbered a ↔ ((e : GraphArc) × Contains arcs e × (type_arc pieces e ≡ a))

-- the type has the nodes of the graph, and its arcs by tail, head, item and form
pub record IsNumberedType {N : ℕ} (g : GraphValue N) (x : TypeValue) : Type 0 where
  pub nodes : x.nodes ≡ length g.labels
  pub arcs : AreNumbered g.pieces g.arcs x.arcs

-- the numbers of nodes and arcs of a main and a final graph
pub record AreSizes {N : ℕ} (main final : GraphValue N) (size : TypeSize) : Type 0 where
  pub main_nodes : size.main_nodes ≡ length main.labels
  pub main_arcs : size.main_arcs ≡ length main.arcs
  pub final_nodes : size.final_nodes ≡ length final.labels
  pub final_arcs : size.final_arcs ≡ length final.arcs

-- type t compiled in N places: the numbered final graph, and the sizes
pub record IsCompiledType (N : ℕ) (I : InstanceValue) (t : ℕ) (x : TypeValue) (size : TypeSize) : Type 0 where
  pub level : GraphValue N
  pub main : GraphValue N
  pub final : GraphValue N
  pub graphs : AreTypeGraphs I t level main final
  pub numbered : IsNumberedType final x
  pub sizes : AreSizes main final size

-- the sizes of the graphs of type t; zeros where there is no such type
abbrev pub size_at : List TypeSize → ℕ → TypeSize
size_at sizes t = slice_index_or sizes (t - 1) (record { main_nodes = 0; main_arcs = 0; final_nodes = 0; final_arcs = 0 })

-- all types compiled in as many places as extended weights have
pub record AreCompiled (I : InstanceValue) (g : List TypeValue) (sizes : List TypeSize) : Type 0 where
  pub types : length g ≡ length I.types
  pub count : length sizes ≡ length I.types
  pub each : (t : ℕ) → IsAmong t (length I.types) → IsCompiledType (places_of I) I t (flow_type g t) (size_at sizes t)

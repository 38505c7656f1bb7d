-- Flows on the arcs of all types, and the rows that they meet.
use Rattle.std.specs.Prelude.{◌≡◌, ℕ, zero, suc, ◌+◌, ◌*◌, ◌≤◌, Bool, false, ◌==◌, if◌then◌else◌, List, [], ◌∷◌, ◌++◌, length, map, Option, None, Some, All}
use Rattle.packing_laws.specs.Instances.{InstanceValue, IsAmong, item_at}
use Rattle.packing_laws.specs.Packings.{cost_at}
use Rattle.flow_graph.specs.declared.parts.ArcKind.{ArcKind}
use Rattle.flow_graph.specs.declared.parts.ArcKind.TheVariants.{Bin, Loss, Piece}
use Rattle.flow_graph.specs.Arcs.{TypeValue, flow_type, numbered}
use Rattle.flow_graph.specs.Ends.{comes_in, goes_out}
use Rattle.flow_model.specs.declared.flows.FlowRow.{FlowRow}
use Rattle.flow_model.specs.declared.flows.FlowRow.TheVariants.{Node, Demand, Bound}
use Rattle.flow_model.specs.Boxes.{InBox, IsInRangeOf, root_ranges}

-- the arc carries item i
abbrev pub carries : ℕ → ArcKind → Bool
carries i (Bin t) = false
carries i (Loss t tail head) = false
carries i (Piece t tail head item form) = item == i

-- a number of each arc, times the value of the arc, added up
abbrev pub weigh_arcs : (ArcKind → ℕ) → List ArcKind → List ℕ → ℕ
weigh_arcs f [] values = 0
weigh_arcs f (kind ∷ kinds) [] = 0
weigh_arcs f (kind ∷ kinds) (x ∷ values) = f kind * x + weigh_arcs f kinds values

-- the values of the arcs that pass a test, added up
abbrev pub total_of : (ArcKind → Bool) → List TypeValue → List ℕ → ℕ
total_of test g values = weigh_arcs (λ kind. if test kind then 1 else 0) (numbered g) values

-- what a unit on an arc costs: a bin arc costs what a bin of its type costs
abbrev pub arc_cost : InstanceValue → ArcKind → ℕ
arc_cost I (Bin t) = cost_at I t
arc_cost I (Loss t tail head) = 0
arc_cost I (Piece t tail head item form) = 0

-- what the bins of a flow cost
abbrev pub flow_cost : InstanceValue → List TypeValue → List ℕ → ℕ
flow_cost I g values = weigh_arcs (arc_cost I) (numbered g) values

-- what comes into node v of type t goes out of it
abbrev pub IsConserved : List TypeValue → List ℕ → ℕ → ℕ → Type 0
IsConserved g values t v = total_of (comes_in t v) g values ≡ total_of (goes_out g t v) g values

-- what comes into each node goes out of it
abbrev pub AreConserved : List TypeValue → List ℕ → Type 0
AreConserved g values = (t v : ℕ) → IsAmong t (length g) → IsAmong v (flow_type g t).nodes → IsConserved g values t v

-- the arcs of item i carry at least its demand
abbrev pub IsServed : InstanceValue → List TypeValue → List ℕ → ℕ → Type 0
IsServed I g values i = (item_at I i).demand ≤ total_of (carries i) g values

-- the value of arc a is in its range of the root box
abbrev pub IsBounded : InstanceValue → List TypeValue → List ℕ → ℕ → Type 0
IsBounded I g values a = IsInRangeOf values (root_ranges I g) a

-- a flow: a whole number for each arc, within the root box, conserved at each node, that serves each item
pub record IsFlow (I : InstanceValue) (g : List TypeValue) (values : List ℕ) : Type 0 where
  pub size : length values ≡ length (numbered g)
  pub nodes : AreConserved g values
  pub demands : (i : ℕ) → IsAmong i (length I.items) → IsServed I g values i
  pub bounds : (a : ℕ) → IsAmong a (length (numbered g)) → IsBounded I g values a

-- the root box: a range for each arc, none of them empty, and each flow lies in it
pub record FlowsLieInRoot : Type 0 where
  pub size : (I : InstanceValue) (g : List TypeValue) → length (root_ranges I g) ≡ length (numbered g)
  pub order : (I : InstanceValue) (g : List TypeValue) → All (λ r. r.0 ≤ r.1) (root_ranges I g)
  pub flows : (I : InstanceValue) (g : List TypeValue) (values : List ℕ) → IsFlow I g values → InBox values (root_ranges I g)

-- the numbers from 1 to n
abbrev pub up_to : ℕ → List ℕ
up_to zero = []
up_to (suc n) = up_to n ++ suc n ∷ []

-- the nodes of these types, each as its type and its number, where the first of the types has number t
abbrev pub nodes_from : ℕ → List TypeValue → List (ℕ × ℕ)
nodes_from t [] = []
nodes_from t (x ∷ types) = map (λ v. (t, v)) (up_to x.nodes) ++ nodes_from (t + 1) types

-- the nodes of all types, by type and number
abbrev pub all_nodes : List TypeValue → List (ℕ × ℕ)
all_nodes g = nodes_from 1 g

-- the rows of the model in order: nodes, demands, bounds
abbrev pub flow_rows : InstanceValue → List TypeValue → List FlowRow
flow_rows I g = map (λ node. Node node.0 node.1) (all_nodes g) ++ (map (λ i. Demand i) (up_to (length I.items)) ++ map (λ a. Bound a) (up_to (length (numbered g))))

-- the values meet the row
abbrev pub Keeps : InstanceValue → List TypeValue → List ℕ → FlowRow → Type 0
Keeps I g values (Node t v) = IsConserved g values t v
Keeps I g values (Demand i) = IsServed I g values i
Keeps I g values (Bound a) = IsBounded I g values a

-- the first of these rows, if there is one, that does not hold
abbrev pub FirstBroken : (FlowRow → Type 0) → List FlowRow → Option FlowRow → Type 0
FirstBroken Holds rows None = All Holds rows
FirstBroken Holds rows (Some row) = (before after : List FlowRow) × (rows ≡ before ++ row ∷ after) × All Holds before × (Holds row → ⊥)

-- the first violated row of the model, if there is one
abbrev pub FirstBadRow : InstanceValue → List TypeValue → List ℕ → Option FlowRow → Type 0
FirstBadRow I g values bad = FirstBroken (Keeps I g values) (flow_rows I g) bad

-- The arcs of all types in one row. Types, nodes and arcs are numbered from 1.
use Rattle.std.specs.Prelude.{◌≡◌, ◌⊎◌, ◌↔◌, ℕ, ◌+◌, ◌-◌, ◌≤◌, ◌<◌, ◌==◌, if◌then◌else◌, List, [], ◌∷◌, ◌++◌, Option, None, Contains, All, AllPairs, length, map, take, sum_by, slice_get, slice_index_or}
use Rattle.arc_num.specs.declared.TheConstants.{MAX_TYPES, MAX_ARCS}
use Rattle.flow_graph.specs.declared.parts.TypeArc.{TypeArc}
use Rattle.flow_graph.specs.declared.parts.ArcKind.{ArcKind}
use Rattle.flow_graph.specs.declared.parts.ArcKind.TheVariants.{Bin, Loss, Piece}

-- how many nodes a type has, of which the first is the source and the last the target, and its arcs but for the bin arc
pub record TypeValue : Type 0 where
  pub nodes : ℕ
  pub arcs : List TypeArc

-- arcs stand by tail, then by head, then by item, so that those that carry nothing come first, and then by form
abbrev pub ArcBefore : TypeArc → TypeArc → Type 0
ArcBefore e f = (e.tail < f.tail) ⊎ ((e.tail ≡ f.tail) × ((e.head < f.head) ⊎ ((e.head ≡ f.head) × ((e.item < f.item) ⊎ ((e.item ≡ f.item) × (e.form < f.form))))))

-- what a type keeps: arcs in order that go up, and from each node a way on to the target and back to the source
pub record IsFlowType (x : TypeValue) : Type 0 where
  pub source : 1 ≤ x.nodes
  pub ordered : AllPairs ArcBefore x.arcs
  pub climbs : All (λ e. (1 ≤ e.tail) × (e.tail < e.head) × (e.head ≤ x.nodes)) x.arcs
  pub marks : All (λ e. (e.item ≡ 0) ↔ (e.form ≡ 0)) x.arcs
  pub leaves : (v : ℕ) → 1 ≤ v → v < x.nodes → (e : TypeArc) × Contains x.arcs e × (e.tail ≡ v)
  pub enters : (v : ℕ) → 1 < v → v ≤ x.nodes → (e : TypeArc) × Contains x.arcs e × (e.head ≡ v)

-- what a graph keeps: not too many types, and not too many arcs of them all
pub record IsFlowGraph (g : List TypeValue) : Type 0 where
  pub few : length g ≤ MAX_TYPES
  pub room : sum_by (λ x. length x.arcs) g ≤ MAX_ARCS
  pub each : All IsFlowType g

-- type t; one with nothing in it where there is no such type
abbrev pub flow_type : List TypeValue → ℕ → TypeValue
flow_type g t = slice_index_or g (t - 1) (record { nodes = 1; arcs = [] })

-- what an arc of type t is in the row
abbrev pub kind_of : ℕ → TypeArc → ArcKind
kind_of t e = if e.item == 0 then Loss t e.tail e.head else Piece t e.tail e.head e.item e.form

-- the arcs of type t in the row: the bin arc comes first
abbrev pub row_of : ℕ → List TypeArc → List ArcKind
row_of t arcs = Bin t ∷ map (kind_of t) arcs

-- the arcs of these types in one row, the first of them with number t
abbrev pub numbered_from : ℕ → List TypeValue → List ArcKind
numbered_from t [] = []
numbered_from t (x ∷ types) = row_of t x.arcs ++ numbered_from (t + 1) types

-- the arcs of all types in one row
abbrev pub numbered : List TypeValue → List ArcKind
numbered g = numbered_from 1 g

-- the arc with number a, if there is one
abbrev pub arc_at : List TypeValue → ℕ → Option ArcKind
arc_at g a = if a == 0 then None else slice_get (numbered g) (a - 1)

-- the number of the bin arc of type t, which is its first
abbrev pub first_arc : List TypeValue → ℕ → ℕ
first_arc g t = sum_by (λ x. length x.arcs + 1) (take (t - 1) g) + 1

-- the number of the last arc of type t
abbrev pub last_arc : List TypeValue → ℕ → ℕ
last_arc g t = first_arc g t + length (flow_type g t).arcs

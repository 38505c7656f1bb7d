-- Graphs whose paths are the contents that fit.
use Rattle.std.specs.Prelude.{◌≡◌, ℕ, ◌≤◌, ◌==◌, if◌then◌else◌, List, [], ◌∷◌, Some, All, Contains, length}
use Rattle.packing_laws.specs.declared.packings.Count.{Count}
use Rattle.packing_laws.specs.Instances.{InstanceValue, IsAmong}
use Rattle.packing_laws.specs.Packings.{Content, Exists, Fits, IsWithin}
use Rattle.packing_laws.specs.Printed.{SameContent}
use Rattle.flow_graph.specs.declared.parts.TypeArc.{TypeArc}
use Rattle.flow_graph.specs.Arcs.{TypeValue, flow_type, arc_at, kind_of}

-- the arcs are among these, and lead from a to b one after the other
abbrev pub IsPath : List TypeArc → ℕ → ℕ → List TypeArc → Type 0
IsPath arcs a b [] = a ≡ b
IsPath arcs a b (e ∷ path) = Contains arcs e × (e.tail ≡ a) × IsPath arcs e.head b path

-- a path of type t from its source to its target, the bin arc aside
abbrev pub IsTypePath : List TypeValue → ℕ → List TypeArc → Type 0
IsTypePath g t path = IsPath (flow_type g t).arcs 1 (flow_type g t).nodes path

-- the numbers are those of the arcs of a list, each an arc of type t
abbrev pub AreNumbersOf : List TypeValue → ℕ → List ℕ → List TypeArc → Type 0
AreNumbersOf g t [] [] = Unit {0}
AreNumbersOf g t [] (e ∷ path) = ⊥
AreNumbersOf g t (a ∷ numbers) [] = ⊥
AreNumbersOf g t (a ∷ numbers) (e ∷ path) = (arc_at g a ≡ Some (kind_of t e)) × AreNumbersOf g t numbers path

-- the numbers are those of the arcs of a path of type t from its source to its target
abbrev pub IsNumberedPath : List TypeValue → ℕ → List ℕ → Type 0
IsNumberedPath g t numbers = (path : List TypeArc) × IsTypePath g t path × AreNumbersOf g t numbers path

-- the unit that an arc with an item carries
abbrev pub unit_of : TypeArc → Count
unit_of e = record { item = e.item; form = e.form; count = 1 }

-- what the arcs of a path carry, one unit after the other
abbrev pub content_of : List TypeArc → Content
content_of [] = []
content_of (e ∷ path) = if e.item == 0 then content_of path else unit_of e ∷ content_of path

-- the graph has the types of the instance, and each arc that carries something names a form that exists
pub record GraphOf (I : InstanceValue) (g : List TypeValue) : Type 0 where
  pub types : length g ≡ length I.types
  pub exists : All (λ x. All (λ e. 1 ≤ e.item → Exists I (unit_of e)) x.arcs) g

-- for each type the contents of its paths fit, and each content that fits and is within the demands is that of a path
pub record IsFaithful (I : InstanceValue) (g : List TypeValue) : Type 0 where
  pub graph : GraphOf I g
  pub fits : (t : ℕ) → IsAmong t (length g) → (path : List TypeArc) → IsTypePath g t path → Fits I t (content_of path)
  pub covers : (t : ℕ) → IsAmong t (length g) → (c : Content) → Fits I t c → IsWithin I c → (path : List TypeArc) × IsTypePath g t path × SameContent (content_of path) c

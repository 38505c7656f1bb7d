-- Joint graphs whose paths to the target of a type are the contents that fit the type.
use Rattle.std.specs.Prelude.{◌≡◌, ℕ, ◌≤◌, List, All, length}
use Rattle.packing_laws.specs.Instances.{InstanceValue, IsAmong}
use Rattle.packing_laws.specs.Packings.{Content, Exists, Fits, IsWithin}
use Rattle.packing_laws.specs.Printed.{SameContent}
use Rattle.flow_graph.specs.declared.parts.TypeArc.{TypeArc}
use Rattle.flow_graph.specs.Faithful.{IsPath, content_of, unit_of}
use Rattle.joint_arcs.specs.Joined.{JointValue, target_at}

-- a path from the source to the target of type t
abbrev pub IsTypePath : JointValue → ℕ → List TypeArc → Type 0
IsTypePath g t path = IsPath g.arcs 1 (target_at g t) path

-- the graph has the types of the instance, and each arc that carries something names a form that exists
pub record GraphOf (I : InstanceValue) (g : JointValue) : Type 0 where
  pub types : g.types ≡ length I.types
  pub exists : All (λ e. 1 ≤ e.item → Exists I (unit_of e)) g.arcs

-- for each type the contents of the paths to its target fit, and each content that fits and is within the demands is that
-- of such a path
pub record IsFaithful (I : InstanceValue) (g : JointValue) : Type 0 where
  pub graph : GraphOf I g
  pub fits : (t : ℕ) → IsAmong t g.types → (path : List TypeArc) → IsTypePath g t path → Fits I t (content_of path)
  pub covers : (t : ℕ) → IsAmong t g.types → (c : Content) → Fits I t c → IsWithin I c → (path : List TypeArc) × IsTypePath g t path × SameContent (content_of path) c

-- An instance of two types with its joint graph, worked by hand.
use Rattle.std.specs.Prelude.{ℕ, [], ◌∷◌, Some, None}
use Rattle.packing_laws.specs.Instances.{InstanceValue}
use Rattle.flow_graph.specs.declared.parts.TypeArc.{TypeArc}
use Rattle.joint_arcs.specs.Joined.{JointValue}

-- in one dimension: one bin of 10 for 1, bins of 10 for 5, and 2 units of an item that weighs 6
abbrev pub two_types : InstanceValue
two_types = record {
  dims = 1;
  types = record { cap = 10 ∷ []; cost = 1; limit = Some 1 } ∷ record { cap = 10 ∷ []; cost = 5; limit = None } ∷ [];
  items = record { demand = 2; forms = (6 ∷ []) ∷ [] } ∷ [];
  caps = [];
}

-- from one node to another: with a unit of the item, or nothing
abbrev pub with_unit : ℕ → ℕ → TypeArc
with_unit tail head = record { tail = tail; head = head; item = 1; form = 1 }

abbrev pub with_none : ℕ → ℕ → TypeArc
with_none tail head = record { tail = tail; head = head; item = 0; form = 0 }

-- no bin holds two units
abbrev pub two_targets : JointValue
two_targets = record { inner = 2; types = 2; arcs = with_unit 1 2 ∷ with_none 1 3 ∷ with_none 1 4 ∷ with_none 2 3 ∷ with_none 2 4 ∷ [] }

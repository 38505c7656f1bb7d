-- Flows on the arcs of a joint graph.
use Rattle.std.specs.Prelude.{◌≡◌, ℕ, ◌≤◌, Bool, ◌==◌, if◌then◌else◌, List, length, map}
use Rattle.packing_laws.specs.Instances.{InstanceValue, IsAmong, item_at}
use Rattle.flow_graph.specs.declared.parts.ArcKind.{ArcKind}
use Rattle.flow_model.specs.Boxes.{IsInRangeOf, root_range}
use Rattle.flow_model.specs.Flows.{arc_cost, carries, weigh_arcs}
use Rattle.joint_arcs.specs.Joined.{JointValue, head_of, node_count, numbered, tail_of}

-- the arc goes out of node v
abbrev pub goes_out : JointValue → ℕ → ArcKind → Bool
goes_out g v kind = tail_of g kind == v

-- the arc comes into node v
abbrev pub comes_in : ℕ → ArcKind → Bool
comes_in v kind = head_of kind == v

-- the values of the arcs that pass a test, added up
abbrev pub total_of : (ArcKind → Bool) → JointValue → List ℕ → ℕ
total_of test g values = weigh_arcs (λ kind. if test kind then 1 else 0) (numbered g) values

-- what the bins of a flow cost
abbrev pub flow_cost : InstanceValue → JointValue → List ℕ → ℕ
flow_cost I g values = weigh_arcs (arc_cost I) (numbered g) values

-- what comes into node v goes out of it
abbrev pub IsConserved : JointValue → List ℕ → ℕ → Type 0
IsConserved g values v = total_of (comes_in v) g values ≡ total_of (goes_out g v) g values

-- the arcs of item i carry at least its demand
abbrev pub IsServed : InstanceValue → JointValue → List ℕ → ℕ → Type 0
IsServed I g values i = (item_at I i).demand ≤ total_of (carries i) g values

-- the widest range of each arc: all units, and for a bin arc no more than there are bins of its type
abbrev pub root_ranges : InstanceValue → JointValue → List (ℕ × ℕ)
root_ranges I g = map (root_range I) (numbered g)

-- the value of arc a is in its range
abbrev pub IsBounded : InstanceValue → JointValue → List ℕ → ℕ → Type 0
IsBounded I g values a = IsInRangeOf values (root_ranges I g) a

-- a flow: a whole number for each arc, within its range, conserved at each node, that serves each item
pub record IsFlow (I : InstanceValue) (g : JointValue) (values : List ℕ) : Type 0 where
  pub size : length values ≡ length (numbered g)
  pub nodes : (v : ℕ) → IsAmong v (node_count g) → IsConserved g values v
  pub demands : (i : ℕ) → IsAmong i (length I.items) → IsServed I g values i
  pub bounds : (a : ℕ) → IsAmong a (length (numbered g)) → IsBounded I g values a

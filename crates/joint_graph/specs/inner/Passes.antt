-- Passes over the arcs of a joint graph.
use Rattle.std.specs.Prelude.{◌≡◌, ℕ, ◌-◌, List, [], length, slice_index_or}
use Rattle.std.specs.declared.option.Option.{Option}
use Rattle.std.specs.declared.option.Option.TheVariants.{Some, None}
use Rattle.weight_vec.specs.Weight.{plus, higher}
use Rattle.label_graph.specs.declared.parts.GraphArc.{GraphArc}
use Rattle.joint_graph.specs.Joints.{JointValue, IsNode, node_count, target_at}
use Rattle.joint_graph.specs.Ways.{IsWay, IsWayTo}

-- the heavier of the way from here and the way over an arc of this weight, if there are any
abbrev pub relax : List ℕ → Option (List ℕ) → Option (List ℕ) → Option (List ℕ)
relax weight here None = here
relax weight None (Some behind) = Some (plus behind weight)
relax weight (Some here) (Some behind) = Some (higher here (plus behind weight))

-- the way from a node
abbrev pub way_at : List (Option (List ℕ)) → ℕ → Option (List ℕ)
way_at ways v = slice_index_or ways (v - 1) None

-- the heaviest ways along these arcs from each node on to the target of a type
pub record AreWaysAlong {N : ℕ} (g : JointValue N) (t : ℕ) (arcs : List GraphArc) (ways : List (Option (List ℕ))) : Type 0 where
  pub count : length ways ≡ node_count g
  pub each : (v : ℕ) → IsNode g v → IsWay g.pieces arcs v (target_at g t) (way_at ways v)

abbrev pub AreWaysOn : {N : ℕ} → JointValue N → ℕ → List (Option (List ℕ)) → Type 0
AreWaysOn g t ways = AreWaysAlong g t g.arcs ways

-- the weight of a node
abbrev pub weight_at : List (List ℕ) → ℕ → List ℕ
weight_at weights v = slice_index_or weights (v - 1) []

-- the heaviest ways from the source to each node
pub record AreWaysTo {N : ℕ} (g : JointValue N) (weights : List (List ℕ)) : Type 0 where
  pub count : length weights ≡ node_count g
  pub each : (v : ℕ) → IsNode g v → IsWayTo g v (weight_at weights v)

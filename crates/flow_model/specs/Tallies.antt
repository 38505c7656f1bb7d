-- Room for the sums of a flow at nodes and items, kept in tables by place.
use Rattle.std.specs.Prelude.{◌≡◌, ℕ, ◌+◌, ◌≤◌, List, length, sum_by, take, slice_index}
use Rattle.arc_num.specs.declared.TheConstants.{MAX_ITEMS}
use Rattle.flow_graph.specs.Arcs.{TypeValue}

-- where the nodes of each type start, what comes into each node and goes out of it, and what is carried of each item
pub record TallyValue : Type 0 where
  pub starts : List ℕ
  pub inflow : List ℕ
  pub outflow : List ℕ
  pub items : List ℕ

-- for each number of types from 0 on, how many nodes the first of them have
pub record AreStarts (g : List TypeValue) (starts : List ℕ) : Type 0 where
  pub size : length starts ≡ length g + 1
  pub each : (k : ℕ) → k ≤ length g → slice_index starts k ≡ sum_by (λ x. x.nodes) (take k g)

-- the tally has room for the sums of a flow on this graph
pub record IsTallyOf (g : List TypeValue) (tally : TallyValue) : Type 0 where
  pub starts : AreStarts g tally.starts
  pub inflow : length tally.inflow ≡ sum_by (λ x. x.nodes) g
  pub outflow : length tally.outflow ≡ sum_by (λ x. x.nodes) g
  pub items : length tally.items ≡ MAX_ITEMS

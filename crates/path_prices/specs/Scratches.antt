-- Room for the prices of a graph and the values of its nodes.
use Rattle.std.specs.Prelude.{◌≡◌, ℕ, ◌≤◌, ◌<◌, List, All, length}
use Rattle.cert_text.specs.declared.lines.Prices.{Prices}
use Rattle.flow_graph.specs.Arcs.{TypeValue, numbered}

-- for how many items there is room, for how many numbered arcs, and for how many nodes of a type, with one place to spare
pub record ScratchValue : Type 0 where
  pub items : ℕ
  pub arcs : ℕ
  pub nodes : ℕ

-- the room is that of a graph: for each item that an arc carries, for each arc, and for the nodes of each type
pub record IsScratchOf (g : List TypeValue) (s : ScratchValue) : Type 0 where
  pub items : All (λ x. All (λ e. e.item ≤ s.items) x.arcs) g
  pub arcs : s.arcs ≡ length (numbered g)
  pub nodes : All (λ x. x.nodes < s.nodes) g

-- the prices are those of items among the first n, and of arcs among the first m
pub record NamesAmong (n m : ℕ) (p : Prices) : Type 0 where
  pub items : All (λ x. x.item ≤ n) p.items
  pub arcs : All (λ x. x.arc ≤ m) p.arcs

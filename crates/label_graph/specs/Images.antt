-- Graphs whose nodes are merged by new labels: nodes with the same new label become one.
use Rattle.std.specs.Prelude.{◌≡◌, ◌↔◌, ℕ, ◌≤◌, List, Contains, All, AllPairs, length}
use Rattle.weight_vec.specs.Weight.{AtMost, Before, plus}
use Rattle.label_graph.specs.declared.parts.GraphArc.{GraphArc}
use Rattle.label_graph.specs.declared.parts.Mark.TheVariants.{Loss}
use Rattle.label_graph.specs.Graph.{GraphValue, ArcBefore, label_of, mark_weight}

-- new labels for the nodes of a graph: one for each, which rises along each arc by what the arc carries at least
pub record IsLabelling {N : ℕ} (g : GraphValue N) (labels : List (List ℕ)) : Type 0 where
  pub count : length labels ≡ length g.labels
  pub sized : All (λ l. length l ≡ N) labels
  pub rises : All (λ e. AtMost (plus (label_of labels e.tail) (mark_weight g.pieces e.mark)) (label_of labels e.head)) g.arcs

-- the different ones of some labels, in lexicographic order
pub record AreDistinct (labels distinct : List (List ℕ)) : Type 0 where
  pub ordered : AllPairs Before distinct
  pub exact : (l : List ℕ) → Contains distinct l ↔ Contains labels l

-- node v is merged into node w: the one with its new label
pub record IsMergedInto (labels distinct : List (List ℕ)) (v w : ℕ) : Type 0 where
  pub first : 1 ≤ w
  pub last : w ≤ length distinct
  pub label : label_of distinct w ≡ label_of labels v

-- a loss arc from a node to itself
abbrev pub IsLossLoop : GraphArc → Type 0
IsLossLoop e = (e.mark ≡ Loss) × (e.tail ≡ e.head)

-- arc e becomes arc x: it carries the same between the nodes into which its ends are merged. A loss arc from a node to
-- itself is left out
pub record BecomesArc (labels distinct : List (List ℕ)) (e x : GraphArc) : Type 0 where
  pub tail : IsMergedInto labels distinct e.tail x.tail
  pub head : IsMergedInto labels distinct e.head x.head
  pub mark : x.mark ≡ e.mark
  pub kept : IsLossLoop x → ⊥

-- the image of a graph under new labels: a node for each different label, and the distinct arcs that its arcs become
pub record IsImage {N : ℕ} (g : GraphValue N) (labels : List (List ℕ)) (image : GraphValue N) : Type 0 where
  pub pieces : image.pieces ≡ g.pieces
  pub nodes : AreDistinct labels image.labels
  pub ordered : AllPairs ArcBefore image.arcs
  pub arcs : (x : GraphArc) → Contains image.arcs x ↔ ((e : GraphArc) × Contains g.arcs e × BecomesArc labels image.labels e x)

-- Graphs whose arcs go up and carry pieces, with a label at each node. Nodes, pieces and arcs are numbered from 1.
use Rattle.std.specs.Prelude.{◌≡◌, ◌⊎◌, ℕ, ◌+◌, ◌-◌, ◌≤◌, ◌<◌, ◌==◌, if◌then◌else◌, List, [], ◌∷◌, Contains, All, AllPairs, length, slice_index_or, slice_index, map}
use Rattle.label_graph.specs.declared.parts.Piece.{Piece}
use Rattle.label_graph.specs.declared.parts.Mark.{Mark}
use Rattle.label_graph.specs.declared.parts.Mark.TheVariants.{Loss, Piece as Carries}
use Rattle.label_graph.specs.declared.parts.GraphArc.{GraphArc}
use Rattle.weight_vec.specs.Weight.{AtMost, IsInRange, IsZero, plus}

pub record GraphValue (N : ℕ) : Type 0 where
  pub pieces : List (Piece N)
  pub labels : List (List ℕ)
  pub arcs : List GraphArc

-- the weight of the piece with this number
abbrev pub piece_weight : {N : ℕ} → List (Piece N) → ℕ → List ℕ
piece_weight pieces p = slice_index_or (map (λ q. q.weight) pieces) (p - 1) []

-- the weight that a mark adds
abbrev pub mark_weight : {N : ℕ} → List (Piece N) → Mark → List ℕ
mark_weight pieces Loss = []
mark_weight pieces (Carries p) = piece_weight pieces p

-- a piece of a mark is one of the list
abbrev pub IsKnown : {N : ℕ} → List (Piece N) → Mark → Type 0
IsKnown pieces Loss = Unit {0}
IsKnown pieces (Carries p) = (1 ≤ p) × (p ≤ length pieces)

-- the label of a node
abbrev pub label_of : List (List ℕ) → ℕ → List ℕ
label_of labels v = slice_index_or labels (v - 1) []

-- loss comes before pieces, and pieces by number
abbrev pub MarkBefore : Mark → Mark → Type 0
MarkBefore Loss Loss = ⊥
MarkBefore Loss (Carries q) = Unit {0}
MarkBefore (Carries p) Loss = ⊥
MarkBefore (Carries p) (Carries q) = p < q

-- arcs stand by tail, then by head, then by mark
abbrev pub ArcBefore : GraphArc → GraphArc → Type 0
ArcBefore e f = (e.tail < f.tail) ⊎ ((e.tail ≡ f.tail) × ((e.head < f.head) ⊎ ((e.head ≡ f.head) × MarkBefore e.mark f.mark)))

-- the arcs are arcs of the graph, and lead from a to b one after the other
abbrev pub IsPath : List GraphArc → ℕ → ℕ → List GraphArc → Type 0
IsPath arcs a b [] = a ≡ b
IsPath arcs a b (e ∷ path) = Contains arcs e × (e.tail ≡ a) × IsPath arcs e.head b path

-- what the arcs of a path weigh in a dimension
abbrev pub weight_in : {N : ℕ} → List (Piece N) → ℕ → List GraphArc → ℕ
weight_in pieces d [] = 0
weight_in pieces d (e ∷ path) = slice_index (mark_weight pieces e.mark) d + weight_in pieces d path

-- how many copies of a piece a mark carries
abbrev pub mark_copies : ℕ → Mark → ℕ
mark_copies p Loss = 0
mark_copies p (Carries q) = if q == p then 1 else 0

-- how many copies of a piece the arcs of a path carry
abbrev pub copies_along : ℕ → List GraphArc → ℕ
copies_along p [] = 0
copies_along p (e ∷ path) = mark_copies p e.mark + copies_along p path

-- the list has the copies of each piece along the path, by the pieces' numbers
pub record IsContent (count : ℕ) (content : List ℕ) (path : List GraphArc) : Type 0 where
  pub whole : length content ≡ count
  pub copies : (p : ℕ) → p < count → copies_along (p + 1) path ≡ slice_index content p

-- what a graph keeps: numbers in range, arcs in order that go up and keep room for what they carry, and from each
-- node a way on to the last node and back to the first
pub record IsGraph (N : ℕ) (g : GraphValue N) : Type 0 where
  pub small : N ≤ 32
  pub source : 1 ≤ length g.labels
  pub sized : All (λ l. length l ≡ N) g.labels
  pub ranged : All (λ l. IsInRange l) g.labels
  pub pieces_sized : All (λ q. length q.weight ≡ N) g.pieces
  pub pieces_ranged : All (λ q. IsInRange q.weight) g.pieces
  pub heavy : All (λ q. IsZero q.weight → ⊥) g.pieces
  pub ordered : AllPairs ArcBefore g.arcs
  pub climbs : All (λ e. (1 ≤ e.tail) × (e.tail < e.head) × (e.head ≤ length g.labels)) g.arcs
  pub known : All (λ e. IsKnown g.pieces e.mark) g.arcs
  pub rises : All (λ e. AtMost (plus (label_of g.labels e.tail) (mark_weight g.pieces e.mark)) (label_of g.labels e.head)) g.arcs
  pub leaves : (v : ℕ) → 1 ≤ v → v < length g.labels → (e : GraphArc) × Contains g.arcs e × (e.tail ≡ v)
  pub enters : (v : ℕ) → 1 < v → v ≤ length g.labels → (e : GraphArc) × Contains g.arcs e × (e.head ≡ v)

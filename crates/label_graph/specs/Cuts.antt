-- Weights with zeros behind them, and the same without these zeros.
use Rattle.std.specs.Prelude.{◌≡◌, ℕ, ◌≤◌, List, All, map, slice_index, take}
use Rattle.label_graph.specs.declared.parts.Piece.{Piece}
use Rattle.label_graph.specs.Graph.{GraphValue}

-- nothing but zeros stands behind the first n places
abbrev pub IsPadded : ℕ → List ℕ → Type 0
IsPadded n l = (d : ℕ) → n ≤ d → slice_index l d ≡ 0

-- the piece with the first n places of its weight
abbrev pub cut_piece : {N : ℕ} → (n : ℕ) → Piece N → Piece n
cut_piece n q = record { item = q.item; form = q.form; weight = take n q.weight; copies = q.copies }

-- the labels with their first n places
abbrev pub cut_labels : ℕ → List (List ℕ) → List (List ℕ)
cut_labels n labels = map (take n) labels

-- the graph with the first n places of all its weights and labels
abbrev pub cut_graph : {N : ℕ} → (n : ℕ) → GraphValue N → GraphValue n
cut_graph n g = record { pieces = map (cut_piece n) g.pieces; labels = cut_labels n g.labels; arcs = g.arcs }

-- all weights and labels of the graph are padded
pub record IsPaddedGraph {N : ℕ} (n : ℕ) (g : GraphValue N) : Type 0 where
  pub pieces : All (λ q. IsPadded n q.weight) g.pieces
  pub labels : All (IsPadded n) g.labels

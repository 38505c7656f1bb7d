-- Laws of level graphs: the contents of their paths, and that there is one and but one.
use Rattle.std.specs.Prelude.{◌≡◌, ℕ, ◌+◌, ◌*◌, ◌≤◌, ◌<◌, List, [], ◌∷◌, All, length, map, slice_index, take}
use Rattle.label_graph.specs.declared.parts.GraphArc.{GraphArc}
use Rattle.label_graph.specs.declared.parts.Piece.{Piece}
use Rattle.weight_vec.specs.Weight.{AtMost, IsInRange}
use Rattle.label_graph.specs.Graph.{GraphValue, IsGraph, IsPath, IsContent}
use Rattle.label_graph.specs.Cuts.{IsPadded, IsPaddedGraph, cut_piece, cut_graph}
use Rattle.level_graph.specs.declared.states.State.{State}
use Rattle.level_graph.specs.Levels.{IsPieceList, IsLevelGraph, piece_copies, IsLevels}

-- what so many copies of each piece weigh in a dimension
abbrev pub content_weight : {N : ℕ} → List (Piece N) → ℕ → List ℕ → ℕ
content_weight [] d content = 0
content_weight (q ∷ pieces) d [] = 0
content_weight (q ∷ pieces) d (n ∷ content) = n * slice_index q.weight d + content_weight pieces d content

-- so many copies of each piece are there and fit
pub record IsChoice {N : ℕ} (pieces : List (Piece N)) (cap content : List ℕ) : Type 0 where
  pub whole : length content ≡ length pieces
  pub copies : (p : ℕ) → p < length pieces → slice_index content p ≤ piece_copies pieces (p + 1)
  pub fits : (d : ℕ) → content_weight pieces d content ≤ slice_index cap d

-- the path has the content of some choice
pub record HasChoice {N : ℕ} (pieces : List (Piece N)) (cap : List ℕ) (path : List GraphArc) : Type 0 where
  pub content : List ℕ
  pub choice : IsChoice pieces cap content
  pub along : IsContent (length pieces) content path

-- one path from a to b has the content, and no other
pub record HasOnePath (arcs : List GraphArc) (a b count : ℕ) (content : List ℕ) : Type 0 where
  pub path : List GraphArc
  pub leads : IsPath arcs a b path
  pub along : IsContent count content path
  pub only : (other : List GraphArc) → IsPath arcs a b other → IsContent count content other → other ≡ path

-- each path from the source to the target has a content that is there and fits
abbrev pub PathsAreChoices : Type 0
PathsAreChoices = (N : ℕ) (pieces : List (Piece N)) (cap : List ℕ) (states : List (State N)) (arcs : List GraphArc) → IsLevels pieces cap states arcs → (path : List GraphArc) → IsPath arcs 1 (length states) path → HasChoice pieces cap path

-- each content that is there and fits is that of exactly one path from the source to the target
abbrev pub ChoicesHaveOnePath : Type 0
ChoicesHaveOnePath = (N : ℕ) (pieces : List (Piece N)) (cap : List ℕ) (states : List (State N)) (arcs : List GraphArc) → IsLevels pieces cap states arcs → (content : List ℕ) → IsChoice pieces cap content → HasOnePath arcs 1 (length states) (length pieces) content

-- there is but one level graph
abbrev pub LevelsAreOne : Type 0
LevelsAreOne = (N : ℕ) (pieces : List (Piece N)) (cap : List ℕ) (states others : List (State N)) (arcs more : List GraphArc) → IsLevels pieces cap states arcs → IsLevels pieces cap others more → (states ≡ others) × (arcs ≡ more)

-- what is asked of the weights of pieces and of the capacity: as many places as the graph has, and numbers in range
pub record AreWeighed {N : ℕ} (pieces : List (Piece N)) (cap : List ℕ) : Type 0 where
  pub small : N ≤ 32
  pub sized : length cap ≡ N
  pub ranged : IsInRange cap
  pub pieces_sized : All (λ q. length q.weight ≡ N) pieces
  pub pieces_ranged : All (λ q. IsInRange q.weight) pieces

-- there is a level graph of each list of pieces
abbrev pub LevelGraphsExist : Type 0
LevelGraphsExist = (N : ℕ) (pieces : List (Piece N)) (cap : List ℕ) → IsPieceList pieces cap → AreWeighed pieces cap → (g : GraphValue N) × IsLevelGraph pieces cap g

-- the level graph is a graph, whose labels fit the capacity
pub record IsGraphWithin {N : ℕ} (cap : List ℕ) (g : GraphValue N) : Type 0 where
  pub graph : IsGraph N g
  pub fits : All (λ l. AtMost l cap) g.labels

abbrev pub LevelGraphsAreGraphs : Type 0
LevelGraphsAreGraphs = (N : ℕ) (pieces : List (Piece N)) (cap : List ℕ) (g : GraphValue N) → IsPieceList pieces cap → AreWeighed pieces cap → IsLevelGraph pieces cap g → IsGraphWithin cap g

-- zeros behind all weights and the capacity change nothing of a level graph, and stand behind its labels too
pub record CutsKeepLevel (N n : ℕ) (pieces : List (Piece N)) (cap : List ℕ) (g : GraphValue N) : Type 0 where
  pub padded : IsPaddedGraph n g
  pub cut : IsLevelGraph (map (cut_piece n) pieces) (take n cap) (cut_graph n g)

abbrev pub CutsKeepLevelGraphs : Type 0
CutsKeepLevelGraphs = (N n : ℕ) (pieces : List (Piece N)) (cap : List ℕ) (g : GraphValue N) → n ≤ N → IsPieceList pieces cap → AreWeighed pieces cap → All (λ q. IsPadded n q.weight) pieces → IsPadded n cap → IsLevelGraph pieces cap g → CutsKeepLevel N n pieces cap g

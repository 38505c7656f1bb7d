-- Laws of main graphs: their paths fit, they lose no content, there is one and but one, and padding changes nothing of them.
use Rattle.std.specs.Prelude.{◌≡◌, ℕ, ◌≤◌, List, All, length, slice_index, take}
use Rattle.weight_vec.specs.Weight.{AtMost, IsInRange}
use Rattle.label_graph.specs.declared.parts.GraphArc.{GraphArc}
use Rattle.label_graph.specs.Graph.{GraphValue, IsGraph, IsPath, weight_in}
use Rattle.label_graph.specs.ImageLaws.{HasPathLike}
use Rattle.label_graph.specs.Cuts.{IsPadded, IsPaddedGraph, cut_graph}
use Rattle.main_compress.specs.MainGraphs.{IsMainGraph}

-- each label of the graph fits a capacity in as many places, in range
pub record IsRoomFor {N : ℕ} (cap : List ℕ) (g : GraphValue N) : Type 0 where
  pub sized : length cap ≡ N
  pub ranged : IsInRange cap
  pub fits : All (λ l. AtMost l cap) g.labels

-- the main graph of a graph is a graph
abbrev pub MainGraphsAreGraphs : Type 0
MainGraphsAreGraphs = (N : ℕ) (cap : List ℕ) (g main : GraphValue N) → IsGraph N g → IsRoomFor cap g → IsMainGraph cap g main → IsGraph N main

-- each path of the main graph from the source to the target fits
abbrev pub MainPathsFit : Type 0
MainPathsFit = (N : ℕ) (cap : List ℕ) (g main : GraphValue N) → IsGraph N g → IsRoomFor cap g → IsMainGraph cap g main → (path : List GraphArc) → IsPath main.arcs 1 (length main.labels) path → (d : ℕ) → weight_in main.pieces d path ≤ slice_index cap d

-- the content of each path from the source to the target is that of such a path of the main graph
abbrev pub MainGraphsKeepContents : Type 0
MainGraphsKeepContents = (N : ℕ) (cap : List ℕ) (g main : GraphValue N) → IsGraph N g → IsRoomFor cap g → IsMainGraph cap g main → (path : List GraphArc) → IsPath g.arcs 1 (length g.labels) path → HasPathLike main path

-- a graph within a capacity has a main graph
abbrev pub MainGraphsExist : Type 0
MainGraphsExist = (N : ℕ) (cap : List ℕ) (g : GraphValue N) → IsGraph N g → IsRoomFor cap g → (main : GraphValue N) × IsMainGraph cap g main

-- there is but one main graph
abbrev pub MainGraphsAreOne : Type 0
MainGraphsAreOne = (N : ℕ) (cap : List ℕ) (g main other : GraphValue N) → IsMainGraph cap g main → IsMainGraph cap g other → main ≡ other

-- zeros behind all weights, labels and the capacity change nothing of a main graph, and stand behind its labels too
pub record CutsKeepMain (N n : ℕ) (cap : List ℕ) (g main : GraphValue N) : Type 0 where
  pub padded : IsPaddedGraph n main
  pub cut : IsMainGraph (take n cap) (cut_graph n g) (cut_graph n main)

abbrev pub CutsKeepMainGraphs : Type 0
CutsKeepMainGraphs = (N n : ℕ) (cap : List ℕ) (g main : GraphValue N) → n ≤ N → IsGraph N g → IsRoomFor cap g → IsPadded n cap → IsPaddedGraph n g → IsMainGraph cap g main → CutsKeepMain N n cap g main

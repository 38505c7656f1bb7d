-- Laws of images: they are graphs, they lose no content, there is one and but one, and padding changes nothing of them.
use Rattle.std.specs.Prelude.{◌≡◌, ℕ, ◌≤◌, List, All, length}
use Rattle.weight_vec.specs.Weight.{IsInRange}
use Rattle.label_graph.specs.declared.parts.GraphArc.{GraphArc}
use Rattle.label_graph.specs.Graph.{GraphValue, IsGraph, IsPath, copies_along}
use Rattle.label_graph.specs.Images.{IsLabelling, IsImage}
use Rattle.label_graph.specs.Cuts.{IsPadded, cut_graph, cut_labels}

-- the image of a graph is a graph
abbrev pub ImagesAreGraphs : Type 0
ImagesAreGraphs = (N : ℕ) (g image : GraphValue N) (labels : List (List ℕ)) → IsGraph N g → IsLabelling g labels → All IsInRange labels → IsImage g labels image → IsGraph N image

-- a path carries as many copies of each piece as another
abbrev pub CarriesAs : List GraphArc → List GraphArc → Type 0
CarriesAs path other = (p : ℕ) → copies_along p path ≡ copies_along p other

-- a path from the source to the target of the graph carries as many copies of each piece
pub record HasPathLike {N : ℕ} (g : GraphValue N) (path : List GraphArc) : Type 0 where
  pub like : List GraphArc
  pub leads : IsPath g.arcs 1 (length g.labels) like
  pub carries : CarriesAs like path

-- the content of each path from the source to the target is that of such a path of the image
abbrev pub ImagesKeepContents : Type 0
ImagesKeepContents = (N : ℕ) (g image : GraphValue N) (labels : List (List ℕ)) → IsGraph N g → IsLabelling g labels → IsImage g labels image → (path : List GraphArc) → IsPath g.arcs 1 (length g.labels) path → HasPathLike image path

-- a graph has an image under each labelling
abbrev pub ImagesExist : Type 0
ImagesExist = (N : ℕ) (g : GraphValue N) (labels : List (List ℕ)) → IsGraph N g → IsLabelling g labels → (image : GraphValue N) × IsImage g labels image

-- there is but one image under some labels
abbrev pub ImagesAreOne : Type 0
ImagesAreOne = (N : ℕ) (g image other : GraphValue N) (labels : List (List ℕ)) → IsImage g labels image → IsImage g labels other → image ≡ other

-- zeros behind all weights and labels change nothing of an image
abbrev pub CutsKeepImages : Type 0
CutsKeepImages = (N n : ℕ) (g image : GraphValue N) (labels : List (List ℕ)) → n ≤ N → IsGraph N g → IsLabelling g labels → All (IsPadded n) labels → IsImage g labels image → IsImage (cut_graph n g) (cut_labels n labels) (cut_graph n image)

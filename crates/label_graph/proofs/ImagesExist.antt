-- Each graph has an image under each labelling.
use Rattle.std.proofs.Common.{◌≡◌, ℕ, zero, suc, ◌+◌, ◌-◌, ◌<◌, ◌≤◌, List, [], ◌∷◌, ◌++◌, length, length-append, get_or, refl, ap, ◌∙◌, arith}
use Rattle.std.specs.List.{filter_map}
use Rattle.std.proofs.lemmas.List.{get_or_default}
use Rattle.weight_vec.specs.Weight.{Before}
use Rattle.label_graph.specs.declared.parts.GraphArc.{GraphArc}
use Rattle.label_graph.specs.Graph.{ArcBefore}
use Rattle.label_graph.specs.Images.{AreDistinct, IsMergedInto}
use Rattle.label_graph.specs.ImageLaws.{ImagesExist}
use Rattle.label_graph.specs.inner.Merges.{merged_arc}
use Rattle.label_graph.proofs.InOrder.{in_order, before-trans, before-compare, arc-trans, arc-compare}
use Rattle.label_graph.proofs.MergedArcs.{image-made}
use Rattle.label_graph.proofs.Merging.{node-into}
use Rattle.label_graph.proofs.Numbering.{nodes-more, are-nodes}

-- the nodes into which the first i nodes are merged
module _ (labels distinct : List (List ℕ)) (are : AreDistinct labels distinct) where
  nodes_exist : (i : ℕ) → i ≤ length labels → (nodes : List ℕ) × (length nodes ≡ i) × ((k : ℕ) → k < i → IsMergedInto labels distinct (k + 1) (get_or nodes k 0))
  nodes_exist zero le = ([], refl, λ k lt. absurd (omega arith))
  nodes_exist (suc i) le =
      let old = nodes_exist i (omega arith) in
      let lt : i < length labels = omega arith in
      let l = get_or labels i [] in
      let at = node-into labels distinct are (i + 1) (omega arith) (omega arith) in
      let back : i + 1 - 1 ≡ i = omega arith in
      let merged : IsMergedInto (l ∷ []) distinct 1 at.0 = record { first = at.1.first; last = at.1.last; label = at.1.label ∙ ap (λ (k : ℕ). get_or labels k []) back } in
      let here : l ≡ get_or labels i l = get_or_default labels i [] l lt in
      let each = nodes-more labels distinct i l old.0 at.0 lt here old.1 old.2 merged in
      let count : length (old.0 ++ at.0 ∷ []) ≡ length old.0 + 1 = length-append old.0 (at.0 ∷ []) in
      let sized : length old.0 ≡ i = old.1 in
      (old.0 ++ at.0 ∷ [], omega arith, λ k low. each k (omega arith))

pub images_exist : ImagesExist
images_exist N g labels is new =
    let distinct = in_order Before before-trans before-compare labels in
    let are : AreDistinct labels distinct.0 = record { ordered = distinct.1; exact = distinct.2 } in
    let nodes = nodes_exist labels distinct.0 are (length labels) (omega arith) in
    let at = are-nodes labels distinct.0 (length labels) nodes.0 (omega arith) (omega arith) nodes.1 nodes.2 in
    let merged : List GraphArc = filter_map (merged_arc nodes.0) g.arcs in
    let sorted = in_order ArcBefore arc-trans arc-compare merged in
    (record { pieces = g.pieces; labels = distinct.0; arcs = sorted.0 }, image-made g labels distinct.0 nodes.0 is new are at merged sorted.0 refl sorted.1 sorted.2)

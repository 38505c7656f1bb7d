-- Paths of the image that carry as much as paths of the graph.
use Rattle.std.proofs.Common.{◌≡◌, ℕ, List, [], ◌∷◌, length, refl, sym, ap, subst, ⊎_elim, arith}
use Rattle.label_graph.specs.declared.parts.Mark.{Mark}
use Rattle.label_graph.specs.declared.parts.Mark.TheVariants.{Loss}
use Rattle.label_graph.specs.declared.parts.GraphArc.{GraphArc}
use Rattle.label_graph.specs.Graph.{GraphValue, IsGraph, IsPath, mark_copies}
use Rattle.label_graph.specs.Images.{IsLabelling, IsImage, IsMergedInto}
use Rattle.label_graph.specs.ImageLaws.{CarriesAs, HasPathLike}
use Rattle.label_graph.proofs.Merging.{arc-ends, into, first-is, last-is, arc-becomes, node-one}

loss-copies : (p : ℕ) (m : Mark) → m ≡ Loss → mark_copies p m ≡ 0
loss-copies p m h = ap (mark_copies p) h

module _ {N : ℕ} (g image : GraphValue N) (labels : List (List ℕ)) (is : IsGraph N g) (new : IsLabelling g labels) (made : IsImage g labels image) where
  -- a path between the nodes into which the ends are merged, without the arcs that are left out
  walk : (path : List GraphArc) (a b v w : ℕ) → IsPath g.arcs a b path → IsMergedInto labels image.labels a v → IsMergedInto labels image.labels b w → (like : List GraphArc) × IsPath image.arcs v w like × CarriesAs like path
  walk [] a b v w h one two = ([], node-one labels image.labels made.nodes a v w one (subst (λ (u : ℕ). IsMergedInto labels image.labels u w) (sym h) two), λ p. refl)
  walk (e ∷ path) a b v w h one two =
      let ends = arc-ends g labels image.labels is new made.nodes e h.0 in
      let middle = into g labels image.labels is new made.nodes e.head (omega (arith, ends.0, ends.1)) ends.2 in
      let tail : IsMergedInto labels image.labels e.tail v = subst (λ (u : ℕ). IsMergedInto labels image.labels u v) (sym h.1) one in
      let rest = walk path e.head b middle.0 w h.2 middle.1 two in
      ⊎_elim
      (λ out. (
        rest.0,
        subst (λ (u : ℕ). IsPath image.arcs u w rest.0) (sym out.0) rest.1,
        λ p. omega (arith, rest.2 p, loss-copies p e.mark out.1),
      ))
      (λ becomes. (
        record { tail = v; head = middle.0; mark = e.mark } ∷ rest.0,
        ((made.arcs (record { tail = v; head = middle.0; mark = e.mark })).1 (e, h.0, becomes), refl, rest.1),
        λ p. omega (arith, rest.2 p),
      ))
      (arc-becomes g labels image.labels is new made.nodes e h.0 v middle.0 tail middle.1)

pub image-path : (N : ℕ) (g image : GraphValue N) (labels : List (List ℕ)) → IsGraph N g → IsLabelling g labels → IsImage g labels image → (path : List GraphArc) → IsPath g.arcs 1 (length g.labels) path → HasPathLike image path
image-path N g image labels is new made path leads =
    let source = into g labels image.labels is new made.nodes 1 (omega arith) is.source in
    let target = into g labels image.labels is new made.nodes (length g.labels) is.source (omega arith) in
    let found = walk g image labels is new made path 1 (length g.labels) source.0 target.0 leads source.1 target.1 in
    let from : IsPath image.arcs 1 target.0 found.0 = subst (λ (v : ℕ). IsPath image.arcs v target.0 found.0) (first-is g labels image.labels is new made.nodes source.0 source.1) found.1 in
    let to : IsPath image.arcs 1 (length image.labels) found.0 = subst (λ (w : ℕ). IsPath image.arcs 1 w found.0) (last-is g labels image.labels is new made.nodes target.0 target.1) from in
    record { like = found.0; leads = to; carries = found.2 }

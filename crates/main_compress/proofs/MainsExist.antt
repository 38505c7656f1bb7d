-- Each graph within a capacity has a main graph.
use Rattle.std.proofs.Common.{◌≡◌, ℕ, zero, suc, ◌-◌, ◌<◌, ◌≤◌, List, [], length, get_or, drop, set, replicate, refl, sym, ap, ◌∙◌, subst, arith}
use Rattle.std.proofs.Math.Seq.{drop-length}
use Rattle.std.proofs.lemmas.List.{get_or_default}
use Rattle.weight_vec.specs.Weight.{lower, minus}
use Rattle.label_graph.specs.declared.parts.GraphArc.{GraphArc}
use Rattle.label_graph.specs.declared.parts.Mark.TheVariants.{Loss}
use Rattle.label_graph.specs.Graph.{GraphValue, IsGraph, mark_weight, label_of}
use Rattle.label_graph.specs.ImageLaws.{ImagesExist}
use Rattle.main_compress.specs.MainLaws.{IsRoomFor, MainGraphsExist}
use Rattle.main_compress.proofs.Onward.{AreLeft, left-start, arc-climbs, arc-step}
use Rattle.main_compress.proofs.Targets.{target-labels, target-labelling}

module _ {N : ℕ} (cap : List ℕ) (g : GraphValue N) (is : IsGraph N g) (room : IsRoomFor cap g) where
  -- the labels along the last arcs
  left_exists : (t : ℕ) → t ≤ length g.arcs → (labels : List (List ℕ)) × AreLeft cap g.pieces (drop (length g.arcs - t) g.arcs) (length g.labels) labels
  left_exists zero le =
      let none : [] ≡ drop (length g.arcs - 0) g.arcs = sym (ap (λ (n : ℕ). drop n g.arcs) (omega arith) ∙ drop-length g.arcs) in
      let start = left-start cap g.pieces (length g.labels) room.sized in
      let labels = replicate (length g.labels) cap in
      (labels, subst (λ (arcs : List GraphArc). AreLeft cap g.pieces arcs (length g.labels) labels) none start)
  left_exists (suc t) le =
      let nothing : GraphArc = record { tail = 0; head = 0; mark = Loss } in
      let j = length g.arcs - t in
      let low : 1 ≤ j = omega arith in
      let high : j ≤ length g.arcs = omega arith in
      let old = left_exists t (omega arith) in
      let labels = old.0 in
      let e = get_or g.arcs (j - 1) nothing in
      let climbs = arc-climbs cap g is room.fits g.pieces g.arcs refl refl j nothing low high labels old.1 in
      let here = label_of labels e.tail in
      let there = label_of labels e.head in
      let left = minus there (mark_weight g.pieces e.mark) in
      let at_here : here ≡ get_or labels (e.tail - 1) here = get_or_default labels (e.tail - 1) [] here (omega (arith, climbs.0, climbs.1, climbs.2, old.1.count)) in
      let at_there : there ≡ get_or labels (e.head - 1) there = get_or_default labels (e.head - 1) [] there (omega (arith, climbs.0, climbs.1, climbs.2, old.1.count)) in
      let step = arc-step cap g is room.fits g.pieces g.arcs refl refl j nothing low high labels old.1 here there left (lower here left) at_here at_there refl refl in
      let next : j - 1 ≡ length g.arcs - suc t = omega arith in
      let new = set labels (e.tail - 1) (lower here left) in
      (new, subst (λ (n : ℕ). AreLeft cap g.pieces (drop n g.arcs) (length g.labels) new) next step)

pub mains_exist : ImagesExist → MainGraphsExist
mains_exist images N cap g is room =
    let left = left_exists cap g is room (length g.arcs) (omega arith) in
    let none : length g.arcs - length g.arcs ≡ 0 = omega arith in
    let whole : AreLeft cap g.pieces g.arcs (length g.labels) left.0 = subst (λ (n : ℕ). AreLeft cap g.pieces (drop n g.arcs) (length g.labels) left.0) none left.1 in
    let from_target = target-labels cap g is left.0 whole in
    let image = images N g left.0 is (target-labelling cap g is left.0 from_target) in
    (image.0, record { labels = left.0; from_target = from_target; image = image.1 })

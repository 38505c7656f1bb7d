-- The image of a graph is a graph.
use Rattle.std.proofs.Common.{◌≡◌, ℕ, zero, suc, ◌+◌, ◌<◌, ◌≤◌, List, length, get_or, refl, sym, ◌∙◌, subst, ⊎_elim, arith}
use Rattle.std.specs.Prelude.{Contains, All}
use Rattle.std.proofs.lemmas.Bool.{cases_lt, cases_order}
use Rattle.std.proofs.lemmas.List.Elements.{All-contains, Contains-get_or}
use Rattle.weight_vec.specs.Weight.{AtMost, IsInRange, plus}
use Rattle.weight_vec.proofs.Places.{get_or-plus}
use Rattle.label_graph.specs.declared.parts.GraphArc.{GraphArc}
use Rattle.label_graph.specs.Graph.{GraphValue, IsGraph, IsKnown, label_of, mark_weight}
use Rattle.label_graph.specs.Images.{IsLabelling, IsImage, IsMergedInto}
use Rattle.label_graph.proofs.Merging.{arc-ends, arc-rises, arc-known, into, from, not_after, first-is, last-is, merged-loss, arc-becomes}

-- what holds of each member holds of all
all-members : {X : Type 0} (P : X → Type 0) (xs : List X) → ((x : X) → Contains xs x → P x) → All P xs
all-members P xs each k d lt = each (get_or xs k d) (Contains-get_or xs k d lt)

module _ {N : ℕ} (g image : GraphValue N) (labels : List (List ℕ)) (is : IsGraph N g) (new : IsLabelling g labels) (made : IsImage g labels image) where
  -- the ends of an arc, in order
  ends : (x : GraphArc) → Contains image.arcs x → (1 ≤ x.tail) × (x.tail < x.head) × (x.head ≤ length image.labels)
  ends x m =
      let e = (made.arcs x).0 m in
      let one = e.2.tail in
      let two = e.2.head in
      let climbs : x.tail < x.head =
      ⊎_elim
      (λ same. absurd (e.2.kept (e.2.mark ∙ merged-loss g labels image.labels is new made.nodes e.0 e.1 x.tail one (subst (λ (u : ℕ). IsMergedInto labels image.labels e.0.head u) (sym same) two), same)))
      (λ apart. ⊎_elim
      (λ lt. lt)
      (λ gt.
      let rises = arc-rises g labels image.labels is new made.nodes e.0 e.1 in
      let fits : AtMost (label_of labels e.0.tail) (label_of labels e.0.head) = λ d. omega (arith, rises d, get_or-plus (label_of labels e.0.tail) (mark_weight g.pieces e.0.mark) d) in
      absurd (not_after g labels image.labels is new made.nodes x.head x.tail two.first gt one.last (rw (one.label, two.label) fits)))
      apart)
      (cases_order x.tail x.head) in
      (one.first, climbs, two.last)

  known : (x : GraphArc) → Contains image.arcs x → IsKnown image.pieces x.mark
  known x m =
      let e = (made.arcs x).0 m in
      rw (made.pieces, e.2.mark) (arc-known g labels image.labels is new made.nodes e.0 e.1)

  rises : (x : GraphArc) → Contains image.arcs x → AtMost (plus (label_of image.labels x.tail) (mark_weight image.pieces x.mark)) (label_of image.labels x.head)
  rises x m =
      let e = (made.arcs x).0 m in
      rw (made.pieces, e.2.mark, e.2.tail.label, e.2.head.label) (arc-rises g labels image.labels is new made.nodes e.0 e.1)

  -- the first arc out of a node of the given graph with the label, by at most so many arcs
  out : (fuel u w : ℕ) → 1 ≤ u → u ≤ length g.labels → length g.labels ≤ u + fuel → IsMergedInto labels image.labels u w → w < length image.labels → (x : GraphArc) × Contains image.arcs x × (x.tail ≡ w)
  out zero u w low high far merged lt =
      let same : u ≡ length g.labels = omega arith in
      absurd (omega (arith, last-is g labels image.labels is new made.nodes w (subst (λ (v : ℕ). IsMergedInto labels image.labels v w) same merged)))
  out (suc fuel) u w low high far merged lt =
      ⊎_elim
      (λ before.
      let next = is.leaves u low before in
      let climbs = arc-ends g labels image.labels is new made.nodes next.0 next.1 in
      let head = into g labels image.labels is new made.nodes next.0.head (omega (arith, climbs.0, climbs.1)) climbs.2 in
      let tail : IsMergedInto labels image.labels next.0.tail w = subst (λ (v : ℕ). IsMergedInto labels image.labels v w) (sym next.2) merged in
      ⊎_elim
      (λ same. out fuel next.0.head w (omega (arith, climbs.0, climbs.1)) climbs.2 (omega (arith, climbs.1, next.2)) (subst (λ (v : ℕ). IsMergedInto labels image.labels next.0.head v) (sym same.0) head.1) lt)
      (λ becomes. (record { tail = w; head = head.0; mark = next.0.mark }, (made.arcs (record { tail = w; head = head.0; mark = next.0.mark })).1 (next.0, next.1, becomes), refl))
      (arc-becomes g labels image.labels is new made.nodes next.0 next.1 w head.0 tail head.1))
      (λ end.
      let same : u ≡ length g.labels = omega arith in
      absurd (omega (arith, last-is g labels image.labels is new made.nodes w (subst (λ (v : ℕ). IsMergedInto labels image.labels v w) same merged))))
      (cases_lt u (length g.labels))

  -- the last arc into a node with the label
  in_to : (fuel u w : ℕ) → 1 ≤ u → u ≤ length g.labels → u ≤ 1 + fuel → IsMergedInto labels image.labels u w → 1 < w → (x : GraphArc) × Contains image.arcs x × (x.head ≡ w)
  in_to zero u w low high near merged lt =
      let same : u ≡ 1 = omega arith in
      absurd (omega (arith, first-is g labels image.labels is new made.nodes w (subst (λ (v : ℕ). IsMergedInto labels image.labels v w) same merged)))
  in_to (suc fuel) u w low high near merged lt =
      ⊎_elim
      (λ after.
      let last = is.enters u after high in
      let climbs = arc-ends g labels image.labels is new made.nodes last.0 last.1 in
      let tail = into g labels image.labels is new made.nodes last.0.tail climbs.0 (omega (arith, climbs.1, climbs.2)) in
      let head : IsMergedInto labels image.labels last.0.head w = subst (λ (v : ℕ). IsMergedInto labels image.labels v w) (sym last.2) merged in
      ⊎_elim
      (λ same. in_to fuel last.0.tail w climbs.0 (omega (arith, climbs.1, climbs.2)) (omega (arith, climbs.1, last.2)) (subst (λ (v : ℕ). IsMergedInto labels image.labels last.0.tail v) same.0 tail.1) lt)
      (λ becomes. (record { tail = tail.0; head = w; mark = last.0.mark }, (made.arcs (record { tail = tail.0; head = w; mark = last.0.mark })).1 (last.0, last.1, becomes), refl))
      (arc-becomes g labels image.labels is new made.nodes last.0 last.1 tail.0 w tail.1 head))
      (λ start.
      let same : u ≡ 1 = omega arith in
      absurd (omega (arith, first-is g labels image.labels is new made.nodes w (subst (λ (v : ℕ). IsMergedInto labels image.labels v w) same merged))))
      (cases_lt 1 u)

pub image-graph : (N : ℕ) (g image : GraphValue N) (labels : List (List ℕ)) → IsGraph N g → IsLabelling g labels → All IsInRange labels → IsImage g labels image → IsGraph N image
image-graph N g image labels is new range made =
    let source = into g labels image.labels is new made.nodes 1 (omega arith) is.source in
    record {
      small = is.small;
      source = omega (arith, source.1.first, source.1.last);
      sized = all-members (λ (l : List ℕ). length l ≡ N) image.labels (λ l m. All-contains (λ (l : List ℕ). length l ≡ N) labels l new.sized ((made.nodes.exact l).0 m));
      ranged = all-members (λ (l : List ℕ). IsInRange l) image.labels (λ l m. All-contains (λ (l : List ℕ). IsInRange l) labels l range ((made.nodes.exact l).0 m));
      pieces_sized = rw made.pieces is.pieces_sized;
      pieces_ranged = rw made.pieces is.pieces_ranged;
      heavy = rw made.pieces is.heavy;
      ordered = made.ordered;
      climbs = all-members (λ (x : GraphArc). (1 ≤ x.tail) × (x.tail < x.head) × (x.head ≤ length image.labels)) image.arcs (ends g image labels is new made);
      known = all-members (λ (x : GraphArc). IsKnown image.pieces x.mark) image.arcs (known g image labels is new made);
      rises = all-members (λ (x : GraphArc). AtMost (plus (label_of image.labels x.tail) (mark_weight image.pieces x.mark)) (label_of image.labels x.head)) image.arcs (rises g image labels is new made);
      leaves = λ w low lt. let u = from g labels image.labels is new made.nodes w low (omega arith) in out g image labels is new made (length g.labels) u.0 w u.1 u.2 (omega arith) u.3 lt;
      enters = λ w lt high. let u = from g labels image.labels is new made.nodes w (omega arith) high in in_to g image labels is new made u.0 u.0 w u.1 u.2 (omega arith) u.3 lt;
    }

-- Paths joined end to end, the ways to and from each node, and what paths weigh.
use Rattle.std.proofs.Common.{◌≡◌, ℕ, zero, suc, ◌+◌, ◌-◌, ◌<◌, ◌≤◌, List, [], ◌∷◌, ◌++◌, length, get_or, refl, sym, ap, ◌∙◌, subst, ⊎_elim, arith}
use Rattle.std.specs.Prelude.{Contains}
use Rattle.std.proofs.lemmas.List.Elements.{All-contains}
use Rattle.std.proofs.lemmas.Bool.{cases_lt}
use Rattle.std.proofs.lemmas.List.{get_or_default}
use Rattle.label_graph.specs.declared.parts.GraphArc.{GraphArc}
use Rattle.label_graph.specs.declared.parts.Piece.{Piece}
use Rattle.label_graph.specs.Graph.{GraphValue, IsGraph, IsPath, weight_in, mark_weight, label_of}
use Rattle.label_graph.specs.GraphLaws.{OnPath}
use Rattle.weight_vec.proofs.Places.{get_or-plus}
use Rattle.weight_vec.specs.Weight.{AtMost, plus}

pub IsPath-append : (arcs : List GraphArc) (a b c : ℕ) (p q : List GraphArc) → IsPath arcs a b p → IsPath arcs b c q → IsPath arcs a c (p ++ q)
IsPath-append arcs a b c [] q h k = subst (λ (v : ℕ). IsPath arcs v c q) (sym h) k
IsPath-append arcs a b c (e ∷ p) q h k = (h.0, h.1, IsPath-append arcs e.head b c p q h.2 k)

-- a label of the list is that of a node
pub node-label : (labels : List (List ℕ)) (k : ℕ) (d : List ℕ) → k < length labels → label_of labels (k + 1) ≡ get_or labels k d
node-label labels k d lt = let node : k + 1 - 1 ≡ k = omega arith in ap (λ (i : ℕ). get_or labels i []) node ∙ get_or_default labels k [] d lt

pub weight-append : {N : ℕ} (pieces : List (Piece N)) (d : ℕ) (p q : List GraphArc) → weight_in pieces d (p ++ q) ≡ weight_in pieces d p + weight_in pieces d q
weight-append pieces d [] q = omega arith
weight-append pieces d (e ∷ p) q = omega (arith, weight-append pieces d p q)

module _ (N : ℕ) (g : GraphValue N) (is : IsGraph N g) where
  pub climbs-at : (e : GraphArc) → Contains g.arcs e → (1 ≤ e.tail) × (e.tail < e.head) × (e.head ≤ length g.labels)
  climbs-at e h = All-contains (λ (e : GraphArc). (1 ≤ e.tail) × (e.tail < e.head) × (e.head ≤ length g.labels)) g.arcs e is.climbs h

  -- the way on, by at most so many arcs
  pub way_on : (fuel v : ℕ) → 1 ≤ v → v ≤ length g.labels → length g.labels ≤ v + fuel → (p : List GraphArc) × IsPath g.arcs v (length g.labels) p
  way_on zero v low high far = ([], omega arith)
  way_on (suc fuel) v low high far =
      ⊎_elim
      (λ lt. let next = is.leaves v low lt in
      let climbs = climbs-at next.0 next.1 in
      let rest = way_on fuel next.0.head (omega (arith, climbs.0, climbs.1)) climbs.2 (omega (arith, climbs.1, next.2)) in
      (next.0 ∷ rest.0, (next.1, next.2, rest.1)))
      (λ ge. ([], omega arith))
      (cases_lt v (length g.labels))

  -- the way to a node, by at most so many arcs
  pub way_to : (fuel v : ℕ) → 1 ≤ v → v ≤ length g.labels → v ≤ 1 + fuel → (p : List GraphArc) × IsPath g.arcs 1 v p
  way_to zero v low high near = ([], omega arith)
  way_to (suc fuel) v low high near =
      ⊎_elim
      (λ lt. let last = is.enters v lt high in
      let climbs = climbs-at last.0 last.1 in
      let front = way_to fuel last.0.tail climbs.0 (omega (arith, climbs.1, climbs.2)) (omega (arith, climbs.1, last.2)) in
      (front.0 ++ last.0 ∷ [], IsPath-append g.arcs 1 last.0.tail v front.0 (last.0 ∷ []) front.1 (last.1, refl, last.2)))
      (λ ge. ([], omega arith))
      (cases_lt 1 v)

  pub on_path : (v : ℕ) → 1 ≤ v → v ≤ length g.labels → OnPath g v
  on_path v low high =
      let front = way_to v v low high (omega arith) in
      let rest = way_on (length g.labels) v low high (omega arith) in
      record { before = front.0; after = rest.0; comes = front.1; goes = rest.1 }

  pub weight-bound : (path : List GraphArc) (a b : ℕ) → IsPath g.arcs a b path → (d : ℕ) → get_or (label_of g.labels a) d 0 + weight_in g.pieces d path ≤ get_or (label_of g.labels b) d 0
  weight-bound [] a b h d = let e : get_or (label_of g.labels a) d 0 ≡ get_or (label_of g.labels b) d 0 = ap (λ (v : ℕ). get_or (label_of g.labels v) d 0) h in omega arith
  weight-bound (e ∷ path) a b h d =
      let rest = weight-bound path e.head b h.2 d in
      let rises = All-contains (λ (e : GraphArc). AtMost (plus (label_of g.labels e.tail) (mark_weight g.pieces e.mark)) (label_of g.labels e.head)) g.arcs e is.rises h.0 d in
      let same : get_or (label_of g.labels e.tail) d 0 ≡ get_or (label_of g.labels a) d 0 = ap (λ (v : ℕ). get_or (label_of g.labels v) d 0) h.1 in
      omega (arith, rest, rises, same, get_or-plus (label_of g.labels e.tail) (mark_weight g.pieces e.mark) d)

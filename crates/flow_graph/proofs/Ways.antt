-- Paths joined end to end, and the ways to and from each node.
use Rattle.std.proofs.Common.{ℕ, zero, suc, ◌+◌, ◌<◌, ◌≤◌, List, [], ◌∷◌, ◌++◌, refl, sym, subst, ⊎_elim, arith}
use Rattle.std.specs.Prelude.{Contains}
use Rattle.std.proofs.lemmas.List.Elements.{All-contains}
use Rattle.std.proofs.lemmas.Bool.{cases_lt}
use Rattle.flow_graph.specs.declared.parts.TypeArc.{TypeArc}
use Rattle.flow_graph.specs.Arcs.{TypeValue, IsFlowType}
use Rattle.flow_graph.specs.Faithful.{IsPath}
use Rattle.flow_graph.specs.Laws.{OnPath}

pub IsPath-append : (arcs : List TypeArc) (a b c : ℕ) (p q : List TypeArc) → IsPath arcs a b p → IsPath arcs b c q → IsPath arcs a c (p ++ q)
IsPath-append arcs a b c [] q h k = subst (λ (v : ℕ). IsPath arcs v c q) (sym h) k
IsPath-append arcs a b c (e ∷ p) q h k = (h.0, h.1, IsPath-append arcs e.head b c p q h.2 k)

module _ (x : TypeValue) (is : IsFlowType x) where
  up : (e : TypeArc) → Contains x.arcs e → (1 ≤ e.tail) × (e.tail < e.head) × (e.head ≤ x.nodes)
  up e h = All-contains (λ (e : TypeArc). (1 ≤ e.tail) × (e.tail < e.head) × (e.head ≤ x.nodes)) x.arcs e is.climbs h

  -- the way on, by at most so many arcs
  pub way_on : (fuel v : ℕ) → 1 ≤ v → v ≤ x.nodes → x.nodes ≤ v + fuel → (p : List TypeArc) × IsPath x.arcs v x.nodes p
  way_on zero v low high far = ([], omega arith)
  way_on (suc fuel) v low high far =
      ⊎_elim
      (λ lt. let next = is.leaves v low lt in
      let climbs = up next.0 next.1 in
      let rest = way_on fuel next.0.head (omega (arith, climbs.0, climbs.1)) climbs.2 (omega (arith, climbs.1, next.2)) in
      (next.0 ∷ rest.0, (next.1, next.2, rest.1)))
      (λ ge. ([], omega arith))
      (cases_lt v x.nodes)

  -- the way to a node, by at most so many arcs
  pub way_to : (fuel v : ℕ) → 1 ≤ v → v ≤ x.nodes → v ≤ 1 + fuel → (p : List TypeArc) × IsPath x.arcs 1 v p
  way_to zero v low high near = ([], omega arith)
  way_to (suc fuel) v low high near =
      ⊎_elim
      (λ lt. let last = is.enters v lt high in
      let climbs = up last.0 last.1 in
      let front = way_to fuel last.0.tail climbs.0 (omega (arith, climbs.1, climbs.2)) (omega (arith, climbs.1, last.2)) in
      (front.0 ++ last.0 ∷ [], IsPath-append x.arcs 1 last.0.tail v front.0 (last.0 ∷ []) front.1 (last.1, refl, last.2)))
      (λ ge. ([], omega arith))
      (cases_lt 1 v)

  pub on_path : (v : ℕ) → 1 ≤ v → v ≤ x.nodes → OnPath x v
  on_path v low high =
      let front = way_to v v low high (omega arith) in
      let rest = way_on x.nodes v low high (omega arith) in
      record { before = front.0; after = rest.0; leads_to = front.1; leads_on = rest.1 }

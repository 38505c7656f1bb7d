-- The sums of what arcs carry of each item, arc by arc.
use Rattle.std.proofs.Common.{◌≡◌, ℕ, suc, ◌+◌, ◌-◌, ◌*◌, ◌^◌, ◌<◌, ◌≤◌, Bool, true, false, cond, ◌==◌, List, length, get_or, set, take, sym, ap, ◌∙◌, ⊎_elim, arith}
use Rattle.std.proofs.lemmas.Bool.{cases_eq, eq-eqb, ne_eqb, cond-true, cond-false}
use Rattle.std.proofs.lemmas.List.{get_or-set_same, get_or-set_other}
use Rattle.packing_laws.specs.Instances.{IsAmong}
use Rattle.flow_graph.specs.declared.parts.ArcKind.{ArcKind}
use Rattle.flow_model.specs.Flows.{carries, weigh_arcs}
use Rattle.flow_model.proofs.TallySums.{weigh_more}
use Rattle.needs_check.specs.inner.Laid.{HoldsCarried}

one_at_most : (b : Bool) (x : ℕ) → cond {A = ℕ} b 1 0 * x ≤ x
one_at_most true x = omega arith
one_at_most false x = omega arith

module _ (kinds : List ArcKind) (values old new : List ℕ) (i : ℕ) (kind : ArcKind) (x : ℕ) (added : (j : ℕ) → get_or new j 0 ≡ get_or old j 0 + cond (carries (j + 1) kind) 1 0 * x) where
  pub small_more : x < 2 ^ 64 → ((j : ℕ) → get_or old j 0 ≤ i * 2 ^ 64) → (j : ℕ) → get_or new j 0 ≤ (i + 1) * 2 ^ 64
  small_more small below j =
      let own = below j in
      let up = added j in
      let most = one_at_most (carries (j + 1) kind) x in
      omega (arith, own, up, most, small)

  pub carried_more : (d : ArcKind) → i < length kinds → length values ≡ length kinds → kind ≡ get_or kinds i d → x ≡ get_or values i 0 → length new ≡ length old → HoldsCarried (take i kinds) (take i values) old → HoldsCarried (take (suc i) kinds) (take (suc i) values) new
  carried_more d within size read value long held j short =
      let f : ArcKind → ℕ = λ k. cond (carries (j + 1) k) 1 0 in
      let next : weigh_arcs f (take (suc i) kinds) (take (suc i) values) ≡ weigh_arcs f (take i kinds) (take i values) + f kind * x = weigh_more f kinds values i d within size ∙ (λ k. weigh_arcs f (take i kinds) (take i values) + f (sym read k) * sym value k) in
      let own : get_or old j 0 ≡ weigh_arcs f (take i kinds) (take i values) = held j (omega (arith, short, long)) in
      added j ∙ ap (λ (n : ℕ). n + f kind * x) own ∙ sym next

-- The graph of the worked model is one, of the worked instance.
use Rattle.std.proofs.Common.{◌≡◌, ℕ, zero, suc, ◌<◌, ◌≤◌, [], ◌∷◌, get_or, refl, inl, inr, rules, arith, All}
use Rattle.std.specs.Prelude.{◌↔◌, AllPairs}
use Rattle.std.proofs.lemmas.List.Elements.{All-from_recursion, All-cons, All-nil}
use Rattle.std.proofs.lemmas.List.Kept.{AllPairs-cons}
use Rattle.packing_laws.specs.Packings.{Exists}
use Rattle.flow_graph.specs.declared.parts.TypeArc.{TypeArc}
use Rattle.flow_graph.specs.Arcs.{TypeValue, IsFlowType, ArcBefore}
use Rattle.flow_graph.specs.Faithful.{GraphOf, unit_of}
use Rattle.flow_graph.specs.Worked.{up_to_two}
use Rattle.flow_model.specs.Worked.{three_of_one, its_graph}

arc : ℕ → ℕ → ℕ → ℕ → TypeArc
arc t h i f = record { tail = t; head = h; item = i; form = f }

none_ordered : AllPairs ArcBefore []
none_ordered i j d before within = absurd (omega (arith, before, within))

ordered : AllPairs ArcBefore up_to_two.arcs
unfolding arc
ordered =
    AllPairs-cons ArcBefore (arc 1 2 1 1) (arc 1 3 0 0 ∷ arc 2 3 0 0 ∷ arc 2 3 1 1 ∷ [])
    (All-cons (ArcBefore (arc 1 2 1 1)) (arc 1 3 0 0) (arc 2 3 0 0 ∷ arc 2 3 1 1 ∷ []) (inr (refl, inl (omega arith)))
    (All-cons (ArcBefore (arc 1 2 1 1)) (arc 2 3 0 0) (arc 2 3 1 1 ∷ []) (inl (omega arith))
    (All-cons (ArcBefore (arc 1 2 1 1)) (arc 2 3 1 1) [] (inl (omega arith)) (All-nil (ArcBefore (arc 1 2 1 1))))))
    (AllPairs-cons ArcBefore (arc 1 3 0 0) (arc 2 3 0 0 ∷ arc 2 3 1 1 ∷ [])
    (All-cons (ArcBefore (arc 1 3 0 0)) (arc 2 3 0 0) (arc 2 3 1 1 ∷ []) (inl (omega arith))
    (All-cons (ArcBefore (arc 1 3 0 0)) (arc 2 3 1 1) [] (inl (omega arith)) (All-nil (ArcBefore (arc 1 3 0 0)))))
    (AllPairs-cons ArcBefore (arc 2 3 0 0) (arc 2 3 1 1 ∷ [])
    (All-cons (ArcBefore (arc 2 3 0 0)) (arc 2 3 1 1) [] (inr (refl, inr (refl, inl (omega arith)))) (All-nil (ArcBefore (arc 2 3 0 0))))
    (AllPairs-cons ArcBefore (arc 2 3 1 1) [] (All-nil (ArcBefore (arc 2 3 1 1))) none_ordered)))

leaves : (v : ℕ) → 1 ≤ v → v < 3 → (e : TypeArc) × ((k : ℕ) × (k < 4) × (get_or up_to_two.arcs k e ≡ e)) × (e.tail ≡ v)
unfolding arc
leaves zero low high = absurd (omega (arith, low))
leaves (suc zero) low high = (arc 1 2 1 1, (0, omega arith, refl), refl)
leaves (suc (suc zero)) low high = (arc 2 3 0 0, (2, omega arith, refl), refl)
leaves (suc (suc (suc v))) low high = absurd (omega (arith, high))

enters : (v : ℕ) → 1 < v → v ≤ 3 → (e : TypeArc) × ((k : ℕ) × (k < 4) × (get_or up_to_two.arcs k e ≡ e)) × (e.head ≡ v)
unfolding arc
enters zero low high = absurd (omega (arith, low))
enters (suc zero) low high = absurd (omega (arith, low))
enters (suc (suc zero)) low high = (arc 1 2 1 1, (0, omega arith, refl), refl)
enters (suc (suc (suc zero))) low high = (arc 1 3 0 0, (1, omega arith, refl), refl)
enters (suc (suc (suc (suc v)))) low high = absurd (omega (arith, high))

pub type_is : IsFlowType up_to_two
type_is = record {
  source = omega arith;
  ordered = ordered;
  climbs = All-from_recursion (λ (e : TypeArc). (1 ≤ e.tail) × (e.tail < e.head) × (e.head ≤ 3)) up_to_two.arcs (search rules);
  marks = All-from_recursion (λ (e : TypeArc). (e.item ≡ 0) ↔ (e.form ≡ 0)) up_to_two.arcs (search rules);
  leaves = leaves;
  enters = enters;
}

one_form : Exists three_of_one (record { item = 1; form = 1; count = 1 })
one_form = record { item = (omega arith, omega arith); form = (omega arith, omega arith) }

abbrev Named : TypeArc → Type 0
Named e = 1 ≤ e.item → Exists three_of_one (unit_of e)

named : All Named up_to_two.arcs
unfolding arc
named = All-cons Named (arc 1 2 1 1) (arc 1 3 0 0 ∷ arc 2 3 0 0 ∷ arc 2 3 1 1 ∷ []) (λ some. one_form)
    (All-cons Named (arc 1 3 0 0) (arc 2 3 0 0 ∷ arc 2 3 1 1 ∷ []) (λ some. absurd (omega (arith, some)))
    (All-cons Named (arc 2 3 0 0) (arc 2 3 1 1 ∷ []) (λ some. absurd (omega (arith, some)))
    (All-cons Named (arc 2 3 1 1) [] (λ some. one_form) (All-nil Named))))

pub graph_of : GraphOf three_of_one its_graph
graph_of = record { types = refl; exists = All-cons (λ (x : TypeValue). All Named x.arcs) up_to_two [] named (All-nil (λ (x : TypeValue). All Named x.arcs)) }

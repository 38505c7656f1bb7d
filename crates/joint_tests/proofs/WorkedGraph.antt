-- The worked graph is a joint graph, of the worked instance.
use Rattle.std.proofs.Common.{◌≡◌, ℕ, zero, suc, ◌<◌, ◌≤◌, List, [], ◌∷◌, get_or, refl, inl, inr, rules, arith, All}
use Rattle.std.specs.Prelude.{◌↔◌, AllPairs}
use Rattle.std.proofs.lemmas.List.Elements.{All-from_recursion, All-nil}
use Rattle.std.proofs.lemmas.List.Kept.{AllPairs-cons}
use Rattle.packing_laws.specs.Packings.{Exists}
use Rattle.flow_graph.specs.declared.parts.TypeArc.{TypeArc}
use Rattle.flow_graph.specs.Arcs.{ArcBefore}
use Rattle.flow_graph.specs.Faithful.{unit_of}
use Rattle.joint_arcs.specs.Joined.{Climbs, IsJoint}
use Rattle.joint_arcs.specs.Faithful.{GraphOf}
use Rattle.joint_tests.specs.Worked.{two_targets, two_types, with_none, with_unit}

none_ordered : AllPairs ArcBefore []
none_ordered i j d before within = absurd (omega (arith, before, within))

abbrev last_two : List TypeArc
last_two = with_none 2 3 ∷ with_none 2 4 ∷ []

abbrev last_three : List TypeArc
last_three = with_none 1 4 ∷ last_two

abbrev last_four : List TypeArc
last_four = with_none 1 3 ∷ last_three

ordered : AllPairs ArcBefore two_targets.arcs
ordered =
    AllPairs-cons ArcBefore (with_unit 1 2) last_four (All-from_recursion (ArcBefore (with_unit 1 2)) last_four (inr (refl, inl (omega arith)), (inr (refl, inl (omega arith)), (inl (omega arith), (inl (omega arith), tt)))))
    (AllPairs-cons ArcBefore (with_none 1 3) last_three (All-from_recursion (ArcBefore (with_none 1 3)) last_three (inr (refl, inl (omega arith)), (inl (omega arith), (inl (omega arith), tt))))
    (AllPairs-cons ArcBefore (with_none 1 4) last_two (All-from_recursion (ArcBefore (with_none 1 4)) last_two (inl (omega arith), (inl (omega arith), tt)))
    (AllPairs-cons ArcBefore (with_none 2 3) (with_none 2 4 ∷ []) (All-from_recursion (ArcBefore (with_none 2 3)) (with_none 2 4 ∷ []) (inr (refl, inl (omega arith)), tt))
    (AllPairs-cons ArcBefore (with_none 2 4) [] (All-nil (ArcBefore (with_none 2 4))) none_ordered))))

leaves : (v : ℕ) → 1 ≤ v → v ≤ 2 → (e : TypeArc) × ((k : ℕ) × (k < 5) × (get_or two_targets.arcs k e ≡ e)) × (e.tail ≡ v)
leaves zero low high = absurd (omega (arith, low))
leaves (suc zero) low high = (with_unit 1 2, (0, omega arith, refl), refl)
leaves (suc (suc zero)) low high = (with_none 2 3, (3, omega arith, refl), refl)
leaves (suc (suc (suc v))) low high = absurd (omega (arith, high))

enters : (v : ℕ) → 1 < v → v ≤ 4 → (e : TypeArc) × ((k : ℕ) × (k < 5) × (get_or two_targets.arcs k e ≡ e)) × (e.head ≡ v)
enters zero low high = absurd (omega (arith, low))
enters (suc zero) low high = absurd (omega (arith, low))
enters (suc (suc zero)) low high = (with_unit 1 2, (0, omega arith, refl), refl)
enters (suc (suc (suc zero))) low high = (with_none 1 3, (1, omega arith, refl), refl)
enters (suc (suc (suc (suc zero)))) low high = (with_none 1 4, (2, omega arith, refl), refl)
enters (suc (suc (suc (suc (suc v))))) low high = absurd (omega (arith, high))

climbing : (tail head item form : ℕ) → 1 ≤ tail → tail ≤ 2 → tail < head → head ≤ 4 → Climbs two_targets (record { tail = tail; head = head; item = item; form = form })
climbing tail head item form low inner up high = record { low = low; from_inner = inner; up = up; high = high }

climbs : All (Climbs two_targets) two_targets.arcs
climbs = All-from_recursion (Climbs two_targets) two_targets.arcs (
  climbing 1 2 1 1 (omega arith) (omega arith) (omega arith) (omega arith),
  (
    climbing 1 3 0 0 (omega arith) (omega arith) (omega arith) (omega arith),
    (
      climbing 1 4 0 0 (omega arith) (omega arith) (omega arith) (omega arith),
      (
        climbing 2 3 0 0 (omega arith) (omega arith) (omega arith) (omega arith),
        (climbing 2 4 0 0 (omega arith) (omega arith) (omega arith) (omega arith), tt),
      ),
    ),
  ),
)

pub joint : IsJoint two_targets
joint = record {
  source = omega arith;
  types = omega arith;
  few_types = omega arith;
  few_nodes = omega arith;
  few_arcs = omega arith;
  ordered = ordered;
  climbs = climbs;
  marks = All-from_recursion (λ (e : TypeArc). (e.item ≡ 0) ↔ (e.form ≡ 0)) two_targets.arcs (search rules);
  leaves = leaves;
  enters = enters;
}

one_form : Exists two_types (record { item = 1; form = 1; count = 1 })
one_form = record { item = (omega arith, omega arith); form = (omega arith, omega arith) }

abbrev Named : TypeArc → Type 0
Named e = 1 ≤ e.item → Exists two_types (unit_of e)

named : All Named two_targets.arcs
named = All-from_recursion Named two_targets.arcs ((λ some. one_form), ((λ some. absurd (omega (arith, some))), ((λ some. absurd (omega (arith, some))), ((λ some. absurd (omega (arith, some))), ((λ some. absurd (omega (arith, some))), tt)))))

pub graph_of : GraphOf two_types two_targets
graph_of = record { types = refl; exists = named }

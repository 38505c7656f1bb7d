-- Where nothing is left on the bin arcs, nothing is left at all.
use Rattle.std.proofs.Common.{◌≡◌, ℕ, zero, suc, ◌+◌, ◌-◌, ◌*◌, ◌<◌, ◌≤◌, Bool, true, cond, ◌==◌, List, length, get_or, refl, sym, ap, ◌∙◌, subst, ⊎_elim, arith}
use Rattle.std.specs.Prelude.{Some, slice_get}
use Rattle.std.proofs.lemmas.Bool.{cases_lt, and_parts, and_from, eqb-true, eq-eqb}
use Rattle.std.proofs.lemmas.Option.{slice_get-get_or, slice_get_within, get_or_from_slice_get}
use Rattle.std.proofs.lemmas.List.{get_or_past}
use Rattle.packing_laws.specs.Instances.{IsAmong}
use Rattle.flow_graph.specs.declared.parts.TypeArc.{TypeArc}
use Rattle.flow_graph.specs.declared.parts.TypeArc.{TypeArc}
use Rattle.flow_graph.specs.declared.parts.ArcKind.{ArcKind}
use Rattle.flow_graph.specs.declared.parts.ArcKind.TheVariants.{Bin}
use Rattle.flow_graph.specs.Arcs.{TypeValue, IsFlowGraph, flow_type, kind_of, numbered, arc_at, first_arc}
use Rattle.flow_graph.proofs.Places.{arc_at-suc, has_numbers}
use Rattle.flow_graph.specs.Ends.{comes_in, goes_out}
use Rattle.pattern_extract.specs.Runs.{AreConserved}
use Rattle.pattern_extract.proofs.Weights.{weigh-none, weigh-part}
use Rattle.flow_graph.specs.Laws.{IsKindAt, is_bin, is_arc}
use Rattle.flow_graph.proofs.ArcKinds.{among_list, arc_climbs, comes_kind, goes_kind, nothing, type_is}
use Rattle.pattern_extract.proofs.Places.{place_weight, one_if, place_weight-at, kind_there, climbs_at}
use Rattle.pattern_extract.proofs.Steps.{coming, going, coming-going, one-some}

module _ (g : List TypeValue) (left : List ℕ) (is : IsFlowGraph g) (size : length left ≡ length (numbered g)) (conserved : AreConserved g left) (bins : (t : ℕ) → IsAmong t (length g) → get_or left (first_arc g t - 1) 0 ≡ 0) where
  -- nothing is left on an arc that comes into a node, where nothing is left on those that begin before it
  in-none : (t v k : ℕ) (kind : ArcKind) → ((j : ℕ) → j < length (flow_type g t).arcs → (get_or (flow_type g t).arcs j nothing).tail < v → get_or left (first_arc g t + j) 0 ≡ 0) → comes_in t v kind ≡ true → IsKindAt g (suc k) kind → get_or left k 0 ≡ 0
  in-none t v k kind before comes (is_bin s among place same) =
      let e : k ≡ first_arc g s - 1 = omega (arith, place) in
      subst (λ (i : ℕ). get_or left i 0 ≡ 0) (sym e) (bins s among)
  in-none t v k kind before comes (is_arc s among j e at place same) =
      let both = and_parts (s == t) (e.head == v) (sym (comes_kind t v s e) ∙ ap (comes_in t v) (sym same) ∙ comes) in
      let own : s ≡ t = eqb-true s t both.0 in
      let head : e.head ≡ v = eqb-true e.head v both.1 in
      let here : slice_get (flow_type g t).arcs j ≡ Some e = subst (λ (u : ℕ). slice_get (flow_type g u).arcs j ≡ Some e) own at in
      let read : (get_or (flow_type g t).arcs j nothing).tail ≡ e.tail = ap (λ (f : TypeArc). f.tail) (get_or_from_slice_get (flow_type g t).arcs j e nothing here) in
      let up = arc_climbs (flow_type g s) (type_is g is s among) e (among_list (flow_type g s).arcs j e at) in
      let tail : (get_or (flow_type g t).arcs j nothing).tail < v = omega (arith, read, head, up.1) in
      let none : get_or left (first_arc g t + j) 0 ≡ 0 = before j (slice_get_within (flow_type g t).arcs j e here) tail in
      let moved : suc k ≡ first_arc g t + 1 + j = subst (λ (u : ℕ). suc k ≡ first_arc g u + 1 + j) own place in
      let there : k ≡ first_arc g t + j = omega (arith, moved) in
      subst (λ (i : ℕ). get_or left i 0 ≡ 0) (sym there) none

  coming-none : (t v : ℕ) → ((j : ℕ) → j < length (flow_type g t).arcs → (get_or (flow_type g t).arcs j nothing).tail < v → get_or left (first_arc g t + j) 0 ≡ 0) → coming g left t v ≡ 0
  coming-none t v before = weigh-none (place_weight (one_if (comes_in t v)) g) left (λ k some. ⊎_elim
      (λ within.
      let kind : ArcKind = get_or (numbered g) k (Bin 0) in
      let at : slice_get (numbered g) k ≡ Some kind = slice_get-get_or (numbered g) k (Bin 0) (omega (arith, within, size)) in
      let comes : comes_in t v kind ≡ true = one-some (comes_in t v kind) (subst (λ (n : ℕ). 0 < n) (place_weight-at (one_if (comes_in t v)) g k kind at) some) in
      in-none t v k kind before comes (kind_there g k kind at))
      (λ past. get_or_past left k 0 past)
      (cases_lt k (length left)))

  -- nothing is left on an arc where nothing goes out of the node in which it begins
  going-none : (t : ℕ) (among : IsAmong t (length g)) (j : ℕ) → j < length (flow_type g t).arcs → going g left t (get_or (flow_type g t).arcs j nothing).tail ≡ 0 → get_or left (first_arc g t + j) 0 ≡ 0
  going-none t among j within none =
      let arcs : List TypeArc = (flow_type g t).arcs in
      let e : TypeArc = get_or arcs j nothing in
      let k : ℕ = first_arc g t + j in
      let number : first_arc g t + 1 + j ≡ suc k = omega arith in
      let there : slice_get (numbered g) k ≡ Some (kind_of t e) = sym (arc_at-suc g k) ∙ ap (arc_at g) (sym number) ∙ (has_numbers g t among).arcs j e (slice_get-get_or arcs j nothing within) in
      let out : goes_out g t e.tail (kind_of t e) ≡ true = goes_kind g t e.tail t e ∙ and_from (t == t) (e.tail == e.tail) (eq-eqb t t refl) (eq-eqb e.tail e.tail refl) in
      let weight : place_weight (one_if (goes_out g t e.tail)) g k ≡ 1 = place_weight-at (one_if (goes_out g t e.tail)) g k (kind_of t e) there ∙ ap (λ (b : Bool). cond {A = ℕ} b 1 0) out in
      let part = weigh-part (place_weight (one_if (goes_out g t e.tail)) g) left k in
      let own : place_weight (one_if (goes_out g t e.tail)) g k * get_or left k 0 ≡ 1 * get_or left k 0 = ap (λ (n : ℕ). n * get_or left k 0) weight in
      omega (arith, part, own, none)

  arc-none : (t : ℕ) (among : IsAmong t (length g)) (m j : ℕ) → j < length (flow_type g t).arcs → (get_or (flow_type g t).arcs j nothing).tail ≤ m → get_or left (first_arc g t + j) 0 ≡ 0
  arc-none t among zero j within low =
      let up = climbs_at (flow_type g t) (type_is g is t among) j within in
      absurd (omega (arith, up.0, low))
  arc-none t among (suc m) j within low =
      let e : TypeArc = get_or (flow_type g t).arcs j nothing in
      let up = climbs_at (flow_type g t) (type_is g is t among) j within in
      let v : ℕ = e.tail in
      let none : coming g left t v ≡ 0 = coming-none t v (λ i short early. arc-none t among m i short (omega (arith, early, low))) in
      let same : coming g left t v ≡ going g left t v = coming-going g left t v (conserved t v among (up.0, omega (arith, up.1, up.2))) in
      going-none t among j within (omega (arith, none, same))

  place-none : (k : ℕ) (kind : ArcKind) → IsKindAt g (suc k) kind → get_or left k 0 ≡ 0
  place-none k kind (is_bin s among place same) =
      let e : k ≡ first_arc g s - 1 = omega (arith, place) in
      subst (λ (i : ℕ). get_or left i 0 ≡ 0) (sym e) (bins s among)
  place-none k kind (is_arc s among j e at place same) =
      let within = slice_get_within (flow_type g s).arcs j e at in
      let there : k ≡ first_arc g s + j = omega (arith, place) in
      subst (λ (i : ℕ). get_or left i 0 ≡ 0) (sym there) (arc-none s among (get_or (flow_type g s).arcs j nothing).tail j within (omega arith))

  -- nothing is left at any place
  pub drained : (k : ℕ) → get_or left k 0 ≡ 0
  drained k = ⊎_elim
      (λ within.
      let kind : ArcKind = get_or (numbered g) k (Bin 0) in
      place-none k kind (kind_there g k kind (slice_get-get_or (numbered g) k (Bin 0) (omega (arith, within, size)))))
      (λ past. get_or_past left k 0 past)
      (cases_lt k (length left))

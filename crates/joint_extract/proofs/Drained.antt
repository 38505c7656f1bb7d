-- Where nothing is left on the bin arcs, nothing is left at all.
use Rattle.std.proofs.Common.{◌≡◌, ℕ, zero, suc, ◌+◌, ◌-◌, ◌*◌, ◌<◌, ◌≤◌, Bool, true, cond, List, length, get_or, refl, sym, ap, ◌∙◌, subst, ⊎_elim, arith}
use Rattle.std.specs.Prelude.{Some, slice_get}
use Rattle.std.proofs.lemmas.Bool.{cases_lt, eqb-true, eq-eqb}
use Rattle.std.proofs.lemmas.Option.{slice_get-get_or}
use Rattle.std.proofs.lemmas.List.{get_or_past}
use Rattle.packing_laws.specs.Instances.{IsAmong}
use Rattle.flow_graph.specs.declared.parts.ArcKind.{ArcKind}
use Rattle.flow_graph.specs.declared.parts.ArcKind.TheVariants.{Bin}
use Rattle.pattern_extract.proofs.Places.{one_if}
use Rattle.pattern_extract.proofs.Steps.{one-some}
use Rattle.pattern_extract.proofs.Weights.{weigh-none, weigh-part}
use Rattle.joint_arcs.specs.Joined.{JointValue, IsJoint, head_of, numbered, tail_of}
use Rattle.joint_arcs.specs.Flows.{comes_in, goes_out, total_of}
use Rattle.joint_extract.specs.inner.Circuits.{AreConserved, row_weight, start_of}
use Rattle.joint_extract.proofs.RowPlaces.{IsPlaced, is_arc, is_bin, climbs-at, head-kind, placed, row_sum, row_weight-at, start-kind, tail-kind}

module _ (g : JointValue) (left : List ℕ) (is : IsJoint g) (size : length left ≡ length (numbered g)) (conserved : AreConserved g left) (bins : (t : ℕ) → IsAmong t g.types → get_or left (t - 1) 0 ≡ 0) where
  bin-none : (k : ℕ) → k < g.types → get_or left k 0 ≡ 0
  bin-none k within =
      let place : k + 1 - 1 ≡ k = omega arith in
      subst (λ (i : ℕ). get_or left i 0 ≡ 0) place (bins (k + 1) (omega arith, omega (arith, within)))

  -- nothing is left on an arc that comes into a node, where nothing is left on those that begin before it
  in-none : (v k : ℕ) (kind : ArcKind) → ((j : ℕ) (own : ArcKind) → slice_get (numbered g) j ≡ Some own → start_of own < v → get_or left j 0 ≡ 0) → slice_get (numbered g) k ≡ Some kind → head_of kind ≡ v → IsPlaced g k kind → get_or left k 0 ≡ 0
  in-none v k kind before at comes (is_bin within same) = bin-none k within
  in-none v k kind before at comes (is_arc j e there place same) =
      let up = (climbs-at g j e is there).up in
      let start : start_of kind ≡ e.tail = ap start_of same ∙ start-kind e in
      let head : e.head ≡ v = sym (head-kind e) ∙ sym (ap head_of same) ∙ comes in
      before k kind at (omega (arith, up, start, head))

  coming-none : (v : ℕ) → ((j : ℕ) (own : ArcKind) → slice_get (numbered g) j ≡ Some own → start_of own < v → get_or left j 0 ≡ 0) → total_of (comes_in v) g left ≡ 0
  coming-none v before = row_sum (one_if (comes_in v)) g left ∙ weigh-none (row_weight (one_if (comes_in v)) g) left (λ k some. ⊎_elim
      (λ within.
      let kind : ArcKind = get_or (numbered g) k (Bin 0) in
      let at : slice_get (numbered g) k ≡ Some kind = slice_get-get_or (numbered g) k (Bin 0) (omega (arith, within, size)) in
      let comes : comes_in v kind ≡ true = one-some (comes_in v kind) (subst (λ (n : ℕ). 0 < n) (row_weight-at (one_if (comes_in v)) g k kind at) some) in
      in-none v k kind before at (eqb-true (head_of kind) v comes) (placed g k kind at))
      (λ past. get_or_past left k 0 past)
      (cases_lt k (length left)))

  -- nothing is left on an arc where nothing goes out of the node in which it begins
  going-none : (k : ℕ) (kind : ArcKind) → slice_get (numbered g) k ≡ Some kind → total_of (goes_out g (tail_of g kind)) g left ≡ 0 → get_or left k 0 ≡ 0
  going-none k kind at none =
      let v : ℕ = tail_of g kind in
      let all = row_sum (one_if (goes_out g v)) g left in
      let weight : row_weight (one_if (goes_out g v)) g k ≡ 1 = row_weight-at (one_if (goes_out g v)) g k kind at ∙ ap (λ (b : Bool). cond {A = ℕ} b 1 0) (eq-eqb v v refl) in
      let part = weigh-part (row_weight (one_if (goes_out g v)) g) left k in
      let own : row_weight (one_if (goes_out g v)) g k * get_or left k 0 ≡ 1 * get_or left k 0 = ap (λ (n : ℕ). n * get_or left k 0) weight in
      omega (arith, all, part, own, none)

  tail-none : (k : ℕ) (kind : ArcKind) → ((v : ℕ) → IsAmong v g.inner → v ≤ start_of kind → total_of (comes_in v) g left ≡ 0) → slice_get (numbered g) k ≡ Some kind → IsPlaced g k kind → get_or left k 0 ≡ 0
  tail-none k kind none at (is_bin within same) = bin-none k within
  tail-none k kind none at (is_arc j e there place same) =
      let up = climbs-at g j e is there in
      let low = up.low in
      let high = up.from_inner in
      let tail : tail_of g kind ≡ e.tail = ap (tail_of g) same ∙ tail-kind g e in
      let start : start_of kind ≡ e.tail = ap start_of same ∙ start-kind e in
      let comes : total_of (comes_in e.tail) g left ≡ 0 = none e.tail (low, high) (omega (arith, start)) in
      let goes : total_of (goes_out g e.tail) g left ≡ 0 = sym (conserved e.tail (low, omega (arith, high))) ∙ comes in
      going-none k kind at (subst (λ (v : ℕ). total_of (goes_out g v) g left ≡ 0) (sym tail) goes)

  from-none : (m k : ℕ) (kind : ArcKind) → slice_get (numbered g) k ≡ Some kind → start_of kind ≤ m → get_or left k 0 ≡ 0
  from-none zero k kind at low = tail-none k kind (λ v among high. absurd (omega (arith, among.0, high, low))) at (placed g k kind at)
  from-none (suc m) k kind at low = tail-none k kind (λ v among high. coming-none v (λ j own there early. from-none m j own there (omega (arith, early, high, low)))) at (placed g k kind at)

  -- nothing is left at any place
  pub drained : (k : ℕ) → get_or left k 0 ≡ 0
  drained k = ⊎_elim
      (λ within.
      let kind : ArcKind = get_or (numbered g) k (Bin 0) in
      from-none (start_of kind) k kind (slice_get-get_or (numbered g) k (Bin 0) (omega (arith, within, size))) (omega arith))
      (λ past. get_or_past left k 0 past)
      (cases_lt k (length left))

-- Units of the counts of a bin, taken from what is left of each item.
use Rattle.std.proofs.Common.{◌≡◌, ℕ, ◌+◌, ◌-◌, ◌*◌, ◌<◌, ◌≤◌, ◌∙◌, inl, inr, List, length, take, cond, ◌==◌, slice_index, slice_set, refl, sym, ap, arith, get_or}
use Rattle.std.proofs.lemmas.Bool.{cases_eq, ne_eqb, eq-eqb, cond-true, cond-false}
use Rattle.std.proofs.lemmas.List.{get_or-set_same, get_or-set_other}
use Rattle.std.proofs.lemmas.List.Sums.{sum_by_more, sum_by_more_le}
use Rattle.std.proofs.Math.Nat.{mul-le-mul_left}
use Rattle.packing_laws.specs.declared.packings.Count.{Count}
use Rattle.packing_laws.specs.Instances.{IsAmong}
use Rattle.packing_laws.specs.Packings.{Content, count_of_item}

-- the units of item i that one count has
abbrev pub units_of : ℕ → Count → ℕ
units_of i n = cond (n.item == i) n.count 0

pub own_units : (n : Count) → units_of n.item n ≡ n.count
own_units n = cond-true (n.item == n.item) n.count 0 (eq-eqb n.item n.item refl)

pub other_units : (i : ℕ) (n : Count) → (i ≡ n.item → ⊥) → units_of i n ≡ 0
other_units i n other = cond-false (n.item == i) n.count 0 (ne_eqb n.item i (λ e. other (sym e)))

-- the content, t times, was taken from the old numbers
abbrev pub IsTaken : ℕ → Content → List ℕ → List ℕ → Type 0
IsTaken t c now old = (i : ℕ) → IsAmong i (length old) → t * count_of_item i c + slice_index now (i - 1) ≡ slice_index old (i - 1)

module _ (t : ℕ) (c : Content) (k : ℕ) (d : Count) (now old : List ℕ) (within : k < length c) (exists : IsAmong (get_or c k d).item (length old)) where
  -- what the next count takes is there
  pub next-enough : ((i : ℕ) → IsAmong i (length old) → t * count_of_item i c ≤ slice_index old (i - 1)) → IsTaken t (take k c) now old → t * (get_or c k d).count ≤ slice_index now ((get_or c k d).item - 1)
  next-enough enough taken =
      let n : Count = get_or c k d in
      let part : count_of_item n.item (take k c) + units_of n.item n ≤ count_of_item n.item c = sum_by_more_le (units_of n.item) c k d within in
      let own : units_of n.item n ≡ n.count = own_units n in
      let small : count_of_item n.item (take k c) + n.count ≤ count_of_item n.item c = omega arith in
      let scaled : t * (count_of_item n.item (take k c) + n.count) ≤ t * count_of_item n.item c = mul-le-mul_left t small in
      let all : t * count_of_item n.item c ≤ slice_index old (n.item - 1) = enough n.item exists in
      let before : t * count_of_item n.item (take k c) + slice_index now (n.item - 1) ≡ slice_index old (n.item - 1) = taken n.item exists in
      omega arith

  -- the next count is taken
  pub next-taken : (left : ℕ) → left ≡ slice_index now ((get_or c k d).item - 1) → length now ≡ length old → t * (get_or c k d).count ≤ left → IsTaken t (take k c) now old → IsTaken t (take (k + 1) c) (slice_set now ((get_or c k d).item - 1) (left - t * (get_or c k d).count)) old
  next-taken left is same enough taken i among =
      let n : Count = get_or c k d in
      let v : ℕ = left - t * n.count in
      let before : t * count_of_item i (take k c) + slice_index now (i - 1) ≡ slice_index old (i - 1) = taken i among in
      let more : count_of_item i (take (k + 1) c) ≡ count_of_item i (take k c) + units_of i n = sum_by_more (units_of i) c k d within in
      let scaled : t * count_of_item i (take (k + 1) c) ≡ t * (count_of_item i (take k c) + units_of i n) = ap (λ m. t * m) more in
      elim (cases_eq i n.item) [
        | inl here ↦
            let own : units_of i n ≡ n.count = ap (λ j. units_of j n) here ∙ own_units n in
            let part : t * units_of i n ≡ t * n.count = ap (λ m. t * m) own in
            let at_item : slice_index (slice_set now (n.item - 1) v) (n.item - 1) ≡ v = get_or-set_same now (n.item - 1) v 0 (omega (arith, exists.0, exists.1)) in
            let set : slice_index (slice_set now (n.item - 1) v) (i - 1) ≡ v = ap (λ j. slice_index (slice_set now (n.item - 1) v) (j - 1)) here ∙ at_item in
            let there : slice_index now (i - 1) ≡ slice_index now (n.item - 1) = ap (λ j. slice_index now (j - 1)) here in
            omega arith
        | inr other ↦
            let none : units_of i n ≡ 0 = other_units i n other in
            let part : t * units_of i n ≡ t * 0 = ap (λ m. t * m) none in
            let set : slice_index (slice_set now (n.item - 1) v) (i - 1) ≡ slice_index now (i - 1) = get_or-set_other now (n.item - 1) (i - 1) v 0 (λ e. other (omega (arith, e, among.0, exists.0))) in
            omega arith
      ]

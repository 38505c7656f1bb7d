-- How often a content can be taken.
use Rattle.std.proofs.Common.{◌≡◌, ℕ, ◌+◌, ◌-◌, ◌*◌, ◌<◌, ◌≤◌, inl, inr, List, length, take, All, slice_index, ap, subst, arith, get_or}
use Rattle.std.proofs.lemmas.Bool.{cases_lt}
use Rattle.std.proofs.lemmas.List.Elements.{All-more}
use Rattle.std.proofs.Math.Nat.{mul-le-mul_right}
use Rattle.packing_laws.specs.declared.packings.Count.{Count}
use Rattle.packing_laws.specs.Packings.{Content, count_of_item}
use Rattle.packing_laws.proofs.PackedItems.{positive_term, is_unit}
use Rattle.first_fit.proofs.TakenUnits.{units_of}

-- the item of the count is there so often
abbrev pub IsEnoughOf : List ℕ → Content → ℕ → Count → Type 0
IsEnoughOf rest c times n = times * count_of_item n.item c ≤ slice_index rest (n.item - 1)

-- fewer times, and one more count
pub enough-more : (rest : List ℕ) (c : Content) (times fewer k : ℕ) (d : Count) → k < length c → fewer ≤ times → All (IsEnoughOf rest c times) (take k c) → IsEnoughOf rest c fewer (get_or c k d) → All (IsEnoughOf rest c fewer) (take (k + 1) c)
enough-more rest c times fewer k d within less all next =
    All-more (IsEnoughOf rest c fewer) c k d within
    (λ j e inside.
    let n : Count = get_or (take k c) j e in
    let before : times * count_of_item n.item c ≤ slice_index rest (n.item - 1) = all j e inside in
    let scaled : fewer * count_of_item n.item c ≤ times * count_of_item n.item c = mul-le-mul_right (count_of_item n.item c) less in
    omega arith)
    next

-- what is enough of the item of each count is enough of each item
pub enough-all : (rest : List ℕ) (c : Content) (times : ℕ) → All (IsEnoughOf rest c times) c → (i : ℕ) → times * count_of_item i c ≤ slice_index rest (i - 1)
enough-all rest c times all i = elim (cases_lt 0 (count_of_item i c)) [
  | inl some ↦
      let nothing : Count = record { item = 0; form = 0; count = 0 } in
      let found = positive_term (units_of i) c some in
      let n : Count = get_or c found.0 nothing in
      let is = is_unit i n (found.2 nothing) in
      let there : times * count_of_item n.item c ≤ slice_index rest (n.item - 1) = all found.0 nothing found.1 in
      subst (λ j. times * count_of_item j c ≤ slice_index rest (j - 1)) is.0 there
  | inr none ↦
      let zero_units : count_of_item i c ≡ 0 = omega arith in
      let zero_times : times * count_of_item i c ≡ times * 0 = ap (λ m. times * m) zero_units in
      omega arith
]

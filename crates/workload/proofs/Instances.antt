-- What is generated is an instance.
use Rattle.std.proofs.Common.{◌≡◌, ◌∙◌, ℕ, suc, ◌+◌, ◌/◌, ◌%◌, ◌<◌, ◌≤◌, List, [], ◌∷◌, length, map, All, refl, ap, arith}
use Rattle.std.specs.Prelude.{sum_by}
use Rattle.std.specs.List.{range_with_len}
use Rattle.std.specs.List.Sorted.{IsStrictlySortedBy}
use Rattle.std.proofs.Math.Nat.{mod-lt}
use Rattle.std.proofs.lemmas.List.Elements.{All-cons, All-nil, All-map}
use Rattle.std.proofs.lemmas.List.Sums.{sum_by-cons}
use Rattle.std.proofs.lemmas.List.FromFn.{length-map-range_with_len, length-range_with_len}
use Rattle.arc_num.specs.declared.TheConstants.{MAX_ITEMS, MAX_VALUE}
use Rattle.packing_laws.specs.declared.instances.Item.{Item}
use Rattle.packing_laws.specs.Instances.{IsVector, IsForm, IsItem, IsBinType, IsInstance}
use Rattle.workload.specs.Generated.{weight_of, item_of, drawn, state_at, generated_item, generated_value}

vector_of_one : (x : ℕ) → x ≤ MAX_VALUE → IsVector 1 (x ∷ [])
vector_of_one x small = record { size = refl; small = All-cons (λ y. y ≤ MAX_VALUE) x [] small (All-nil (λ y. y ≤ MAX_VALUE)) }

form_of_one : (x : ℕ) → 0 < x → x ≤ MAX_VALUE → IsForm 1 (x ∷ [])
form_of_one x weighs small = record { vector = vector_of_one x small; weighs = (0, x, omega arith, refl, weighs) }

is_item : (v : ℕ) → IsItem 1 (item_of v)
is_item v =
    let weight : v % 4501 < 4501 = mod-lt v (omega arith) in
    let demand : v / 4501 % 40 < 40 = mod-lt (v / 4501) (omega arith) in
    record {
      demand = omega (arith, demand);
      form_count = (omega arith, omega arith);
      forms = All-cons (IsForm 1) (weight_of v ∷ []) [] (form_of_one (weight_of v) (omega arith) (omega (arith, weight))) (All-nil (IsForm 1));
    }

each_is : (P : Item → Type 0) → ((v : ℕ) → P (item_of v)) → (seed : ℕ) (ks : List ℕ) → All (λ i. P (generated_item seed i)) ks
each_is P holds seed [] = All-nil (λ i. P (generated_item seed i))
each_is P holds seed (k ∷ ks) = All-cons (λ i. P (generated_item seed i)) k ks (holds (drawn (state_at seed k))) (each_is P holds seed ks)

-- each has one form
forms_counted : (seed : ℕ) (ks : List ℕ) → sum_by (λ x. length x.forms) (map (generated_item seed) ks) ≡ length ks
forms_counted seed [] = refl
forms_counted seed (k ∷ ks) = sum_by-cons (λ (x : Item). length x.forms) (generated_item seed k) (map (generated_item seed) ks) ∙ (ap (λ (n : ℕ). 1 + n) (forms_counted seed ks) ∙ one_more (length ks))
  where
    one_more : (n : ℕ) → 1 + n ≡ suc n
    one_more n = omega arith

pub is_instance : (seed size : ℕ) → size ≤ MAX_ITEMS → IsInstance (generated_value seed size)
unfolding IsStrictlySortedBy
is_instance seed size few =
    let ks = range_with_len 1 size in
    let items = map (generated_item seed) ks in
    let count : length items ≡ size = length-map-range_with_len (generated_item seed) 1 size in
    let forms = forms_counted seed ks in
    record {
      dims = (omega arith, omega arith);
      type_count = (omega arith, omega arith);
      types = All-cons (IsBinType 1) _ [] (record { capacity = vector_of_one 10000 (omega arith); cost = omega arith; limit = tt }) (All-nil (IsBinType 1));
      item_count = omega (arith, few, count);
      items = All-map (IsItem 1) (generated_item seed) ks (each_is (IsItem 1) is_item seed ks);
      form_count = omega (arith, forms, length-range_with_len 1 size, few);
      caps = record { room = omega arith; each = All-nil _; order = tt };
    }

-- A type and an item are read exactly where their tokens spell their rows.
use Rattle.std.proofs.Common.{◌≡◌, ℕ, ◌+◌, ◌≤◌, false, cond, List, [], ◌∷◌, ◌++◌, length, Option, Result, Ok, Err, refl, sym, ap, ◌∙◌, subst, append_assoc, append-nil, arith}
use Rattle.std.specs.Prelude.{nat_lt}
use Rattle.std.specs.List.{All, flat_map}
use Rattle.std.proofs.lemmas.List.Sums.{sum_by-append, sum_by-cons}
use Rattle.std.proofs.lemmas.List.Elements.{All-nil, All-cons, All-head, All-tail}
use Rattle.arc_num.specs.declared.TheConstants.{MAX_VALUE, MAX_DEMAND, MAX_FORMS, MAX_ALL_FORMS}
use Rattle.packing_laws.specs.declared.fault.ReadFault.{ReadFault}
use Rattle.packing_laws.specs.declared.fault.ReadFault.TheVariants.{Total}
use Rattle.packing_laws.specs.declared.instances.BinType.{BinType}
use Rattle.packing_laws.specs.declared.instances.Item.{Item}
use Rattle.packing_laws.specs.Instances.{IsItem, IsForm, IsBinType}
use Rattle.packing_laws.specs.Places.{Place, ◌>>=◌, next_number, next_limit, next_vector, several}
use Rattle.packing_laws.specs.Layouts.{Number, limit_field, forms_of, vector_row, item_row, type_row, next_form_count, form_behind, next_item, item_behind, next_type, type_behind}
use Rattle.layout_walk.proofs.Rows.{Passes, Passes-join, Passes-split, IsExact, EachLawful, several-exact, each-All, All-each, chosen, read_both, both_read, same_value, same_place}
use Rattle.layout_walk.proofs.Numerals.{number-exact, limit-exact, vector-exact, form-exact}
use Rattle.mvp_reader.proofs.Steps.{forms_of-push}

abbrev pub type_of : List ℕ → ℕ → Option ℕ → BinType
type_of cap cost limit = record { cap = cap; cost = cost; limit = limit }

abbrev pub after_cost : List ℕ → ℕ × Place → Result (BinType × Place) ReadFault
after_cost cap cost = next_limit cost.1 >>= (λ limit. Ok (type_of cap cost.0 limit.0, limit.1))

abbrev pub after_capacity : List ℕ × Place → Result (BinType × Place) ReadFault
after_capacity cap = next_number 0 MAX_VALUE cap.1 >>= after_cost cap.0

type_sound : (n : ℕ) (p : Place) (x : BinType) (q : Place) → next_type n p ≡ Ok (x, q) → IsBinType n x × Passes p (type_row x) q
unfolding next_type
type_sound n p x q h =
    let a = read_both (next_vector n p) after_capacity (x, q) h in
    let cap = a.0 in
    let b = read_both (next_number 0 MAX_VALUE cap.1) (after_cost cap.0) (x, q) a.1.1 in
    let cost = b.0 in
    let d = read_both (next_limit cost.1) (λ (limit : Option ℕ × Place). Ok (type_of cap.0 cost.0 limit.0, limit.1)) (x, q) b.1.1 in
    let limit = d.0 in
    let made = type_of cap.0 cost.0 limit.0 in
    let value = same_value (Ok (made, limit.1)) made x limit.1 q refl d.1.1 in
    let place = same_place (Ok (made, limit.1)) made x limit.1 q refl d.1.1 in
    let cap_part = (vector-exact n).sound p cap.0 cap.1 a.1.0 in
    let cost_part = (number-exact 0 MAX_VALUE).sound cap.1 cost.0 cost.1 b.1.0 in
    let limit_part = limit-exact.sound cost.1 limit.0 limit.1 d.1.0 in
    let lawful : IsBinType n made = record { capacity = cap_part.0; cost = cost_part.0.1; limit = limit_part.0 } in
    let tail = Passes-join cap.1 (Number cost.0 ∷ []) (limit_field limit.0 ∷ []) cost.1 limit.1 cost_part.1 limit_part.1 in
    let passed = Passes-join p (vector_row cap.0) (Number cost.0 ∷ limit_field limit.0 ∷ []) cap.1 limit.1 cap_part.1 tail in
    subst (λ (z : BinType). IsBinType n z × Passes p (type_row z) q) value (lawful, subst (λ (z : Place). Passes p (type_row made) z) place passed)

type_complete : (n : ℕ) (p : Place) (x : BinType) (q : Place) → IsBinType n x → Passes p (type_row x) q → next_type n p ≡ Ok (x, q)
unfolding next_type
type_complete n p x q l h =
    let a = Passes-split p (vector_row x.cap) (Number x.cost ∷ limit_field x.limit ∷ []) q h in
    let b = Passes-split a.0 (Number x.cost ∷ []) (limit_field x.limit ∷ []) q a.1.1 in
    let cap = (vector-exact n).complete p x.cap a.0 l.capacity a.1.0 in
    let cost = (number-exact 0 MAX_VALUE).complete a.0 x.cost b.0 (omega arith, l.cost) b.1.0 in
    let limit = limit-exact.complete b.0 x.limit q l.limit b.1.1 in
    both_read (next_vector n p) after_capacity (x.cap, a.0) (x, q) cap
    (both_read (next_number 0 MAX_VALUE a.0) (after_cost x.cap) (x.cost, b.0) (x, q) cost
    (both_read (next_limit b.0) (λ (limit : Option ℕ × Place). Ok (type_of x.cap x.cost limit.0, limit.1)) (x.limit, q) (x, q) limit refl))

pub type-exact : (n : ℕ) → IsExact (next_type n) type_row (IsBinType n)
type-exact n = record {
  sound = λ p x q h. type_sound n p x q h;
  complete = λ p x q l h. type_complete n p x q l h;
}

pub types-exact : (n count : ℕ) → IsExact (several count (type_behind n) []) (flat_map type_row) (λ (ts : List BinType). (length ts ≡ count) × EachLawful (λ (_ : List BinType) (t : BinType). IsBinType n t) [] ts)
types-exact n count = several-exact (type_behind n) type_row (λ (_ : List BinType) (t : BinType). IsBinType n t) (λ _. type-exact n) count

-- how many forms an item may have behind those of the items before it
abbrev pub IsFormCount : ℕ → ℕ → Type 0
IsFormCount before n = ((1 ≤ n) × (n ≤ MAX_FORMS)) × (before + n ≤ MAX_ALL_FORMS)

abbrev pub after_count : ℕ → ℕ × Place → Result (ℕ × Place) ReadFault
after_count before n = cond (nat_lt MAX_ALL_FORMS (before + n.0)) (Err (Total n.1.count)) (Ok n)

within : (n : ℕ) → nat_lt MAX_ALL_FORMS n ≡ false → n ≤ MAX_ALL_FORMS
within n h = grind arith

not_over : (n : ℕ) → n ≤ MAX_ALL_FORMS → nat_lt MAX_ALL_FORMS n ≡ false
not_over n h = grind arith

pub count-exact : (before : ℕ) → IsExact (next_form_count before) (λ (n : ℕ). Number n ∷ []) (IsFormCount before)
unfolding next_form_count
count-exact before = record {
  sound = λ p x q h.
      let both = read_both (next_number 1 MAX_FORMS p) (after_count before) (x, q) h in
      let n = both.0 in
      let ok = chosen (nat_lt MAX_ALL_FORMS (before + n.0)) (Total n.1.count) n (x, q) both.1.1 in
      let number = (number-exact 1 MAX_FORMS).sound p x q (both.1.0 ∙ ap (λ (z : ℕ × Place). Ok z) ok.1) in
      let few : nat_lt MAX_ALL_FORMS (before + x) ≡ false = subst (λ (z : ℕ × Place). nat_lt MAX_ALL_FORMS (before + z.0) ≡ false) ok.1 ok.0 in
      ((number.0, within (before + x) few), number.1);
  complete = λ p x q l h.
      let number = (number-exact 1 MAX_FORMS).complete p x q l.0 h in
      both_read (next_number 1 MAX_FORMS p) (after_count before) (x, q) (x, q) number (rw (not_over (before + x) l.1) refl);
}

pub forms-exact : (n item count : ℕ) → IsExact (several count (form_behind n item) []) (flat_map vector_row) (λ (vs : List (List ℕ)). (length vs ≡ count) × EachLawful (λ (_ : List (List ℕ)) (v : List ℕ). IsForm n v) [] vs)
forms-exact n item count = several-exact (form_behind n item) vector_row (λ (_ : List (List ℕ)) (v : List ℕ). IsForm n v) (λ vs. form-exact n item (length vs + 1)) count

-- an item behind those with so many forms
abbrev pub IsItemBehind : ℕ → ℕ → Item → Type 0
IsItemBehind n before x = IsItem n x × (before + length x.forms ≤ MAX_ALL_FORMS)

abbrev pub item_of : ℕ → List (List ℕ) → Item
item_of b vs = record { demand = b; forms = vs }

abbrev pub after_demand : ℕ → ℕ → ℕ → ℕ × Place → Result (Item × Place) ReadFault
after_demand n item count b = several count (form_behind n item) [] b.1 >>= (λ vs. Ok (item_of b.0 vs.0, vs.1))

abbrev pub after_forms : ℕ → ℕ → ℕ × Place → Result (Item × Place) ReadFault
after_forms n item count = next_number 0 MAX_DEMAND count.1 >>= after_demand n item count.0

item_sound : (n item before : ℕ) (p : Place) (x : Item) (q : Place) → next_item n item before p ≡ Ok (x, q) → IsItemBehind n before x × Passes p (item_row x) q
unfolding next_item
item_sound n item before p x q h =
    let a = read_both (next_form_count before p) (after_forms n item) (x, q) h in
    let count = a.0 in
    let d = read_both (next_number 0 MAX_DEMAND count.1) (after_demand n item count.0) (x, q) a.1.1 in
    let b = d.0 in
    let e = read_both (several count.0 (form_behind n item) [] b.1) (λ (vs : List (List ℕ) × Place). Ok (item_of b.0 vs.0, vs.1)) (x, q) d.1.1 in
    let vs = e.0 in
    let made = item_of b.0 vs.0 in
    let value = same_value (Ok (made, vs.1)) made x vs.1 q refl e.1.1 in
    let place = same_place (Ok (made, vs.1)) made x vs.1 q refl e.1.1 in
    let count_part = (count-exact before).sound p count.0 count.1 a.1.0 in
    let b_part = (number-exact 0 MAX_DEMAND).sound count.1 b.0 b.1 d.1.0 in
    let vs_part = (forms-exact n item count.0).sound b.1 vs.0 vs.1 e.1.0 in
    let as_many : length vs.0 ≡ count.0 = vs_part.0.0 in
    let lawful : IsItemBehind n before made = (record { demand = b_part.0.1; form_count = subst (λ (z : ℕ). (1 ≤ z) × (z ≤ MAX_FORMS)) (sym as_many) count_part.0.0; forms = each-All (IsForm n) [] vs.0 vs_part.0.1 }, subst (λ (z : ℕ). before + z ≤ MAX_ALL_FORMS) (sym as_many) count_part.0.1) in
    let first = subst (λ (z : ℕ). Passes p (Number z ∷ []) count.1) (sym as_many) count_part.1 in
    let tail = Passes-join count.1 (Number b.0 ∷ []) (flat_map vector_row vs.0) b.1 vs.1 b_part.1 vs_part.1 in
    let passed = Passes-join p (Number (length vs.0) ∷ []) (Number b.0 ∷ flat_map vector_row vs.0) count.1 vs.1 first tail in
    subst (λ (z : Item). IsItemBehind n before z × Passes p (item_row z) q) value (lawful, subst (λ (z : Place). Passes p (item_row made) z) place passed)

item_complete : (n item before : ℕ) (p : Place) (x : Item) (q : Place) → IsItemBehind n before x → Passes p (item_row x) q → next_item n item before p ≡ Ok (x, q)
unfolding next_item
item_complete n item before p x q l h =
    let a = Passes-split p (Number (length x.forms) ∷ []) (Number x.demand ∷ flat_map vector_row x.forms) q h in
    let b = Passes-split a.0 (Number x.demand ∷ []) (flat_map vector_row x.forms) q a.1.1 in
    let count = (count-exact before).complete p (length x.forms) a.0 (l.0.form_count, l.1) a.1.0 in
    let demand = (number-exact 0 MAX_DEMAND).complete a.0 x.demand b.0 (omega arith, l.0.demand) b.1.0 in
    let forms = (forms-exact n item (length x.forms)).complete b.0 x.forms q (refl, All-each (IsForm n) [] x.forms l.0.forms) b.1.1 in
    both_read (next_form_count before p) (after_forms n item) (length x.forms, a.0) (x, q) count
    (both_read (next_number 0 MAX_DEMAND a.0) (after_demand n item (length x.forms)) (x.demand, b.0) (x, q) demand
    (both_read (several (length x.forms) (form_behind n item) [] b.0) (λ (vs : List (List ℕ) × Place). Ok (item_of x.demand vs.0, vs.1)) (x.forms, q) (x, q) forms refl))

pub item-exact : (n item before : ℕ) → IsExact (next_item n item before) item_row (IsItemBehind n before)
item-exact n item before = record {
  sound = λ p x q h. item_sound n item before p x q h;
  complete = λ p x q l h. item_complete n item before p x q l h;
}

-- the same behind these items
abbrev pub LawfulBehind : ℕ → List Item → Item → Type 0
LawfulBehind n xs x = IsItemBehind n (forms_of xs) x

pub items-exact : (n : ℕ) (xs : List Item) → IsExact (item_behind n xs) item_row (LawfulBehind n xs)
items-exact n xs = item-exact n (length xs + 1) (forms_of xs)

-- items that are lawful in view of those before them are lawful together
together : (n : ℕ) (xs ys : List Item) → forms_of xs ≤ MAX_ALL_FORMS → EachLawful (LawfulBehind n) xs ys → All (IsItem n) ys × (forms_of (xs ++ ys) ≤ MAX_ALL_FORMS)
together n xs [] few h = (All-nil (IsItem n), subst (λ (z : List Item). forms_of z ≤ MAX_ALL_FORMS) (sym (append-nil xs)) few)
together n xs (y ∷ ys) few h =
    let more : forms_of (xs ++ y ∷ []) ≤ MAX_ALL_FORMS = rw (forms_of-push xs y) h.0.1 in
    let rest = together n (xs ++ y ∷ []) ys more h.1 in
    (All-cons (IsItem n) y ys h.0.0 rest.0, subst (λ (z : List Item). forms_of z ≤ MAX_ALL_FORMS) (append_assoc xs (y ∷ []) ys) rest.1)

each_behind : (n : ℕ) (xs ys : List Item) → All (IsItem n) ys → forms_of (xs ++ ys) ≤ MAX_ALL_FORMS → EachLawful (LawfulBehind n) xs ys
each_behind n xs [] h few = tt
each_behind n xs (y ∷ ys) h few =
    let whole : forms_of (xs ++ y ∷ ys) ≡ forms_of xs + (length y.forms + forms_of ys) = rw (sum_by-append (λ (x : Item). length x.forms) xs (y ∷ ys), sum_by-cons (λ (x : Item). length x.forms) y ys) refl in
    let part : forms_of xs + length y.forms ≤ MAX_ALL_FORMS = omega arith in
    ((All-head (IsItem n) y ys h, part), each_behind n (xs ++ y ∷ []) ys (All-tail (IsItem n) y ys h) (subst (λ (z : List Item). forms_of z ≤ MAX_ALL_FORMS) (sym (append_assoc xs (y ∷ []) ys)) few))

pub all_together : (n : ℕ) (xs : List Item) → EachLawful (LawfulBehind n) [] xs → All (IsItem n) xs × (forms_of xs ≤ MAX_ALL_FORMS)
all_together n xs h = together n [] xs (omega arith) h

pub all_behind : (n : ℕ) (xs : List Item) → All (IsItem n) xs → forms_of xs ≤ MAX_ALL_FORMS → EachLawful (LawfulBehind n) [] xs
all_behind n xs h few = each_behind n [] xs h few

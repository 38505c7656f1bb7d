-- A number, a limit, a vector and a form are read exactly where their tokens spell them.
use Rattle.std.proofs.Common.{zero, suc, ◌≡◌, ℕ, ◌<◌, ◌≤◌, Bool, true, false, cond, List, [], ◌∷◌, length, Option, Some, None, Result, Ok, Err, refl, sym, ap, ◌∙◌, subst, arith}
use Rattle.std.specs.Prelude.{codes, ◌==◌, Any}
use Rattle.std.specs.Str.{bytes_eq}
use Rattle.std.specs.List.{flat_map, list_all}
use Rattle.std.specs.Cmp.Lexicographic.{same_text}
use Rattle.std.proofs.lemmas.List.Elements.{All-weaker}
use Rattle.std.proofs.lemmas.List.Concat.{flat_map_single}
use Rattle.std.proofs.lemmas.List.Folds.{list_all_at}
use Rattle.arc_num.specs.declared.TheConstants.{MAX_VALUE}
use Rattle.arc_num.specs.Decimals.{are_digits}
use Rattle.packing_laws.specs.declared.fault.ReadFault.{ReadFault}
use Rattle.packing_laws.specs.declared.fault.ReadFault.TheVariants.{ZeroWeight}
use Rattle.packing_laws.specs.Instances.{IsLimit, IsVector, IsForm}
use Rattle.packing_laws.specs.Places.{Place, ◌>>=◌, value_in, limit_in, next_number, next_limit, component_behind, next_vector, next_form}
use Rattle.packing_laws.specs.Layouts.{Number, SpellsField, vector_row, limit_field}
use Rattle.layout_walk.proofs.Rows.{IsExact, EachLawful, token-exact, several-exact, exact-same, each-All, All-each, chosen, read_both, both_read}

value_means : (low high k : ℕ) (t : List ℕ) (x : ℕ) → value_in low high k t ≡ Ok x → ((low ≤ x) × (x ≤ high)) × SpellsField t (Number x)
value_means low high k t x h = grind arith

value_meant : (low high k : ℕ) (t : List ℕ) (x : ℕ) → (low ≤ x) × (x ≤ high) → SpellsField t (Number x) → value_in low high k t ≡ Ok x
value_meant low high k t x l h = grind arith

pub number-exact : (low high : ℕ) → IsExact (next_number low high) (λ (x : ℕ). Number x ∷ []) (λ (x : ℕ). (low ≤ x) × (x ≤ high))
unfolding next_number
number-exact low high = token-exact (value_in low high) (λ (x : ℕ). Number x) (λ (x : ℕ). (low ≤ x) × (x ≤ high)) (value_means low high) (value_meant low high)

-- a limit that is read is none where the token is -1, and else a number
none_read : (b : Bool) (r : Result ℕ ReadFault) → cond b (Ok None) (r >>= (λ v. Ok (Some v))) ≡ Ok None → b ≡ true
none_read true r h = refl
none_read false (Ok v) h = absurd (cc)
none_read false (Err e) h = absurd (cc)

some_read : (b : Bool) (r : Result ℕ ReadFault) (v : ℕ) → cond b (Ok None) (r >>= (λ v. Ok (Some v))) ≡ Ok (Some v) → (b ≡ false) × (r ≡ Ok v)
some_read true r v h = absurd (cc)
some_read false (Ok w) v h = (refl, cc)
some_read false (Err e) v h = absurd (cc)

limit_means : (k : ℕ) (t : List ℕ) (x : Option ℕ) → limit_in k t ≡ Ok x → IsLimit x × SpellsField t (limit_field x)
limit_means k t None h = (tt, same_text t (codes "-1") (sym (none_read (bytes_eq t (codes "-1")) (value_in 0 MAX_VALUE k t) h)))
limit_means k t (Some v) h =
    let some = some_read (bytes_eq t (codes "-1")) (value_in 0 MAX_VALUE k t) v h in
    let value = value_means 0 MAX_VALUE k t v some.1 in
    (value.0.1, value.1)

-- digits are not -1
not_minus_one : (t : List ℕ) (b : Bool) → bytes_eq t (codes "-1") ≡ b → are_digits t ≡ true → b ≡ false
not_minus_one t false e h = refl
not_minus_one t true e h =
    let same : t ≡ codes "-1" = same_text t (codes "-1") (sym e) in
    let digits : false ≡ true = subst (λ (z : List ℕ). are_digits z ≡ true) same h in
    absurd (cc)

limit_meant : (k : ℕ) (t : List ℕ) (x : Option ℕ) → IsLimit x → SpellsField t (limit_field x) → limit_in k t ≡ Ok x
limit_meant k t None l h = subst (λ (z : List ℕ). limit_in k z ≡ Ok None) (sym h) refl
limit_meant k t (Some v) l h =
    let other = not_minus_one t (bytes_eq t (codes "-1")) refl h.0 in
    let value = value_meant 0 MAX_VALUE k t v (omega arith, l) h in
    rw (other, value) refl

pub limit-exact : IsExact next_limit (λ (x : Option ℕ). limit_field x ∷ []) IsLimit
unfolding next_limit
limit-exact = token-exact limit_in limit_field IsLimit limit_means limit_meant

abbrev IsComponent : ℕ → Type 0
IsComponent x = (0 ≤ x) × (x ≤ MAX_VALUE)

to_vector : (n : ℕ) (v : List ℕ) → (length v ≡ n) × EachLawful (λ (_ : List ℕ) (x : ℕ). IsComponent x) [] v → IsVector n v
to_vector n v h = record { size = h.0; small = All-weaker IsComponent (λ (x : ℕ). x ≤ MAX_VALUE) (λ x b. b.1) v (each-All IsComponent [] v h.1) }

from_vector : (n : ℕ) (v : List ℕ) → IsVector n v → (length v ≡ n) × EachLawful (λ (_ : List ℕ) (x : ℕ). IsComponent x) [] v
from_vector n v h = (h.size, All-each IsComponent [] v (All-weaker (λ (x : ℕ). x ≤ MAX_VALUE) IsComponent (λ x b. (omega arith, b)) v h.small))

pub vector-exact : (n : ℕ) → IsExact (next_vector n) vector_row (IsVector n)
unfolding next_vector
vector-exact n =
    exact-same (next_vector n) (flat_map (λ (x : ℕ). Number x ∷ [])) vector_row (λ (v : List ℕ). (length v ≡ n) × EachLawful (λ (_ : List ℕ) (x : ℕ). IsComponent x) [] v) (IsVector n) (flat_map_single (λ (x : ℕ). Number x)) (to_vector n) (from_vector n)
    (several-exact component_behind (λ (x : ℕ). Number x ∷ []) (λ (_ : List ℕ) (x : ℕ). IsComponent x) (λ _. number-exact 0 MAX_VALUE) n)

-- not all numbers are 0
weighs : (v : List ℕ) → list_all (λ x. x == 0) v ≡ false → Any (λ x. 0 < x) v
weighs [] h = absurd (cc)
weighs (zero ∷ xs) h = let a = weighs xs h in (suc a.0, a.1, omega arith, a.3, a.4)
weighs (suc x ∷ xs) h = (0, suc x, omega arith, refl, omega arith)

positive : (x : ℕ) → 0 < x → (x == 0) ≡ false
positive x h = grind arith

weighing : (v : List ℕ) → Any (λ x. 0 < x) v → list_all (λ x. x == 0) v ≡ false
weighing v a = list_all_at (λ (x : ℕ). x == 0) v a.0 a.1 a.2 (subst (λ (y : ℕ). (y == 0) ≡ false) (sym a.3) (positive a.1 a.4))

pub form-exact : (n item form : ℕ) → IsExact (next_form n item form) vector_row (IsForm n)
unfolding next_form
form-exact n item form = record {
  sound = λ p x q h.
      let both = read_both (next_vector n p) (λ (v : List ℕ × Place). cond (list_all (λ x. x == 0) v.0) (Err (ZeroWeight v.1.count item form)) (Ok v)) (x, q) h in
      let v = both.0 in
      let ok = chosen (list_all (λ x. x == 0) v.0) (ZeroWeight v.1.count item form) v (x, q) both.1.1 in
      let vector = (vector-exact n).sound p x q (both.1.0 ∙ ap (λ (z : List ℕ × Place). Ok z) ok.1) in
      let weight : list_all (λ x. x == 0) x ≡ false = subst (λ (z : List ℕ × Place). list_all (λ x. x == 0) z.0 ≡ false) ok.1 ok.0 in
      (record { vector = vector.0; weighs = weighs x weight }, vector.1);
  complete = λ p x q l h.
      let vector = (vector-exact n).complete p x q l.vector h in
      both_read (next_vector n p) (λ (v : List ℕ × Place). cond (list_all (λ x. x == 0) v.0) (Err (ZeroWeight v.1.count item form)) (Ok v)) (x, q) (x, q) vector (rw (weighing x l.weighs) refl);
}

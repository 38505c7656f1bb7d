-- The graph of the worked model is faithful.
use Rattle.std.proofs.Common.{◌≡◌, ◌⊎◌, ℕ, zero, suc, ◌+◌, ◌*◌, ◌-◌, ◌<◌, ◌≤◌, Bool, true, false, cond, ◌==◌, List, [], ◌∷◌, length, get_or, refl, sym, ap, ◌∙◌, subst, inl, inr, ⊎_elim, arith, All}
use Rattle.std.specs.Prelude.{Contains, slice_index, ◌&&◌}
use Rattle.std.proofs.lemmas.Bool.{cases_lt}
use Rattle.std.proofs.lemmas.List.Sums.{sum_by-cons}
use Rattle.std.proofs.lemmas.List.Elements.{All-nil, All-cons, All-head, All-tail, All-weaker}
use Rattle.packing_laws.specs.declared.packings.Count.{Count}
use Rattle.packing_laws.specs.Instances.{IsAmong, item_at, form_at}
use Rattle.packing_laws.specs.declared.instances.ItemCap.{ItemCap}
use Rattle.packing_laws.specs.Packings.{Content, Exists, Fits, IsWithin, count_of_item, count_of_form, weight_in}
use Rattle.packing_laws.specs.Printed.{SameContent, units_in}
use Rattle.flow_graph.specs.declared.parts.TypeArc.{TypeArc}
use Rattle.flow_graph.specs.Faithful.{IsPath, IsTypePath, IsFaithful, GraphOf, content_of}
use Rattle.flow_graph.specs.Worked.{up_to_two}
use Rattle.flow_model.specs.Worked.{three_of_one, its_graph}
use Rattle.pattern_extract.specs.Worked.{two_units}

abbrev first : TypeArc
first = record { tail = 1; head = 2; item = 1; form = 1 }

abbrev skip : TypeArc
skip = record { tail = 1; head = 3; item = 0; form = 0 }

abbrev loss : TypeArc
loss = record { tail = 2; head = 3; item = 0; form = 0 }

abbrev second : TypeArc
second = record { tail = 2; head = 3; item = 1; form = 1 }

abbrev unit : Count
unit = record { item = 1; form = 1; count = 1 }

-- an arc is one of the four
data IsOne (e : TypeArc) : Type 0 where
  is_first : first ≡ e → IsOne e
  is_skip : skip ≡ e → IsOne e
  is_loss : loss ≡ e → IsOne e
  is_second : second ≡ e → IsOne e

one_at : (e : TypeArc) (k : ℕ) → k < 4 → get_or up_to_two.arcs k e ≡ e → IsOne e
one_at e zero within is = is_first is
one_at e (suc zero) within is = is_skip is
one_at e (suc (suc zero)) within is = is_loss is
one_at e (suc (suc (suc zero))) within is = is_second is
one_at e (suc (suc (suc (suc k)))) within is = absurd (omega (arith, within))

one_of : (e : TypeArc) → Contains up_to_two.arcs e → IsOne e
one_of e has = one_at e has.0 has.1 has.2

-- no arc goes on from the target
from_three : (path : List TypeArc) → IsPath up_to_two.arcs 3 3 path → content_of path ≡ []
from_three [] leads = refl
from_three (e ∷ path) leads = none (one_of e leads.0) leads.1 where
  none : IsOne e → e.tail ≡ 3 → content_of (e ∷ path) ≡ []
  none (is_first is) tail = let bad : 1 ≡ e.tail = ap (λ (x : TypeArc). x.tail) is in absurd (omega (arith, bad, tail))
  none (is_skip is) tail = let bad : 1 ≡ e.tail = ap (λ (x : TypeArc). x.tail) is in absurd (omega (arith, bad, tail))
  none (is_loss is) tail = let bad : 2 ≡ e.tail = ap (λ (x : TypeArc). x.tail) is in absurd (omega (arith, bad, tail))
  none (is_second is) tail = let bad : 2 ≡ e.tail = ap (λ (x : TypeArc). x.tail) is in absurd (omega (arith, bad, tail))

-- from the second node with a unit, or with none
from_two : (path : List TypeArc) → IsPath up_to_two.arcs 2 3 path → (content_of path ≡ []) ⊎ (content_of path ≡ unit ∷ [])
from_two [] leads = absurd (omega (arith, leads))
from_two (e ∷ path) leads = go (one_of e leads.0) leads.1 leads.2 where
  go : IsOne e → e.tail ≡ 2 → IsPath up_to_two.arcs e.head 3 path → (content_of (e ∷ path) ≡ []) ⊎ (content_of (e ∷ path) ≡ unit ∷ [])
  go (is_first is) tail rest = let bad : 1 ≡ e.tail = ap (λ (x : TypeArc). x.tail) is in absurd (omega (arith, bad, tail))
  go (is_skip is) tail rest = let bad : 1 ≡ e.tail = ap (λ (x : TypeArc). x.tail) is in absurd (omega (arith, bad, tail))
  go (is_loss is) tail rest = inl (ap (λ (x : TypeArc). content_of (x ∷ path)) (sym is) ∙ from_three path (subst (λ (x : TypeArc). IsPath up_to_two.arcs x.head 3 path) (sym is) rest))
  go (is_second is) tail rest = inr (ap (λ (x : TypeArc). content_of (x ∷ path)) (sym is) ∙ ap (λ (c : Content). unit ∷ c) (from_three path (subst (λ (x : TypeArc). IsPath up_to_two.arcs x.head 3 path) (sym is) rest)))

-- a path carries no unit, one or two
data IsFew (c : Content) : Type 0 where
  none : c ≡ [] → IsFew c
  one : c ≡ unit ∷ [] → IsFew c
  two : c ≡ two_units → IsFew c

from_one : (path : List TypeArc) → IsPath up_to_two.arcs 1 3 path → IsFew (content_of path)
from_one [] leads = absurd (omega (arith, leads))
from_one (e ∷ path) leads = go (one_of e leads.0) leads.1 leads.2 where
  go : IsOne e → e.tail ≡ 1 → IsPath up_to_two.arcs e.head 3 path → IsFew (content_of (e ∷ path))
  go (is_first is) tail rest =
      let here : content_of (e ∷ path) ≡ unit ∷ content_of path = ap (λ (x : TypeArc). content_of (x ∷ path)) (sym is) in
      ⊎_elim
      (λ empty. one (here ∙ ap (λ (c : Content). unit ∷ c) empty))
      (λ more. two (here ∙ ap (λ (c : Content). unit ∷ c) more))
      (from_two path (subst (λ (x : TypeArc). IsPath up_to_two.arcs x.head 3 path) (sym is) rest))
  go (is_skip is) tail rest = none (ap (λ (x : TypeArc). content_of (x ∷ path)) (sym is) ∙ from_three path (subst (λ (x : TypeArc). IsPath up_to_two.arcs x.head 3 path) (sym is) rest))
  go (is_loss is) tail rest = let bad : 2 ≡ e.tail = ap (λ (x : TypeArc). x.tail) is in absurd (omega (arith, bad, tail))
  go (is_second is) tail rest = let bad : 2 ≡ e.tail = ap (λ (x : TypeArc). x.tail) is in absurd (omega (arith, bad, tail))

-- a count of the one form
abbrev IsOnly : Count → Type 0
IsOnly n = (n.item ≡ 1) × (n.form ≡ 1)

only-exists : (n : Count) → IsOnly n → Exists three_of_one n
only-exists n only = record {
  item = subst (λ (i : ℕ). IsAmong i 1) (sym only.0) (omega arith, omega arith);
  form = subst (λ (i : ℕ). IsAmong n.form (length (item_at three_of_one i).forms)) (sym only.0) (subst (λ (f : ℕ). IsAmong f 1) (sym only.1) (omega arith, omega arith));
}

exists-only : (n : Count) → Exists three_of_one n → IsOnly n
exists-only n exists =
    let item : n.item ≡ 1 = let a = exists.item in omega (arith, a.0, a.1) in
    let form : IsAmong n.form 1 = subst (λ (i : ℕ). IsAmong n.form (length (item_at three_of_one i).forms)) item exists.form in
    (item, omega (arith, form.0, form.1))

unit-weight : (n : Count) → IsOnly n → slice_index (form_at three_of_one n.item n.form) 0 ≡ 1
unit-weight n only = ap (λ (i : ℕ). slice_index (form_at three_of_one i n.form) 0) only.0 ∙ ap (λ (f : ℕ). slice_index (form_at three_of_one 1 f) 0) only.1

only-weight : (c : Content) → All IsOnly c → weight_in three_of_one 1 c ≡ units_in c
only-weight [] all = refl
only-weight (n ∷ c) all =
    let rest = only-weight c (All-tail IsOnly n c all) in
    let here : n.count * slice_index (form_at three_of_one n.item n.form) 0 ≡ n.count * 1 = ap (λ (w : ℕ). n.count * w) (unit-weight n (All-head IsOnly n c all)) in
    let left = sum_by-cons (λ (m : Count). m.count * slice_index (form_at three_of_one m.item m.form) 0) n c in
    let right = sum_by-cons (λ (m : Count). m.count) n c in
    omega (arith, rest, here, left, right)

either : (b : Bool) (x y : ℕ) → cond b x 0 + cond b y 0 ≡ cond b (x + y) 0
either true x y = refl
either false x y = refl

only-count : (i f : ℕ) (c : Content) → All IsOnly c → count_of_form i f c ≡ cond ((1 == i) && (1 == f)) (units_in c) 0
only-count i f [] all = empty ((1 == i) && (1 == f)) where
  empty : (b : Bool) → ◌≡◌ {A = ℕ} 0 (cond b 0 0)
  empty true = refl
  empty false = refl
only-count i f (n ∷ c) all =
    let rest = only-count i f c (All-tail IsOnly n c all) in
    let only = All-head IsOnly n c all in
    let here : cond {A = ℕ} ((n.item == i) && (n.form == f)) n.count 0 ≡ cond ((1 == i) && (1 == f)) n.count 0 =
    ap (λ (x : ℕ). cond {A = ℕ} ((x == i) && (n.form == f)) n.count 0) only.0 ∙ ap (λ (x : ℕ). cond {A = ℕ} ((1 == i) && (x == f)) n.count 0) only.1 in
    let left = sum_by-cons (λ (m : Count). cond ((m.item == i) && (m.form == f)) m.count 0) n c in
    let right : cond {A = ℕ} ((1 == i) && (1 == f)) (units_in (n ∷ c)) 0 ≡ cond ((1 == i) && (1 == f)) (n.count + units_in c) 0 = ap (λ (x : ℕ). cond {A = ℕ} ((1 == i) && (1 == f)) x 0) (sum_by-cons (λ (m : Count). m.count) n c) in
    let both = either ((1 == i) && (1 == f)) n.count (units_in c) in
    omega (arith, rest, here, left, right, both)

-- contents of as many units are the same
same-units : (c d : Content) → All IsOnly c → All IsOnly d → units_in c ≡ units_in d → SameContent c d
same-units c d own other same i f = only-count i f c own ∙ ap (λ (x : ℕ). cond {A = ℕ} ((1 == i) && (1 == f)) x 0) same ∙ sym (only-count i f d other)

few-fits : (c : Content) → All IsOnly c → units_in c ≤ 2 → Fits three_of_one 1 c
few-fits c all few = record {
  bin_type = (omega arith, omega arith);
  exists = All-weaker IsOnly (Exists three_of_one) only-exists c all;
  weight = λ d among.
      let e : 1 ≡ d = omega (arith, among.0, among.1) in
      let weight = only-weight c all in
      subst (λ (d : ℕ). weight_in three_of_one d c ≤ slice_index (2 ∷ []) (d - 1)) e (omega (arith, weight, few));
  caps = All-nil (λ (k : ItemCap). count_of_item k.item c ≤ k.count);
}

no_unit : All IsOnly []
no_unit = All-nil IsOnly

one_unit : All IsOnly (unit ∷ [])
one_unit = All-cons IsOnly unit [] (refl, refl) no_unit

both_units : All IsOnly two_units
both_units = All-cons IsOnly unit (unit ∷ []) (refl, refl) one_unit

path-fits : (path : List TypeArc) → IsTypePath its_graph 1 path → Fits three_of_one 1 (content_of path)
path-fits path leads = go (from_one path leads) where
  go : IsFew (content_of path) → Fits three_of_one 1 (content_of path)
  go (none is) = subst (Fits three_of_one 1) (sym is) (few-fits [] no_unit (omega arith))
  go (one is) = subst (Fits three_of_one 1) (sym is) (few-fits (unit ∷ []) one_unit (omega arith))
  go (two is) = subst (Fits three_of_one 1) (sym is) (few-fits two_units both_units (omega arith))

covered : (c : Content) → Fits three_of_one 1 c → IsWithin three_of_one c → (path : List TypeArc) × IsTypePath its_graph 1 path × SameContent (content_of path) c
covered c fits within =
    let all : All IsOnly c = All-weaker (Exists three_of_one) IsOnly exists-only c fits.exists in
    let weight = only-weight c all in
    let most : weight_in three_of_one 1 c ≤ 2 = fits.weight 1 (omega arith, omega arith) in
    ⊎_elim
    (λ zero_units. (skip ∷ [], ((1, omega arith, refl), refl, refl), same-units [] c no_unit all (omega (arith, zero_units))))
    (λ some. ⊎_elim
    (λ one_only. (first ∷ loss ∷ [], ((0, omega arith, refl), refl, ((2, omega arith, refl), refl, refl)), same-units (unit ∷ []) c one_unit all (omega (arith, some, one_only))))
    (λ more. (first ∷ second ∷ [], ((0, omega arith, refl), refl, ((3, omega arith, refl), refl, refl)), same-units two_units c both_units all (omega (arith, more, weight, most))))
    (cases_lt (units_in c) 2))
    (cases_lt (units_in c) 1)

pub faithful : GraphOf three_of_one its_graph → IsFaithful three_of_one its_graph
faithful of = record {
  graph = of;
  fits = λ t among. let e : 1 ≡ t = omega (arith, among.0, among.1) in subst (λ (t : ℕ). (path : List TypeArc) → IsTypePath its_graph t path → Fits three_of_one t (content_of path)) e path-fits;
  covers = λ t among. let e : 1 ≡ t = omega (arith, among.0, among.1) in subst (λ (t : ℕ). (c : Content) → Fits three_of_one t c → IsWithin three_of_one c → (path : List TypeArc) × IsTypePath its_graph t path × SameContent (content_of path) c) e covered;
}

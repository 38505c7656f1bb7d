-- Caps: their order, and contents that keep them.
use Rattle.std.proofs.Common.{zero, suc, ◌≡◌, ℕ, ◌+◌, ◌-◌, ◌*◌, ◌<◌, ◌≤◌, ◌∙◌, ◌↔◌, List, [], ◌∷◌, ◌++◌, length, take, slice_index, Bool, true, false, cond, ◌==◌, nat_lt, IsTrue, All, refl, sym, ap, subst, arith, get_or}
use Rattle.std.specs.List.{AllByRecursion, AllAdjacentBelow, IsAllAdjacentAnswer}
use Rattle.std.specs.List.Sorted.{IsStrictlySortedBy}
use Rattle.std.specs.Ordering.{nat_cmp}
use Rattle.std.specs.Cmp.{nat_cmp_is}
use Rattle.std.specs.declared.cmp.Ordering.TheVariants.{Less, Equal, Greater}
use Rattle.std.proofs.lemmas.Bool.{lt-ltb, ltb-true}
use Rattle.std.proofs.lemmas.Cmp.{ranked, by_ranked}
use Rattle.std.proofs.lemmas.List.{take_all}
use Rattle.std.proofs.lemmas.List.Elements.{All-more}
use Rattle.std.proofs.lemmas.List.Sums.{sum_by-append}
use Rattle.std.proofs.lemmas.Map.Keys.{Less-from_sorted}
use Rattle.packing_laws.specs.declared.instances.ItemCap.{ItemCap}
use Rattle.packing_laws.specs.declared.packings.Count.{Count}
use Rattle.packing_laws.specs.Instances.{InstanceValue, IsInstance, IsAmong, form_at, cap_cmp}
use Rattle.packing_laws.specs.Packings.{Content, KeepsCaps, count_of_item, weight_in}
use Rattle.packing_laws.specs.Printed.{SameContent}
use Rattle.packing_laws.proofs.SameContents.{same-item}

-- the items of caps ascend from each to the next
abbrev Ascend : List ItemCap → Type 0
Ascend caps = AllAdjacentBelow (λ j k. j.item < k.item) caps (length caps)

Ascend-others : (k : ItemCap) (caps : List ItemCap) → Ascend (k ∷ caps) → Ascend caps
Ascend-others k caps adjacent n d within =
    subst (λ m. (get_or caps n d).item < (get_or (k ∷ caps) m d).item) {x = suc n + 1} {y = suc (n + 1)} (omega arith) (adjacent (suc n) d (omega arith))

less-items : (j k : ItemCap) → j.item < k.item → cap_cmp j k ≡ Less
less-items j k below = sym (nat_cmp_is j.item k.item Less below)

items-less : (j k : ItemCap) → cap_cmp j k ≡ Less → j.item < k.item
items-less j k h =
    by_ranked (j.item < k.item) (j.item ≡ k.item) (k.item < j.item) (nat_cmp j.item k.item) (ranked j.item k.item (nat_cmp j.item k.item) refl)
    (λ is lt. lt)
    (λ is same. absurd (let bad : Equal ≡ Less = sym is ∙ h in cc))
    (λ is gt. absurd (let bad : Greater ≡ Less = sym is ∙ h in cc))

-- a cap below the first of ascending ones is below all of them
below-all : (j : ItemCap) (caps : List ItemCap) → (0 < length caps → (d : ItemCap) → j.item < (get_or caps 0 d).item) → Ascend caps → AllByRecursion (λ k. cap_cmp j k ≡ Less) caps
below-all j [] first adjacent = tt
below-all j (k ∷ caps) first adjacent =
    let here : j.item < k.item = first (omega arith) k in (
      less-items j k here,
      below-all j caps (λ some d. let next : k.item < (get_or caps 0 d).item = adjacent 0 d (omega arith) in omega arith) (Ascend-others k caps adjacent),
    )

sorted-caps : (caps : List ItemCap) → Ascend caps → IsStrictlySortedBy cap_cmp caps
unfolding IsStrictlySortedBy
sorted-caps [] adjacent = tt
sorted-caps (k ∷ caps) adjacent =
    (below-all k caps (λ some d. adjacent 0 d (omega arith)) (Ascend-others k caps adjacent), sorted-caps caps (Ascend-others k caps adjacent))

-- the test of each cap and the next answers whether they are in order
pub ascend-answer : (caps : List ItemCap) (r : Bool) → IsAllAdjacentAnswer (λ j k b. b ≡ nat_lt j.item k.item) caps r → IsTrue r ↔ IsStrictlySortedBy cap_cmp caps
ascend-answer caps true answer =
    ((λ _. sorted-caps caps (λ n d within. ltb-true (get_or caps n d).item (get_or caps (n + 1) d).item (sym (answer n d within)))), λ _. refl)
ascend-answer caps false answer =
    let nothing : ItemCap = record { item = 0; count = 0 } in
    let n : ℕ = answer.0 in (
      (λ t. absurd (let bad : false ≡ true = t in cc)),
      (λ sorted.
          let less : (get_or caps n nothing).item < (get_or caps (n + 1) nothing).item = items-less (get_or caps n nothing) (get_or caps (n + 1) nothing) (Less-from_sorted cap_cmp caps n (n + 1) nothing sorted (omega arith) answer.1) in
          answer.2 nothing ∙ lt-ltb (get_or caps n nothing).item (get_or caps (n + 1) nothing).item less),
    )

-- the units of an item in two contents together
pub item-append : (i : ℕ) (c d : Content) → count_of_item i (c ++ d) ≡ count_of_item i c + count_of_item i d
item-append i c d = sum_by-append (λ (n : Count). cond (n.item == i) n.count 0) c d

-- a content with as many of each form keeps the caps too
pub caps-same : (I : InstanceValue) (c d : Content) → SameContent c d → KeepsCaps I c → KeepsCaps I d
caps-same I c d same kept k e within =
    let cap : ItemCap = get_or I.caps k e in
    let most : count_of_item cap.item c ≤ cap.count = kept k e within in
    let also : count_of_item cap.item c ≡ count_of_item cap.item d = same-item cap.item c d same in
    omega arith

-- two contents with as many of each form as two others
pub caps-alike : (I : InstanceValue) (b c e f : Content) → SameContent b e → SameContent c f → KeepsCaps I (e ++ f) → KeepsCaps I (b ++ c)
caps-alike I b c e f one other kept k n within =
    let cap : ItemCap = get_or I.caps k n in
    let most : count_of_item cap.item (e ++ f) ≤ cap.count = kept k n within in
    let first : count_of_item cap.item (b ++ c) ≡ count_of_item cap.item b + count_of_item cap.item c = item-append cap.item b c in
    let second : count_of_item cap.item (e ++ f) ≡ count_of_item cap.item e + count_of_item cap.item f = item-append cap.item e f in
    let same_one : count_of_item cap.item b ≡ count_of_item cap.item e = same-item cap.item b e one in
    let same_other : count_of_item cap.item c ≡ count_of_item cap.item f = same-item cap.item c f other in
    omega arith

-- two contents in the other order
pub caps-swapped : (I : InstanceValue) (c d : Content) → KeepsCaps I (c ++ d) → KeepsCaps I (d ++ c)
caps-swapped I c d kept k n within =
    let cap : ItemCap = get_or I.caps k n in
    let most : count_of_item cap.item (c ++ d) ≤ cap.count = kept k n within in
    let first : count_of_item cap.item (c ++ d) ≡ count_of_item cap.item c + count_of_item cap.item d = item-append cap.item c d in
    let second : count_of_item cap.item (d ++ c) ≡ count_of_item cap.item d + count_of_item cap.item c = item-append cap.item d c in
    omega arith

cond-one : (b : Bool) → cond b 1 0 ≤ 1
cond-one true = omega arith
cond-one false = omega arith

-- one unit keeps all caps
pub caps-unit : (I : InstanceValue) (i f : ℕ) → IsInstance I → KeepsCaps I (record { item = i; form = f; count = 1 } ∷ [])
caps-unit I i f inside k n within =
    let cap : ItemCap = get_or I.caps k n in
    let some : 1 ≤ cap.count = (inside.caps.each k n within).count.0 in
    let one : ◌≤◌ (cond (i == cap.item) 1 0) 1 = cond-one (i == cap.item) in
    omega arith

-- so many units of each item keep the caps
abbrev KeptBy : (ℕ → ℕ) → List ItemCap → Type 0
KeptBy units caps = All (λ k. units k.item ≤ k.count) caps

pub kept-more : (units : ℕ → ℕ) (caps : List ItemCap) (n : ℕ) (d : ItemCap) → n < length caps → KeptBy units (take n caps) → units (get_or caps n d).item ≤ (get_or caps n d).count → KeptBy units (take (n + 1) caps)
kept-more units caps n d within kept next = All-more (λ k. units k.item ≤ k.count) caps n d within kept next

pub kept-all : (units : ℕ → ℕ) (caps : List ItemCap) (n : ℕ) → length caps ≤ n → KeptBy units (take n caps) → KeptBy units caps
kept-all units caps n all kept = subst (KeptBy units) (take_all n caps all) kept

pub not-kept : (units : ℕ → ℕ) (caps : List ItemCap) (n : ℕ) (d : ItemCap) → n < length caps → (get_or caps n d).count < units (get_or caps n d).item → KeptBy units caps → ⊥
not-kept units caps n d within more kept = let most : units (get_or caps n d).item ≤ (get_or caps n d).count = kept n d within in omega arith

-- a content that was tested against the caps
pub kept-caps : (I : InstanceValue) (caps : List ItemCap) (c d : Content) → caps ≡ I.caps → c ≡ d → KeptBy (λ i. count_of_item i c) caps ↔ KeepsCaps I d
kept-caps I caps c d same is =
    ((λ kept. coe 0 1 (k. KeptBy (λ i. count_of_item i (is k)) (same k)) kept), (λ kept. coe 1 0 (k. KeptBy (λ i. count_of_item i (is k)) (same k)) kept))

-- two contents that were tested together
pub kept-together : (I : InstanceValue) (caps : List ItemCap) (b c e f : Content) → caps ≡ I.caps → b ≡ e → c ≡ f → KeptBy (λ i. count_of_item i b + count_of_item i c) caps ↔ KeepsCaps I (e ++ f)
kept-together I caps b c e f same one other =
    let added : (i : ℕ) → count_of_item i b + count_of_item i c ≡ count_of_item i (e ++ f) = λ i. (λ k. count_of_item i (one k) + count_of_item i (other k)) ∙ sym (item-append i e f) in
    ((λ kept. coe 0 1 (k. KeptBy (λ i. added i k) (same k)) kept), (λ kept. coe 1 0 (k. KeptBy (λ i. added i k) (same k)) kept))

-- what two contents weigh together
pub light-together : (I : InstanceValue) (cap room : List ℕ) (b c e f : Content) → cap ≡ room → b ≡ e → c ≡ f → ((d : ℕ) → IsAmong d I.dims → weight_in I d b + weight_in I d c ≤ slice_index cap (d - 1)) → (d : ℕ) → IsAmong d I.dims → weight_in I d (e ++ f) ≤ slice_index room (d - 1)
light-together I cap room b c e f same one other light d among =
    let whole : weight_in I d (e ++ f) ≡ weight_in I d e + weight_in I d f = sum_by-append (λ (n : Count). n.count * slice_index (form_at I n.item n.form) (d - 1)) e f in
    let most : weight_in I d e + weight_in I d f ≤ slice_index room (d - 1) = coe 0 1 (k. weight_in I d (one k) + weight_in I d (other k) ≤ slice_index (same k) (d - 1)) (light d among) in
    omega arith

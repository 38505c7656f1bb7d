-- Sums over arcs in signed numbers, and over the numbers from 1 on.
use Rattle.std.proofs.Common.{◌≡◌, ◌≢◌, ◌⊎◌, ℕ, zero, suc, ◌≤◌, Bool, true, false, cond, List, [], ◌∷◌, length, set, get_or, refl, sym, ap, ◌∙◌, ⊎_elim, arith, ℤ, pos, ◌+ℤ◌, ◌-ℤ◌, ◌*ℤ◌, All, Some}
use Rattle.std.specs.Prelude.{slice_get}
use Rattle.std.proofs.Math.IntN.{zero-*ℤ, *ℤ-zero}
use Rattle.std.proofs.lemmas.Int.{ints}
use Rattle.std.proofs.lemmas.Bool.{cases_eq}
use Rattle.std.proofs.lemmas.List.Elements.{All-head, All-tail}
use Rattle.packing_laws.specs.Instances.{IsAmong}
use Rattle.flow_graph.specs.declared.parts.ArcKind.{ArcKind}
use Rattle.flow_graph.specs.Balance.{weigh_signed}
use Rattle.flow_graph.proofs.SignedProducts.{add_mul, mul_add, sub_mul, one_mul}

-- 1 for the arcs that pass a test
abbrev pub unit_if : (ArcKind → Bool) → ArcKind → ℤ
unit_if test kind = cond (test kind) (pos 1) (pos 0)

pub weigh_both : (f h : ArcKind → ℤ) (kinds : List ArcKind) (values : List ℤ) → weigh_signed (λ kind. f kind +ℤ h kind) kinds values ≡ weigh_signed f kinds values +ℤ weigh_signed h kinds values
weigh_both f h [] values = omega (arith, ints)
weigh_both f h (kind ∷ kinds) [] = omega (arith, ints)
weigh_both f h (kind ∷ kinds) (x ∷ values) =
    let rest = weigh_both f h kinds values in
    let first = add_mul (f kind) (h kind) x in
    omega (arith, ints, rest, first)

pub weigh_less : (f h : ArcKind → ℤ) (kinds : List ArcKind) (values : List ℤ) → weigh_signed (λ kind. f kind -ℤ h kind) kinds values ≡ weigh_signed f kinds values -ℤ weigh_signed h kinds values
weigh_less f h [] values = omega (arith, ints)
weigh_less f h (kind ∷ kinds) [] = omega (arith, ints)
weigh_less f h (kind ∷ kinds) (x ∷ values) =
    let rest = weigh_less f h kinds values in
    let first = sub_mul (f kind) (h kind) x in
    omega (arith, ints, rest, first)

pub weigh_nothing : (kinds : List ArcKind) (values : List ℤ) → weigh_signed (λ kind. pos 0) kinds values ≡ pos 0
weigh_nothing [] values = refl
weigh_nothing (kind ∷ kinds) [] = refl
weigh_nothing (kind ∷ kinds) (x ∷ values) =
    let rest = weigh_nothing kinds values in
    let first = zero-*ℤ x in
    omega (arith, ints, rest, first)

scaled_unit : (b : Bool) (c x : ℤ) → cond b c (pos 0) *ℤ x ≡ c *ℤ (cond b (pos 1) (pos 0) *ℤ x)
scaled_unit true c x = ap (λ z. c *ℤ z) (sym (one_mul x))
scaled_unit false c x = zero-*ℤ x ∙ sym (ap (λ z. c *ℤ z) (zero-*ℤ x) ∙ *ℤ-zero c)

pub weigh_scaled : (test : ArcKind → Bool) (c : ℤ) (kinds : List ArcKind) (values : List ℤ) → weigh_signed (λ kind. cond (test kind) c (pos 0)) kinds values ≡ c *ℤ weigh_signed (unit_if test) kinds values
weigh_scaled test c [] values = sym (*ℤ-zero c)
weigh_scaled test c (kind ∷ kinds) [] = sym (*ℤ-zero c)
weigh_scaled test c (kind ∷ kinds) (x ∷ values) =
    let rest = weigh_scaled test c kinds values in
    let first = scaled_unit (test kind) c x in
    let whole = mul_add c (unit_if test kind *ℤ x) (weigh_signed (unit_if test) kinds values) in
    omega (arith, ints, rest, first, whole)

pub weigh_same : (Q : ArcKind → Type 0) (f h : ArcKind → ℤ) → ((kind : ArcKind) → Q kind → f kind ≡ h kind) → (kinds : List ArcKind) (values : List ℤ) → All Q kinds → weigh_signed f kinds values ≡ weigh_signed h kinds values
weigh_same Q f h each [] values all = refl
weigh_same Q f h each (kind ∷ kinds) [] all = refl
weigh_same Q f h each (kind ∷ kinds) (x ∷ values) all =
    let rest = weigh_same Q f h each kinds values (All-tail Q kind kinds all) in
    let first : f kind *ℤ x ≡ h kind *ℤ x = ap (λ z. z *ℤ x) (each kind (All-head Q kind kinds all)) in
    omega (arith, ints, rest, first)

-- more on one arc
pub weigh_set : (f : ArcKind → ℤ) (kinds : List ArcKind) (values : List ℤ) (i : ℕ) (kind : ArcKind) (d : ℤ) → slice_get kinds i ≡ Some kind → length values ≡ length kinds → weigh_signed f kinds (set values i (get_or values i (pos 0) +ℤ d)) ≡ weigh_signed f kinds values +ℤ f kind *ℤ d
weigh_set f [] values i kind d at size = cc
weigh_set f (k ∷ kinds) [] i kind d at size = absurd (omega (arith, size))
weigh_set f (k ∷ kinds) (x ∷ values) zero kind d at size =
    let same : k ≡ kind = cc in
    let first = mul_add (f k) x d in
    let own : f k *ℤ d ≡ f kind *ℤ d = ap (λ q. f q *ℤ d) same in
    omega (arith, ints, first, own)
weigh_set f (k ∷ kinds) (x ∷ values) (suc i) kind d at size =
    let rest = weigh_set f kinds values i kind d at (omega (arith, size)) in
    omega (arith, ints, rest)

-- the arc counts nothing, or the values are the same on it
abbrev pub AreAlike : ℤ → ℤ → ℤ → Type 0
AreAlike c x y = (c ≡ pos 0) ⊎ (x ≡ y)

alike_products : (c x y : ℤ) → AreAlike c x y → c *ℤ x ≡ c *ℤ y
alike_products c x y alike = ⊎_elim
    (λ none. ap (λ z. z *ℤ x) none ∙ zero-*ℤ x ∙ sym (ap (λ z. z *ℤ y) none ∙ zero-*ℤ y))
    (λ same. ap (λ z. c *ℤ z) same)
    alike

pub weigh_alike : (f : ArcKind → ℤ) (kinds : List ArcKind) (xs ys : List ℤ) → length xs ≡ length kinds → length ys ≡ length kinds → ((i : ℕ) (kind : ArcKind) → slice_get kinds i ≡ Some kind → AreAlike (f kind) (get_or xs i (pos 0)) (get_or ys i (pos 0))) → weigh_signed f kinds xs ≡ weigh_signed f kinds ys
weigh_alike f [] xs ys long far alike = refl
weigh_alike f (k ∷ kinds) [] ys long far alike = absurd (omega (arith, long))
weigh_alike f (k ∷ kinds) (x ∷ xs) [] long far alike = absurd (omega (arith, far))
weigh_alike f (k ∷ kinds) (x ∷ xs) (y ∷ ys) long far alike =
    let rest = weigh_alike f kinds xs ys (omega (arith, long)) (omega (arith, far)) (λ i kind at. alike (suc i) kind at) in
    let first = alike_products (f k) x y (alike zero k refl) in
    omega (arith, ints, rest, first)

-- the sums differ as much as the values of the one arc that is not alike
pub weigh_differ : (f : ArcKind → ℤ) (kinds : List ArcKind) (xs ys : List ℤ) (i : ℕ) (kind : ArcKind) → slice_get kinds i ≡ Some kind → f kind ≡ pos 1 → length xs ≡ length kinds → length ys ≡ length kinds → ((j : ℕ) (other : ArcKind) → slice_get kinds j ≡ Some other → j ≢ i → AreAlike (f other) (get_or xs j (pos 0)) (get_or ys j (pos 0))) → weigh_signed f kinds xs +ℤ get_or ys i (pos 0) ≡ weigh_signed f kinds ys +ℤ get_or xs i (pos 0)
weigh_differ f [] xs ys i kind at one long far alike = cc
weigh_differ f (k ∷ kinds) [] ys i kind at one long far alike = absurd (omega (arith, long))
weigh_differ f (k ∷ kinds) (x ∷ xs) [] i kind at one long far alike = absurd (omega (arith, far))
weigh_differ f (k ∷ kinds) (x ∷ xs) (y ∷ ys) zero kind at one long far alike =
    let same : k ≡ kind = cc in
    let unit : f k ≡ pos 1 = ap f same ∙ one in
    let left : f k *ℤ x ≡ x = ap (λ z. z *ℤ x) unit ∙ one_mul x in
    let right : f k *ℤ y ≡ y = ap (λ z. z *ℤ y) unit ∙ one_mul y in
    let rest = weigh_alike f kinds xs ys (omega (arith, long)) (omega (arith, far)) (λ j other there. alike (suc j) other there (λ e. omega (arith, e))) in
    omega (arith, ints, left, right, rest)
weigh_differ f (k ∷ kinds) (x ∷ xs) (y ∷ ys) (suc i) kind at one long far alike =
    let rest = weigh_differ f kinds xs ys i kind at one (omega (arith, long)) (omega (arith, far)) (λ j other there apart. alike (suc j) other there (λ e. apart (omega (arith, e)))) in
    let first = alike_products (f k) x y (alike zero k refl (λ e. omega (arith, e))) in
    omega (arith, ints, rest, first)

-- f at 1 to n, added up
abbrev pub sum_z : (ℕ → ℤ) → ℕ → ℤ
sum_z f zero = pos 0
sum_z f (suc n) = sum_z f n +ℤ f (suc n)

pub sum_z-none : (f : ℕ → ℤ) (n : ℕ) → ((v : ℕ) → 1 ≤ v → v ≤ n → f v ≡ pos 0) → sum_z f n ≡ pos 0
sum_z-none f zero none = refl
sum_z-none f (suc n) none =
    let rest = sum_z-none f n (λ v low high. none v low (omega (arith, high))) in
    let last = none (suc n) (omega arith) (omega arith) in
    omega (arith, ints, rest, last)

pub sum_z-same : (f h : ℕ → ℤ) (n : ℕ) → ((v : ℕ) → 1 ≤ v → v ≤ n → f v ≡ h v) → sum_z f n ≡ sum_z h n
sum_z-same f h zero same = refl
sum_z-same f h (suc n) same =
    let rest = sum_z-same f h n (λ v low high. same v low (omega (arith, high))) in
    let last = same (suc n) (omega arith) (omega arith) in
    omega (arith, ints, rest, last)

-- a sum that has one term alone
pub sum_z-only : (f : ℕ → ℤ) (p n : ℕ) → IsAmong p n → ((v : ℕ) → v ≢ p → f v ≡ pos 0) → sum_z f n ≡ f p
sum_z-only f p zero among none = absurd (omega (arith, among.0, among.1))
sum_z-only f p (suc n) among none = ⊎_elim
    (λ same.
    let front = sum_z-none f n (λ v low high. none v (λ e. omega (arith, e, same, high))) in
    let last : f (suc n) ≡ f p = ap f (sym same) in
    omega (arith, ints, front, last))
    (λ other.
    let rest = sum_z-only f p n (among.0, omega (arith, among.1, other)) none in
    let last = none (suc n) (λ e. other (sym e)) in
    omega (arith, ints, rest, last))
    (cases_eq p (suc n))

-- sums whose terms are the same but for the first
pub sum_z-first : (f h : ℕ → ℤ) (n : ℕ) → 1 ≤ n → ((v : ℕ) → 2 ≤ v → v ≤ n → f v ≡ h v) → sum_z f n +ℤ h 1 ≡ sum_z h n +ℤ f 1
sum_z-first f h zero low same = absurd (omega (arith, low))
sum_z-first f h (suc zero) low same = omega (arith, ints)
sum_z-first f h (suc (suc n)) low same =
    let rest = sum_z-first f h (suc n) (omega arith) (λ v low high. same v low (omega (arith, high))) in
    let last = same (suc (suc n)) (omega arith) (omega arith) in
    omega (arith, ints, rest, last)

-- a sum of sums over arcs
pub weigh_sum : (F : ℕ → ArcKind → ℤ) (n : ℕ) (kinds : List ArcKind) (values : List ℤ) → weigh_signed (λ kind. sum_z (λ v. F v kind) n) kinds values ≡ sum_z (λ v. weigh_signed (F v) kinds values) n
weigh_sum F zero kinds values = weigh_nothing kinds values
weigh_sum F (suc n) kinds values =
    let rest = weigh_sum F n kinds values in
    let both = weigh_both (λ kind. sum_z (λ v. F v kind) n) (F (suc n)) kinds values in
    omega (arith, ints, rest, both)

-- Sums over arcs under any weights.
use Rattle.std.proofs.Common.{◌≡◌, ℕ, zero, suc, ◌+◌, ◌-◌, ◌*◌, ◌<◌, ◌≤◌, cond, ◌==◌, List, [], ◌∷◌, length, get_or, set, map, refl, sym, ap, ⊎_elim, arith}
use Rattle.std.proofs.lemmas.Bool.{cases_lt, cases_eq, eq-eqb, ne_eqb}
use Rattle.flow_graph.specs.declared.parts.ArcKind.{ArcKind}
use Rattle.flow_model.specs.Flows.{weigh_arcs}
use Rattle.pattern_extract.specs.inner.Walks.{weigh}

pub part : (a x y z : ℕ) → z + x ≡ y → a * y ≡ a * z + x * a
part a x y z e = rw (sym e) (omega arith)

-- what is taken off one value
pub weigh-set : (f : ℕ → ℕ) (xs : List ℕ) (p x : ℕ) → p < length xs → x ≤ get_or xs p 0 → weigh f xs ≡ weigh f (set xs p (get_or xs p 0 - x)) + x * f p
weigh-set f [] p x within most = absurd (omega (arith, within))
weigh-set f (y ∷ xs) zero x within most =
    let e : f 0 * y ≡ f 0 * (y - x) + x * f 0 = part (f 0) x y (y - x) (omega (arith, most)) in
    omega (arith, e)
weigh-set f (y ∷ xs) (suc p) x within most =
    let rest : weigh (λ k. f (suc k)) xs ≡ weigh (λ k. f (suc k)) (set xs p (get_or xs p 0 - x)) + x * f (suc p) = weigh-set (λ k. f (suc k)) xs p x (omega (arith, within)) most in
    omega (arith, rest)

pub weigh-same : (f h : ℕ → ℕ) (xs : List ℕ) → ((k : ℕ) → f k ≡ h k) → weigh f xs ≡ weigh h xs
weigh-same f h [] same = refl
weigh-same f h (x ∷ xs) same =
    let rest : weigh (λ k. f (suc k)) xs ≡ weigh (λ k. h (suc k)) xs = weigh-same (λ k. f (suc k)) (λ k. h (suc k)) xs (λ k. same (suc k)) in
    let first : f 0 * x ≡ h 0 * x = ap (λ (n : ℕ). n * x) (same 0) in
    omega (arith, rest, first)

-- where each place with a weight has the value 0, the sum is 0
pub weigh-none : (f : ℕ → ℕ) (xs : List ℕ) → ((k : ℕ) → 0 < f k → get_or xs k 0 ≡ 0) → weigh f xs ≡ 0
weigh-none f [] none = refl
weigh-none f (x ∷ xs) none =
    let rest : weigh (λ k. f (suc k)) xs ≡ 0 = weigh-none (λ k. f (suc k)) xs (λ k some. none (suc k) some) in
    let first : f 0 * x ≡ 0 =
    ⊎_elim
    (λ some. let e : x ≡ 0 = none 0 some in rw e (omega arith))
    (λ no_weight. let e : f 0 ≡ 0 = omega (arith, no_weight) in rw e (omega arith))
    (cases_lt 0 (f 0)) in
    omega (arith, rest, first)

pub weigh-zero : (f : ℕ → ℕ) (xs : List ℕ) → ((k : ℕ) → f k ≡ 0) → weigh f xs ≡ 0
weigh-zero f xs none = weigh-none f xs (λ k some. absurd (omega (arith, some, none k)))

-- one place is a part of the sum
pub weigh-part : (f : ℕ → ℕ) (xs : List ℕ) (k : ℕ) → f k * get_or xs k 0 ≤ weigh f xs
weigh-part f [] k = omega arith
weigh-part f (x ∷ xs) zero = omega arith
weigh-part f (x ∷ xs) (suc k) =
    let rest : f (suc k) * get_or xs k 0 ≤ weigh (λ j. f (suc j)) xs = weigh-part (λ j. f (suc j)) xs k in
    omega (arith, rest)

-- a sum above 0 has some place with a weight and a value
pub weigh-some : (f : ℕ → ℕ) (xs : List ℕ) → 0 < weigh f xs → (k : ℕ) × (k < length xs) × (0 < f k) × (0 < get_or xs k 0)
weigh-some f [] some = absurd (omega (arith, some))
weigh-some f (x ∷ xs) some =
    ⊎_elim
    (λ first. ⊎_elim
    (λ weight. ⊎_elim
    (λ value. (zero, omega arith, weight, value))
    (λ none. let e : x ≡ 0 = omega (arith, none) in let bad : f 0 * x ≡ 0 = rw e (omega arith) in absurd (omega (arith, first, bad)))
    (cases_lt 0 x))
    (λ none. let e : f 0 ≡ 0 = omega (arith, none) in let bad : f 0 * x ≡ 0 = rw e (omega arith) in absurd (omega (arith, first, bad)))
    (cases_lt 0 (f 0)))
    (λ none.
    let later : 0 < weigh (λ k. f (suc k)) xs = omega (arith, some, none) in
    let rest = weigh-some (λ k. f (suc k)) xs later in
    (suc rest.0, omega (arith, rest.1), rest.2, rest.3))
    (cases_lt 0 (f 0 * x))

-- a sum over one place
pub weigh-one : (xs : List ℕ) (j : ℕ) → weigh (λ k. cond (k == j) 1 0) xs ≡ get_or xs j 0
weigh-one [] j = refl
weigh-one (x ∷ xs) zero =
    let none : weigh (λ k. cond (suc k == 0) 1 0) xs ≡ 0 = weigh-zero (λ k. cond (suc k == 0) 1 0) xs (λ k. rw (ne_eqb (suc k) 0 (λ h. omega (arith, h))) refl) in
    omega (arith, none)
weigh-one (x ∷ xs) (suc j) =
    let first : cond {A = ℕ} (0 == suc j) 1 0 * x ≡ 0 = rw (ne_eqb 0 (suc j) (λ h. omega (arith, h))) (omega arith) in
    let same : weigh (λ k. cond (suc k == suc j) 1 0) xs ≡ weigh (λ k. cond (k == j) 1 0) xs = weigh-same (λ k. cond (suc k == suc j) 1 0) (λ k. cond (k == j) 1 0) xs (λ k. ⊎_elim
    (λ e. rw (eq-eqb k j e, eq-eqb (suc k) (suc j) (ap suc e)) refl)
    (λ apart. rw (ne_eqb k j apart, ne_eqb (suc k) (suc j) (λ h. apart (omega (arith, h)))) refl)
    (cases_eq k j)) in
    let rest = weigh-one xs j in
    omega (arith, first, same, rest)

-- a sum over the arcs of a row
pub weigh_arcs-weigh : (w : ArcKind → ℕ) (kinds : List ArcKind) (values : List ℕ) → weigh_arcs w kinds values ≡ weigh (λ k. get_or (map w kinds) k 0) values
weigh_arcs-weigh w [] values = sym (weigh-zero (λ k. get_or [] k 0) values (λ k. refl))
weigh_arcs-weigh w (kind ∷ kinds) [] = refl
weigh_arcs-weigh w (kind ∷ kinds) (x ∷ values) = ap (λ (n : ℕ). w kind * x + n) (weigh_arcs-weigh w kinds values)

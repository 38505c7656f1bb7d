-- The least and the greatest of some numbers, and quotients rounded up.
use Rattle.std.proofs.Common.{zero, suc, ◌≡◌, ℕ, ◌+◌, ◌-◌, ◌*◌, ◌/◌, ◌<◌, ◌≤◌, inl, inr, List, [], ◌∷◌, length, map, Bool, true, false, cond, filter, refl, arith, get_or}
use Rattle.std.proofs.lemmas.Bool.{cases_lt}
use Rattle.std.proofs.Math.Nat.{le-div_iff_mul-le, lt-div-mul-add}
use Rattle.packing_laws.specs.Floors.{least_of, greatest_of, numbers_to, div_up}

-- the least is at most the first
pub least_of-first : (x : ℕ) (xs : List ℕ) → least_of (x ∷ xs) ≤ x
least_of-first x [] = omega arith
least_of-first x (y ∷ ys) = omega arith

-- and at most the least of the others
pub least_of-others : (x : ℕ) (xs : List ℕ) → 0 < length xs → least_of (x ∷ xs) ≤ least_of xs
least_of-others x [] some = absurd (omega arith)
least_of-others x (y ∷ ys) some = omega arith

-- a number that is at most each is at most the least
pub least_of-ge : (m x : ℕ) (xs : List ℕ) → m ≤ x → (0 < length xs → m ≤ least_of xs) → m ≤ least_of (x ∷ xs)
least_of-ge m x [] first others = first
least_of-ge m x (y ∷ ys) first others = let rest : m ≤ least_of (y ∷ ys) = others (omega arith) in omega arith

-- the least is at most each
pub least_of-le : (xs : List ℕ) (k : ℕ) → k < length xs → least_of xs ≤ get_or xs k 0
least_of-le [] k within = absurd (omega arith)
least_of-le (x ∷ xs) zero within = least_of-first x xs
least_of-le (x ∷ []) (suc k) within = absurd (omega arith)
least_of-le (x ∷ y ∷ ys) (suc k) within =
    let rest : least_of (y ∷ ys) ≤ get_or (y ∷ ys) k 0 = least_of-le (y ∷ ys) k (omega arith) in
    omega arith

-- one more that passes a test or not
one_more : {X : Type 0} (f : X → ℕ) (b : Bool) (x : X) (ys : List X) (m : ℕ) → (0 < length (map f ys)) × (least_of (map f ys) ≤ m) → (0 < length (map f (cond b (x ∷ ys) ys))) × (least_of (map f (cond b (x ∷ ys) ys)) ≤ m)
one_more f true x ys m (some, small) =
    let less : least_of (f x ∷ map f ys) ≤ least_of (map f ys) = least_of-others (f x) (map f ys) some in
    (omega arith, omega arith)
one_more f false x ys m both = both

-- the least of those that pass is at most each that passes
passing : {X : Type 0} (f : X → ℕ) (p : X → Bool) (xs : List X) (k : ℕ) (d : X) → k < length xs → p (get_or xs k d) ≡ true → (0 < length (map f (filter p xs))) × (least_of (map f (filter p xs)) ≤ f (get_or xs k d))
passing f p [] k d within passes = absurd (omega arith)
passing f p (x ∷ xs) zero d within passes = rw passes (omega arith, least_of-first (f x) (map f (filter p xs)))
passing f p (x ∷ xs) (suc k) d within passes = one_more f (p x) x (filter p xs) (f (get_or xs k d)) (passing f p xs k d (omega arith) passes)

pub least_of-passing : {X : Type 0} (f : X → ℕ) (p : X → Bool) (xs : List X) (k : ℕ) (d : X) → k < length xs → p (get_or xs k d) ≡ true → least_of (map f (filter p xs)) ≤ f (get_or xs k d)
least_of-passing f p xs k d within passes = (passing f p xs k d within passes).1

pub some-passing : {X : Type 0} (f : X → ℕ) (p : X → Bool) (xs : List X) (k : ℕ) (d : X) → k < length xs → p (get_or xs k d) ≡ true → 0 < length (map f (filter p xs))
some-passing f p xs k d within passes = (passing f p xs k d within passes).0

-- one more that passes a test, with a bound, or does not
one_more_ge : {X : Type 0} (f : X → ℕ) (b : Bool) (x : X) (ys : List X) (m : ℕ) → (b ≡ true → m ≤ f x) → (0 < length (map f ys) → m ≤ least_of (map f ys)) → 0 < length (map f (cond b (x ∷ ys) ys)) → m ≤ least_of (map f (cond b (x ∷ ys) ys))
one_more_ge f true x ys m first others some = least_of-ge m (f x) (map f ys) (first refl) others
one_more_ge f false x ys m first others some = others some

-- a number that is at most each that passes is at most the least of them
pub least_of-passing-ge : {X : Type 0} (f : X → ℕ) (p : X → Bool) (xs : List X) (m : ℕ) (d : X) → ((k : ℕ) → k < length xs → p (get_or xs k d) ≡ true → m ≤ f (get_or xs k d)) → 0 < length (map f (filter p xs)) → m ≤ least_of (map f (filter p xs))
least_of-passing-ge f p [] m d each some = absurd (omega arith)
least_of-passing-ge f p (x ∷ xs) m d each some =
    one_more_ge f (p x) x (filter p xs) m (each zero (omega arith))
    (least_of-passing-ge f p xs m d (λ k within. each (suc k) (omega arith)))
    some

-- the greatest of the values at 1 to n is at most what each is
pub greatest_of-le : (f : ℕ → ℕ) (z n : ℕ) → ((d : ℕ) → 1 ≤ d → d ≤ n → f d ≤ z) → greatest_of (map f (numbers_to n)) ≤ z
greatest_of-le f z zero each = omega arith
greatest_of-le f z (suc n) each =
    let last : f (suc n) ≤ z = each (suc n) (omega arith) (omega arith) in
    let others : greatest_of (map f (numbers_to n)) ≤ z = greatest_of-le f z n (λ d low high. each d low (omega arith)) in
    omega arith

-- a number below the quotient, times the divisor, is below the dividend
pub below_div_up : (z a b : ℕ) → 0 < b → z < div_up a b → z * b < a
below_div_up z a b some below =
    let whole : suc z * b ≤ a + (b - 1) = (le-div_iff_mul-le {k = b} {x = suc z} {y = a + (b - 1)} some).0 below in
    omega arith

-- the quotient times the divisor is enough
pub div_up-enough : (a b : ℕ) → 0 < b → a ≤ div_up a b * b
div_up-enough a b some =
    let part : a + (b - 1) < (a + (b - 1)) / b * b + b = lt-div-mul-add {a = a + (b - 1)} {b = b} some in
    omega arith

-- a number that is enough is at least the quotient
pub div_up-le : (a b q : ℕ) → 0 < b → a ≤ q * b → div_up a b ≤ q
div_up-le a b q some enough =
    elim (cases_lt q (div_up a b)) [ inl below ↦ (let less : q * b < a = below_div_up q a b some below in absurd (omega arith)) | inr above ↦ above ]

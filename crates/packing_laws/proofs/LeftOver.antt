-- A loop that keeps the least of some numbers.
use Rattle.std.proofs.Common.{◌≡◌, ℕ, ◌+◌, ◌<◌, List, [], ◌∷◌, length, min, Option, Some, None, MatchOption, unwrap_or, Bool, true, false, map, filter, drop, get_or, subst, ap, add-one, drop-cons, refl, ◌∙◌, arith}
use Rattle.packing_laws.specs.Floors.{least_of}

-- what the least of all is, by the least so far, if any, and those that are left
abbrev pub IsLeftOf : Option ℕ → List ℕ → List ℕ → Type 0
IsLeftOf None rest all = rest ≡ all
IsLeftOf (Some b) rest all = (least_of (b ∷ rest) ≡ least_of all) × (0 < length all)

-- two at the front may be joined
least_of-joined : (b y : ℕ) (rest : List ℕ) → least_of (min b y ∷ rest) ≡ least_of (b ∷ y ∷ rest)
least_of-joined b y [] = refl
least_of-joined b y (x ∷ xs) = omega arith

-- one more is taken
pub IsLeftOf-next : (least : Option ℕ) (y z : ℕ) (rest all : List ℕ) → IsLeftOf least (y ∷ rest) all → MatchOption least (z ≡ y) (λ b. z ≡ min b y) → IsLeftOf (Some z) rest all
IsLeftOf-next None y z rest all left is =
    let same : length (y ∷ rest) ≡ length all = ap length left in
    (ap (λ (n : ℕ). least_of (n ∷ rest)) is ∙ ap least_of left, omega arith)
IsLeftOf-next (Some b) y z rest all left is = (ap (λ (n : ℕ). least_of (n ∷ rest)) is ∙ least_of-joined b y rest ∙ left.0, left.1)

-- nothing is left
pub IsLeftOf-end : (least : Option ℕ) (all : List ℕ) → IsLeftOf least [] all → unwrap_or least 0 ≡ least_of all
IsLeftOf-end None all left = ap least_of left
IsLeftOf-end (Some b) all left = left.0

-- the next element passes the test
passing : {X : Type 0} (p : X → Bool) (xs : List X) (i : ℕ) (x : X) → i < length xs → x ≡ get_or xs i x → p x ≡ true → filter p (drop i xs) ≡ x ∷ filter p (drop (i + 1) xs)
passing p xs i x within here passes =
    let e : drop i xs ≡ x ∷ drop (i + 1) xs = rw (add-one, drop-cons xs i x within, ← here) refl in
    rw e (rw passes refl)

failing : {X : Type 0} (p : X → Bool) (xs : List X) (i : ℕ) (x : X) → i < length xs → x ≡ get_or xs i x → p x ≡ false → filter p (drop i xs) ≡ filter p (drop (i + 1) xs)
failing p xs i x within here fails =
    let e : drop i xs ≡ x ∷ drop (i + 1) xs = rw (add-one, drop-cons xs i x within, ← here) refl in
    rw e (rw fails refl)

-- one more is taken from those that pass
pub IsLeftOf-taken : {X : Type 0} (f : X → ℕ) (p : X → Bool) (xs : List X) (i : ℕ) (x : X) (least : Option ℕ) (z : ℕ) (all : List ℕ) → i < length xs → x ≡ get_or xs i x → p x ≡ true → IsLeftOf least (map f (filter p (drop i xs))) all → MatchOption least (z ≡ f x) (λ b. z ≡ min b (f x)) → IsLeftOf (Some z) (map f (filter p (drop (i + 1) xs))) all
IsLeftOf-taken f p xs i x least z all within here passes left is =
    IsLeftOf-next least (f x) z (map f (filter p (drop (i + 1) xs))) all (subst (λ ys. IsLeftOf least (map f ys) all) (passing p xs i x within here passes) left) is

-- one that does not pass is left out
pub IsLeftOf-skipped : {X : Type 0} (f : X → ℕ) (p : X → Bool) (xs : List X) (i : ℕ) (x : X) (least : Option ℕ) (all : List ℕ) → i < length xs → x ≡ get_or xs i x → p x ≡ false → IsLeftOf least (map f (filter p (drop i xs))) all → IsLeftOf least (map f (filter p (drop (i + 1) xs))) all
IsLeftOf-skipped f p xs i x least all within here fails left = subst (λ ys. IsLeftOf least (map f ys) all) (failing p xs i x within here fails) left

-- Sums over lists and over numbers from 1.
use Rattle.std.proofs.Common.{zero, suc, ◌≡◌, ℕ, ◌+◌, ◌-◌, ◌*◌, ◌≤◌, ◌∙◌, inl, inr, List, [], ◌∷◌, length, take, true, false, cond, ◌==◌, sum_by, All, refl, sym, ap, arith, get_or, add-one}
use Rattle.std.specs.List.{flat_map}
use Rattle.std.proofs.lemmas.Bool.{ne_eqb, eq-eqb, cases_eq, cond-true}
use Rattle.std.proofs.lemmas.List.Sums.{sum_by-cons, sum_by-append, sum_by_more}

-- the first of a list on which something holds throughout, and the others
pub All-first : {X : Type 0} (P : X → Type 0) (x : X) (xs : List X) → All P (x ∷ xs) → P x
All-first P x xs all = all zero x (omega arith)

pub All-others : {X : Type 0} (P : X → Type 0) (x : X) (xs : List X) → All P (x ∷ xs) → All P xs
All-others P x xs all k d within = all (suc k) d (omega arith)

-- where each term is at most another, so is the sum
pub sum_by-le-sum_by : {X : Type 0} (f g : X → ℕ) (xs : List X) → All (λ x. f x ≤ g x) xs → sum_by f xs ≤ sum_by g xs
sum_by-le-sum_by f g [] all = omega arith
sum_by-le-sum_by f g (x ∷ xs) all =
    let first : f x ≤ g x = All-first (λ y. f y ≤ g y) x xs all in
    let others : sum_by f xs ≤ sum_by g xs = sum_by-le-sum_by f g xs (All-others (λ y. f y ≤ g y) x xs all) in
    rw (sum_by-cons f x xs, sum_by-cons g x xs) (omega arith)

-- a sum over what is made of each element
pub sum_by-flat_map : {X Y : Type 0} (f : Y → ℕ) (h : X → List Y) (xs : List X) → sum_by f (flat_map h xs) ≡ sum_by (λ x. sum_by f (h x)) xs
sum_by-flat_map f h [] = refl
sum_by-flat_map f h (x ∷ xs) =
    sum_by-append f (h x) (flat_map h xs) ∙ ap (λ n. sum_by f (h x) + n) (sum_by-flat_map f h xs) ∙ sym (sum_by-cons (λ y. sum_by f (h y)) x xs)

-- f at 1 to n, added up
abbrev pub sum_to : (ℕ → ℕ) → ℕ → ℕ
sum_to f zero = 0
sum_to f (suc n) = sum_to f n + f (suc n)

-- a sum over the first n elements is one over their numbers
pub sum_by-by_number : {X : Type 0} (f : X → ℕ) (xs : List X) (d : X) (n : ℕ) → n ≤ length xs → sum_by f (take n xs) ≡ sum_to (λ i. f (get_or xs (i - 1) d)) n
sum_by-by_number f xs d zero within = refl
sum_by-by_number f xs d (suc n) within =
    let e : suc n - 1 ≡ n = omega arith in
    let front : sum_by f (take n xs) ≡ sum_to (λ i. f (get_or xs (i - 1) d)) n = sum_by-by_number f xs d n (omega arith) in
    let next : sum_by f (take (suc n) xs) ≡ sum_by f (take n xs) + f (get_or xs n d) = rw add-one at (sum_by_more f xs n d (omega arith)) in
    rw e (next ∙ ap (λ m. m + f (get_or xs n d)) front)

-- where each term is at most another, so is the sum
pub sum_to-le : (f g : ℕ → ℕ) (n : ℕ) → ((i : ℕ) → 1 ≤ i → i ≤ n → f i ≤ g i) → sum_to f n ≤ sum_to g n
sum_to-le f g zero each = omega arith
sum_to-le f g (suc n) each =
    let last : f (suc n) ≤ g (suc n) = each (suc n) (omega arith) (omega arith) in
    let others : sum_to f n ≤ sum_to g n = sum_to-le f g n (λ i low high. each i low (omega arith)) in
    omega arith

-- a sum of sums
pub sum_to-add : (f g : ℕ → ℕ) (n : ℕ) → sum_to (λ i. f i + g i) n ≡ sum_to f n + sum_to g n
sum_to-add f g zero = refl
sum_to-add f g (suc n) = let others : sum_to (λ i. f i + g i) n ≡ sum_to f n + sum_to g n = sum_to-add f g n in omega arith

pub sum_to-zero : (f : ℕ → ℕ) (n : ℕ) → ((i : ℕ) → 1 ≤ i → i ≤ n → f i ≡ 0) → sum_to f n ≡ 0
sum_to-zero f zero each = refl
sum_to-zero f (suc n) each =
    let last : f (suc n) ≡ 0 = each (suc n) (omega arith) (omega arith) in
    let others : sum_to f n ≡ 0 = sum_to-zero f n (λ i low high. each i low (omega arith)) in
    omega arith

-- a sum that has one term alone
pub sum_to-one : (j k n : ℕ) (f : ℕ → ℕ) → sum_to (λ i. cond (j == i) k 0 * f i) n ≤ k * f j
sum_to-one j k zero f = omega arith
sum_to-one j k (suc n) f = elim (cases_eq j (suc n)) [
  | inl same ↦
      let none : sum_to (λ i. cond (j == i) k 0 * f i) n ≡ 0 = sum_to-zero (λ i. cond (j == i) k 0 * f i) n (λ i low high. let other : (j == i) ≡ false = ne_eqb j i (λ e. omega arith) in rw other (omega arith)) in
      let last : (j == suc n) ≡ true = eq-eqb j (suc n) same in
      rw (none, last, same) (omega arith)
  | inr other ↦
      let others : sum_to (λ i. cond (j == i) k 0 * f i) n ≤ k * f j = sum_to-one j k n f in
      let last : (j == suc n) ≡ false = ne_eqb j (suc n) other in
      rw last (omega arith)
]

-- a sum with such a term
pub sum_to-term : (j k n : ℕ) → 1 ≤ j → j ≤ n → k ≤ sum_to (λ i. cond (j == i) k 0) n
sum_to-term j k zero low high = absurd (omega arith)
sum_to-term j k (suc n) low high = elim (cases_eq j (suc n)) [
  | inl same ↦
      let last : ◌≡◌ {A = ℕ} (cond (j == suc n) k 0) k = cond-true (j == suc n) k 0 (eq-eqb j (suc n) same) in
      omega arith
  | inr other ↦
      let before : k ≤ sum_to (λ i. cond (j == i) k 0) n = sum_to-term j k n low (omega arith) in
      omega arith
]

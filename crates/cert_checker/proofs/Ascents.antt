-- What rising lists keep.
use Rattle.std.proofs.Common.{◌≡◌, ◌↔◌, ℕ, suc, ◌<◌, ◌≤◌, Bool, true, false, List, [], ◌∷◌, get_or, refl, sym, arith, ◌∙◌, rules}
use Rattle.std.specs.Prelude.{IsTrue, ◌&&◌, nat_lt, All, AllPairs}
use Rattle.std.proofs.lemmas.Bool.Decides.{nat_tests}
use Rattle.std.proofs.lemmas.List.Elements.{All-cons, All-nil}
use Rattle.std.proofs.lemmas.List.Kept.{AllPairs-cons}
use Rattle.cert_text.specs.Lines.{IsBetween}
use Rattle.arc_num.specs.declared.TheConstants.{MAX_PRICE}
use Rattle.cert_checker.specs.inner.Rising.{rises, is_price}

all_three : (a b c : Bool) → (a && (b && c)) ≡ true → (a ≡ true) × (b ≡ true) × (c ≡ true)
all_three true true true h = (refl, refl, refl)
all_three true true false h = absurd (cc)
all_three true false c h = absurd (cc)
all_three false b c h = absurd (cc)

three : (a b c : Bool) → a ≡ true → b ≡ true → c ≡ true → (a && (b && c)) ≡ true
three true true true x y z = refl
three true true false x y z = absurd (cc)
three true false c x y z = absurd (cc)
three false b c x y z = absurd (cc)

is_above : (m n : ℕ) → nat_lt m n ≡ true → m < n
is_above m n h = grind (arith, nat_tests)

tests_above : (m n : ℕ) → m < n → nat_lt m n ≡ true
tests_above m n h = grind (arith, nat_tests)

module _ {X : Type 0} (number : X → ℕ) (fits : X → Bool) where
  parts : (last : ℕ) (x : X) (xs : List X) → rises number fits last (x ∷ xs) ≡ true → (nat_lt last (number x) ≡ true) × (fits x ≡ true) × (rises number fits (number x) xs ≡ true)
  parts last x xs h = all_three (nat_lt last (number x)) (fits x) (rises number fits (number x) xs) h

  -- all numbers are above the last one
  above : (last : ℕ) (xs : List X) → rises number fits last xs ≡ true → All (λ x. last < number x) xs
  above last [] h = All-nil (λ x. last < number x)
  above last (x ∷ xs) h =
      let w = parts last x xs h in
      let first : last < number x = is_above last (number x) w.0 in
      All-cons (λ y. last < number y) x xs first (λ k d within. let next = above (number x) xs w.2 k d within in omega (arith, first, next))

  in_order : (last : ℕ) (xs : List X) → rises number fits last xs ≡ true → AllPairs (λ x y. number x < number y) xs
  in_order last [] h = λ i j d lt within. absurd (omega arith)
  in_order last (x ∷ xs) h =
      let w = parts last x xs h in
      AllPairs-cons (λ y z. number y < number z) x xs (above (number x) xs w.2) (in_order (number x) xs w.2)

  all_fit : (last : ℕ) (xs : List X) → rises number fits last xs ≡ true → All (λ x. fits x ≡ true) xs
  all_fit last [] h = All-nil (λ x. fits x ≡ true)
  all_fit last (x ∷ xs) h = let w = parts last x xs h in All-cons (λ y. fits y ≡ true) x xs w.1 (all_fit (number x) xs w.2)

  rising : (last : ℕ) (xs : List X) → AllPairs (λ x y. number x < number y) xs → All (λ x. last < number x) xs → All (λ x. fits x ≡ true) xs → rises number fits last xs ≡ true
  rising last [] order high each = refl
  rising last (x ∷ xs) order high each =
      let rest : rises number fits (number x) xs ≡ true = rising (number x) xs
      (λ i j d lt within. order (suc i) (suc j) d (omega arith) (omega arith))
      (λ k d within. order 0 (suc k) d (omega arith) (omega arith))
      (λ k d within. each (suc k) d (omega arith)) in
      let first : last < number x = high 0 x (omega arith) in
      three (nat_lt last (number x)) (fits x) (rises number fits (number x) xs) (tests_above last (number x) first) (each 0 x (omega arith)) rest

-- a test of prices
pub price_fits : (n : ℕ) → is_price n ≡ true → IsBetween 1 MAX_PRICE n
price_fits n h = grind (arith, nat_tests)

pub fits_price : (n : ℕ) → IsBetween 1 MAX_PRICE n → is_price n ≡ true
fits_price n h = grind (arith, nat_tests)

-- rising lists, by what is said of each element
module _ {X : Type 0} (number value : X → ℕ) (xs : List X) (answer : Bool) (is : answer ≡ rises number (λ x. is_price (value x)) 0 xs) where
  pub order_from : IsTrue answer → AllPairs (λ x y. number x < number y) xs
  order_from h = in_order number (λ x. is_price (value x)) 0 xs (let t : answer ≡ true = search rules in sym is ∙ t)

  pub each_from : IsTrue answer → All (λ x. (1 ≤ number x) × IsBetween 1 MAX_PRICE (value x)) xs
  each_from h =
      let rising_is : rises number (λ x. is_price (value x)) 0 xs ≡ true = let t : answer ≡ true = search rules in sym is ∙ t in
      λ k d within. (let high = above number (λ x. is_price (value x)) 0 xs rising_is k d within in omega (arith, high), price_fits (value (get_or xs k d)) (all_fit number (λ x. is_price (value x)) 0 xs rising_is k d within))

  pub rises_from : AllPairs (λ x y. number x < number y) xs → All (λ x. (1 ≤ number x) × IsBetween 1 MAX_PRICE (value x)) xs → IsTrue answer
  rises_from order each =
      let t : answer ≡ true = is ∙ rising number (λ x. is_price (value x)) 0 xs order (λ k d within. let low = (each k d within).0 in omega (arith, low)) (λ k d within. fits_price (value (get_or xs k d)) (each k d within).1) in
      search rules

  -- both ways
  pub rises_exactly : IsTrue answer ↔ (AllPairs (λ x y. number x < number y) xs × All (λ x. (1 ≤ number x) × IsBetween 1 MAX_PRICE (value x)) xs)
  rises_exactly = (λ h. (order_from h, each_from h), λ h. rises_from h.0 h.1)

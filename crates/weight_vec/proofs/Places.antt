-- The numbers of sums, differences and the like, place by place.
use Rattle.std.proofs.Common.{◌≡◌, ℕ, zero, suc, ◌+◌, ◌-◌, ◌^◌, ◌<◌, ◌≤◌, List, [], ◌∷◌, ◌++◌, length, get_or, min, max, replicate, refl, sym, ap, ◌∙◌, ⊎_elim, arith}
use Rattle.std.proofs.lemmas.List.{get_or-replicate, get_or_past, length-replicate, ext_get_or}
use Rattle.std.proofs.lemmas.Bool.{cases_lt}
use Rattle.weight_vec.specs.Weight.{plus, minus, lower, higher}

pub get_or-plus : (xs ys : List ℕ) (d : ℕ) → get_or (plus xs ys) d 0 ≡ get_or xs d 0 + get_or ys d 0
get_or-plus [] ys d = omega arith
get_or-plus (x ∷ xs) [] d = omega arith
get_or-plus (x ∷ xs) (y ∷ ys) zero = refl
get_or-plus (x ∷ xs) (y ∷ ys) (suc d) = get_or-plus xs ys d

pub get_or-minus : (xs ys : List ℕ) (d : ℕ) → get_or (minus xs ys) d 0 ≡ get_or xs d 0 - get_or ys d 0
get_or-minus [] ys d = omega arith
get_or-minus (x ∷ xs) [] d = omega arith
get_or-minus (x ∷ xs) (y ∷ ys) zero = refl
get_or-minus (x ∷ xs) (y ∷ ys) (suc d) = get_or-minus xs ys d

pub get_or-lower : (xs ys : List ℕ) (d : ℕ) → get_or (lower xs ys) d 0 ≡ min (get_or xs d 0) (get_or ys d 0)
get_or-lower [] ys d = omega arith
get_or-lower (x ∷ xs) [] d = omega arith
get_or-lower (x ∷ xs) (y ∷ ys) zero = refl
get_or-lower (x ∷ xs) (y ∷ ys) (suc d) = get_or-lower xs ys d

pub get_or-higher : (xs ys : List ℕ) (d : ℕ) → get_or (higher xs ys) d 0 ≡ max (get_or xs d 0) (get_or ys d 0)
get_or-higher [] ys d = omega arith
get_or-higher (x ∷ xs) [] d = omega arith
get_or-higher (x ∷ xs) (y ∷ ys) zero = refl
get_or-higher (x ∷ xs) (y ∷ ys) (suc d) = get_or-higher xs ys d

pub length-plus : (xs ys : List ℕ) → length xs ≡ length ys → length (plus xs ys) ≡ length xs
length-plus [] ys h = sym h
length-plus (x ∷ xs) [] h = refl
length-plus (x ∷ xs) (y ∷ ys) h = let t : length xs ≡ length ys = omega arith in ap suc (length-plus xs ys t)

pub length-minus : (xs ys : List ℕ) → length (minus xs ys) ≡ length xs
length-minus [] ys = refl
length-minus (x ∷ xs) [] = refl
length-minus (x ∷ xs) (y ∷ ys) = ap suc (length-minus xs ys)

pub length-lower : (xs ys : List ℕ) → length xs ≡ length ys → length (lower xs ys) ≡ length xs
length-lower [] ys h = refl
length-lower (x ∷ xs) [] h = absurd (omega arith)
length-lower (x ∷ xs) (y ∷ ys) h = let t : length xs ≡ length ys = omega arith in ap suc (length-lower xs ys t)

pub length-higher : (xs ys : List ℕ) → length xs ≡ length ys → length (higher xs ys) ≡ length xs
length-higher [] ys h = sym h
length-higher (x ∷ xs) [] h = refl
length-higher (x ∷ xs) (y ∷ ys) h = let t : length xs ≡ length ys = omega arith in ap suc (length-higher xs ys t)

abbrev pub zeros : ℕ → List ℕ
zeros n = replicate n 0

pub get_or-zeros : (n d : ℕ) → get_or (zeros n) d 0 ≡ 0
get_or-zeros n d =
    ⊎_elim (λ lt. get_or-replicate n d 0 0 lt) (λ ge. get_or_past (zeros n) d 0 (let e : length (zeros n) ≡ n = length-replicate n 0 in omega arith)) (cases_lt d n)

pub get_or-padded : (xs : List ℕ) (n d : ℕ) → get_or (xs ++ zeros n) d 0 ≡ get_or xs d 0
get_or-padded [] n d = get_or-zeros n d
get_or-padded (x ∷ xs) n zero = refl
get_or-padded (x ∷ xs) n (suc d) = get_or-padded xs n d

-- a list with the sums at its places is the list of the sums, and so on
module _ (xs ys made : List ℕ) (n : ℕ) (xs_sized : length xs ≡ n) (ys_sized : length ys ≡ n) (sized : length made ≡ n) where
  pub plus-made : ((k : ℕ) → k < n → get_or made k 0 ≡ get_or xs k 0 + get_or ys k 0) → made ≡ plus xs ys
  plus-made done = let e : length xs ≡ length ys = omega arith in ext_get_or 0 made (plus xs ys) (omega (arith, length-plus xs ys e)) (λ k lt. done k (omega arith) ∙ sym (get_or-plus xs ys k))

  pub minus-made : ((k : ℕ) → k < n → get_or made k 0 + get_or ys k 0 ≡ get_or xs k 0) → made ≡ minus xs ys
  minus-made done = ext_get_or 0 made (minus xs ys) (omega (arith, length-minus xs ys)) (λ k lt. omega (arith, done k (omega arith), get_or-minus xs ys k))

  pub lower-made : ((k : ℕ) → k < n → get_or made k 0 ≡ min (get_or xs k 0) (get_or ys k 0)) → made ≡ lower xs ys
  lower-made done = let e : length xs ≡ length ys = omega arith in ext_get_or 0 made (lower xs ys) (omega (arith, length-lower xs ys e)) (λ k lt. done k (omega arith) ∙ sym (get_or-lower xs ys k))

  pub higher-made : ((k : ℕ) → k < n → get_or made k 0 ≡ max (get_or xs k 0) (get_or ys k 0)) → made ≡ higher xs ys
  higher-made done = let e : length xs ≡ length ys = omega arith in ext_get_or 0 made (higher xs ys) (omega (arith, length-higher xs ys e)) (λ k lt. done k (omega arith) ∙ sym (get_or-higher xs ys k))

-- where all differences were made, the one list is at most the other
pub difference-fits : (xs ys made : List ℕ) (n : ℕ) → length ys ≡ n → ((k : ℕ) → k < n → get_or made k 0 + get_or ys k 0 ≡ get_or xs k 0) → (d : ℕ) → get_or ys d 0 ≤ get_or xs d 0
difference-fits xs ys made n sized done d =
    ⊎_elim (λ lt. omega (arith, done d lt)) (λ ge. omega (arith, get_or_past ys d 0 (omega arith))) (cases_lt d n)

-- past the end of a list there is only 0
pub range-whole : (xs : List ℕ) (n : ℕ) → length xs ≤ n → ((k : ℕ) → k < n → get_or xs k 0 < 2 ^ 32) → (d : ℕ) → get_or xs d 0 < 2 ^ 32
range-whole xs n sized within d =
    ⊎_elim (λ lt. within d lt) (λ ge. omega (arith, get_or_past xs d 0 (omega arith))) (cases_lt d n)

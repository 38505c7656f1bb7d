-- Entries in order of their rows.
use Rattle.std.proofs.Common.{suc, ◌≡◌, ◌≢◌, ℕ, ◌<◌, ◌≤◌, Bool, true, false, cond, List, [], ◌∷◌, pos, inl, inr, refl, sym, ap, ◌∙◌, subst, arith}
use Rattle.std.specs.Prelude.{◌&&◌, ◌==◌, not, nat_le, filter, if◌then◌else◌, ⊤, ◌⊎◌}
use Rattle.std.specs.Ordering.{nat_cmp, is_lt}
use Rattle.std.specs.List.{AllByRecursion}
use Rattle.std.specs.List.Sorted.{IsSortedByKey, IsStableByKey, IsNonDecreasingBy, ties}
use Rattle.std.proofs.lemmas.Bool.Decides.{nat_tests}
use Rattle.std.proofs.lemmas.List.Elements.{recursion_from_All}
use Rattle.std.proofs.lemmas.List.Sorted.{IsNonDecreasingBy-from_sort}
use Rattle.flow_model.specs.declared.programs.Entry.{Entry}
use Rattle.mps_text.specs.Meaning.{put_entry, in_row_order}

-- the entries of one row
abbrev of_row : ℕ → List Entry → List Entry
of_row r xs = filter (λ e. e.row == r) xs

-- rows do not fall
abbrev Rises : List Entry → Type 0
Rises [] = ⊤
Rises (x ∷ xs) = AllByRecursion (λ y. x.row ≤ y.row) xs × Rises xs

rises_from : (xs : List Entry) → IsNonDecreasingBy (λ e. e.row) xs → Rises xs
rises_from [] h = tt
rises_from (x ∷ xs) h =
    (recursion_from_All (λ y. x.row ≤ y.row) xs (λ k d lt. h 0 (suc k) d (omega arith) (omega arith)), rises_from xs (λ i j d le lt. h (suc i) (suc j) d (omega arith) (omega arith)))

at_least : (m n : ℕ) (xs : List Entry) → m ≤ n → AllByRecursion (λ y. n ≤ y.row) xs → AllByRecursion (λ y. m ≤ y.row) xs
at_least m n [] le h = tt
at_least m n (x ∷ xs) le h = (let a = h.0 in omega arith, at_least m n xs le h.1)

other_row : (a b : ℕ) → a ≢ b → (a == b) ≡ false
other_row a b h = grind (arith, nat_tests)

this_row : (a : ℕ) → (a == a) ≡ true
this_row a = grind (arith, nat_tests)

-- no entry of a row below all
none_below : (r m : ℕ) (xs : List Entry) → r < m → AllByRecursion (λ y. m ≤ y.row) xs → of_row r xs ≡ []
none_below r m [] lt h = refl
none_below r m (x ∷ xs) lt h = let a = h.0 in rw (other_row x.row r (λ e. absurd (omega arith))) (none_below r m xs lt h.1)

first_of_row : (x : Entry) (xs : List Entry) → of_row x.row (x ∷ xs) ≡ x ∷ of_row x.row xs
first_of_row x xs = rw (this_row x.row) refl

three_ways : (a b : ℕ) → (a < b) ⊎ ((b < a) ⊎ (a ≡ b))
three_ways a b = grind arith

not_first : (x : Entry) (xs : List Entry) (y : Entry) (ys : List Entry) → Rises (x ∷ xs) → of_row y.row (x ∷ xs) ≡ of_row y.row (y ∷ ys) → y.row < x.row → ⊥
not_first x xs y ys rises same lt =
    let none : of_row y.row (x ∷ xs) ≡ [] = none_below y.row x.row (x ∷ xs) lt (omega arith, rises.0) in
    let some : of_row y.row (x ∷ xs) ≡ y ∷ of_row y.row ys = same ∙ first_of_row y ys in
    absurd (cc)

tail_same : (x y : Entry) (xs ys : List Entry) (r : ℕ) (b c : Bool) → (x.row == r) ≡ b → (y.row == r) ≡ c → b ≡ c → of_row r (x ∷ xs) ≡ of_row r (y ∷ ys) → of_row r xs ≡ of_row r ys
tail_same x y xs ys r true true e f g h =
    let left : of_row r (x ∷ xs) ≡ x ∷ of_row r xs = rw e refl in
    let right : of_row r (y ∷ ys) ≡ y ∷ of_row r ys = rw f refl in
    cc
tail_same x y xs ys r true false e f g h = absurd (cc)
tail_same x y xs ys r false true e f g h = absurd (cc)
tail_same x y xs ys r false false e f g h =
    let left : of_row r (x ∷ xs) ≡ of_row r xs = rw e refl in
    let right : of_row r (y ∷ ys) ≡ of_row r ys = rw f refl in
    cc

-- two lists that rise and have the same entries of each row, in the same order, are the same
unique : (xs ys : List Entry) → Rises xs → Rises ys → ((r : ℕ) → of_row r xs ≡ of_row r ys) → xs ≡ ys
unique [] [] rises other same = refl
unique [] (y ∷ ys) rises other same = let some = first_of_row y ys in let h : [] ≡ of_row y.row (y ∷ ys) = same y.row in absurd (cc)
unique (x ∷ xs) [] rises other same = let some = first_of_row x xs in let h : of_row x.row (x ∷ xs) ≡ [] = same x.row in absurd (cc)
unique (x ∷ xs) (y ∷ ys) rises other same =
    by (three_ways x.row y.row) (unique xs ys rises.1 other.1)
  where
    by : (x.row < y.row) ⊎ ((y.row < x.row) ⊎ (x.row ≡ y.row)) → (((r : ℕ) → of_row r xs ≡ of_row r ys) → xs ≡ ys) → x ∷ xs ≡ y ∷ ys
    by (inl lt) next = absurd (not_first y ys x xs other (sym (same x.row)) lt)
    by (inr (inl lt)) next = absurd (not_first x xs y ys rises (same y.row) lt)
    by (inr (inr e)) next =
        let here : of_row x.row (x ∷ xs) ≡ of_row x.row (y ∷ ys) = same x.row in
        let left : of_row x.row (x ∷ xs) ≡ x ∷ of_row x.row xs = first_of_row x xs in
        let right : of_row x.row (y ∷ ys) ≡ y ∷ of_row x.row ys = subst (λ (r : ℕ). of_row r (y ∷ ys) ≡ y ∷ of_row r ys) (sym e) (first_of_row y ys) in
        let first : x ≡ y = cc in
        let rest : xs ≡ ys = next (λ r. tail_same x y xs ys r (x.row == r) (y.row == r) refl refl (ap (λ (n : ℕ). n == r) e) (same r)) in
        (λ i. first i ∷ rest i)

-- putting an entry in its place keeps the order, and the entries of each row
put_all : (m : ℕ) (e : Entry) (xs : List Entry) → m ≤ e.row → AllByRecursion (λ y. m ≤ y.row) xs → AllByRecursion (λ y. m ≤ y.row) (put_entry e xs)
put_all m e [] le h = (le, tt)
put_all m e (x ∷ xs) le h = by (nat_le e.row x.row) (put_all m e xs le h.1)
  where
    by : (b : Bool) → AllByRecursion (λ y. m ≤ y.row) (put_entry e xs) → AllByRecursion (λ y. m ≤ y.row) (if b then e ∷ x ∷ xs else x ∷ put_entry e xs)
    by true next = (le, h)
    by false next = (h.0, next)

put_rises : (e : Entry) (xs : List Entry) → Rises xs → Rises (put_entry e xs)
put_rises e [] h = (tt, tt)
put_rises e (x ∷ xs) h = by (nat_le e.row x.row) refl (put_rises e xs h.1)
  where
    by : (b : Bool) → nat_le e.row x.row ≡ b → Rises (put_entry e xs) → Rises (if b then e ∷ x ∷ xs else x ∷ put_entry e xs)
    by true t next = let le : e.row ≤ x.row = grind (arith, nat_tests) in ((le, at_least e.row x.row xs le h.0), h)
    by false t next = let le : x.row ≤ e.row = grind (arith, nat_tests) in (put_all x.row e xs le h.0, next)

order_rises : (xs : List Entry) → Rises (in_row_order xs)
order_rises [] = tt
order_rises (x ∷ xs) = put_rises x (in_row_order xs) (order_rises xs)

put_row : (r : ℕ) (e : Entry) (xs : List Entry) → of_row r (put_entry e xs) ≡ of_row r (e ∷ xs)
put_row r e [] = refl
put_row r e (x ∷ xs) = by (nat_le e.row x.row) refl (put_row r e xs)
  where
    swapped : (b c : Bool) → (x.row == r) ≡ b → (e.row == r) ≡ c → x.row < e.row → of_row r (put_entry e xs) ≡ of_row r (e ∷ xs) → of_row r (x ∷ put_entry e xs) ≡ of_row r (e ∷ x ∷ xs)
    swapped true true s t lt next = absurd (let a : x.row ≡ r = grind (arith, nat_tests) in let b : e.row ≡ r = grind (arith, nat_tests) in omega arith)
    swapped true false s t lt next =
        let behind : of_row r (e ∷ xs) ≡ of_row r xs = rw t refl in
        let left : of_row r (x ∷ put_entry e xs) ≡ x ∷ of_row r (put_entry e xs) = rw s refl in
        let right : of_row r (e ∷ x ∷ xs) ≡ x ∷ of_row r xs = rw (t, s) refl in
        cc
    swapped false c s t lt next =
        let left : of_row r (x ∷ put_entry e xs) ≡ of_row r (put_entry e xs) = rw s refl in
        let right : of_row r (e ∷ x ∷ xs) ≡ of_row r (e ∷ xs) = rw s refl in
        cc

    by : (b : Bool) → nat_le e.row x.row ≡ b → of_row r (put_entry e xs) ≡ of_row r (e ∷ xs) → of_row r (if b then e ∷ x ∷ xs else x ∷ put_entry e xs) ≡ of_row r (e ∷ x ∷ xs)
    by true t next = refl
    by false t next = swapped (x.row == r) (e.row == r) refl refl (grind (arith, nat_tests)) next

order_row : (r : ℕ) (xs : List Entry) → of_row r (in_row_order xs) ≡ of_row r xs
order_row r [] = refl
order_row r (x ∷ xs) = put_row r x (in_row_order xs) ∙ ap (λ (z : List Entry). cond (x.row == r) (x ∷ z) z) (order_row r xs)

-- entries tie where their rows are the same
tie_is : (a b : ℕ) → (not (is_lt (nat_cmp a b)) && not (is_lt (nat_cmp b a))) ≡ (b == a)
tie_is a b = grind (arith, nat_tests)

filters_same : (p q : Entry → Bool) (xs : List Entry) → ((x : Entry) → p x ≡ q x) → filter p xs ≡ filter q xs
filters_same p q xs h = ap (λ (f : Entry → Bool). filter f xs) (λ i x. h x i)

pub sorted_is : (xs ys : List Entry) → IsSortedByKey (λ e. e.row) nat_cmp ys → IsStableByKey (λ e. e.row) nat_cmp xs ys → ys ≡ in_row_order xs
sorted_is xs ys sorted stable =
    unique ys (in_row_order xs) (rises_from ys (IsNonDecreasingBy-from_sort (λ (e : Entry). e.row) ys sorted)) (order_rises xs)
    (λ r. let at : Entry = record { row = r; value = pos 0 } in
    let one = filters_same (λ e. e.row == r) (ties (λ x y. is_lt (nat_cmp x.row y.row)) at) ys (λ x. sym (tie_is r x.row)) in
    let two = filters_same (ties (λ x y. is_lt (nat_cmp x.row y.row)) at) (λ e. e.row == r) xs (λ x. tie_is r x.row) in
    one ∙ (stable at ∙ (two ∙ sym (order_row r xs))))

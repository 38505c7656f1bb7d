-- Where a text is cut at its spaces.
use Rattle.std.proofs.Common.{◌≡◌, ℕ, ◌+◌, ◌-◌, Bool, true, false, cond, List, [], ◌∷◌, length, take, drop, Some, None, refl, sym, ◌∙◌, arith}
use Rattle.std.specs.Prelude.{◌==◌, position}
use Rattle.std.specs.List.{slice_range, position_or_len, before_first, after_first, count_by, All}
use Rattle.std.proofs.lemmas.List.{take_all, length-drop}
use Rattle.std.proofs.lemmas.List.Splits.{slice_split_first, slice_split_none, length-slice_split}
use Rattle.std.proofs.lemmas.List.Elements.{All-nil, All-cons}
use Rattle.arc_num.proofs.Places.{place_some, place_none}
use Rattle.cert_text.specs.inner.Fields.{split_fields}

-- a list is its elements from a place up to its end
pub slice_range-to_end : (bs : List ℕ) (i : ℕ) → slice_range bs i (length bs) ≡ drop i bs
slice_range-to_end bs i = take_all (length bs - i) (drop i bs) (omega (arith, length-drop i bs))

-- the first field of a text with a space, and the fields behind it
pub first_field : (bs : List ℕ) (i : ℕ) → position (λ b. b == 32) bs ≡ Some i → split_fields bs ≡ take i bs ∷ split_fields (slice_range bs (i + 1) (length bs))
first_field bs i h =
    let at = place_some (λ b. b == 32) bs i h in
    let one : split_fields bs ≡ before_first (λ b. b == 32) bs ∷ split_fields (after_first (λ b. b == 32) bs) = slice_split_first (λ b. b == 32) bs 0 (omega (arith, at.0, at.1)) in
    rw (slice_range-to_end bs (i + 1), at.0) one

-- a byte that is nowhere
pub none_passes : (w : ℕ) (bs : List ℕ) → length bs ≡ position_or_len (λ b. b == w) bs → All (λ b. (b == w) ≡ false) bs
none_passes w [] h = All-nil (λ b. (b == w) ≡ false)
none_passes w (b ∷ bs) h = by (b == w) refl (none_passes w bs)
  where
    by : (t : Bool) → (b == w) ≡ t → (length bs ≡ position_or_len (λ b. b == w) bs → All (λ b. (b == w) ≡ false) bs) → All (λ b. (b == w) ≡ false) (b ∷ bs)
    by true e next = let z : position_or_len (λ b. b == w) (b ∷ bs) ≡ 0 = rw e refl in absurd (omega arith)
    by false e next =
        let z : position_or_len (λ b. b == w) (b ∷ bs) ≡ 1 + position_or_len (λ b. b == w) bs = rw e refl in
        All-cons (λ b. (b == w) ≡ false) b bs e (next (omega arith))

-- the one field of a text without a space
pub last_field : (bs : List ℕ) → position (λ b. b == 32) bs ≡ None → split_fields bs ≡ bs ∷ []
last_field bs h = slice_split_none (λ b. b == 32) bs (none_passes 32 bs (place_none (λ b. b == 32) bs h))

-- the same where fields are left
pub first_left : (done : Bool) (bs : List ℕ) (fields : List (List ℕ)) (i : ℕ) → cond done [] (split_fields bs) ≡ fields → done ≡ false → position (λ b. b == 32) bs ≡ Some i → fields ≡ take i bs ∷ cond done [] (split_fields (slice_range bs (i + 1) (length bs)))
first_left done bs fields i shown left at =
    sym shown ∙ rw left (first_field bs i at)

pub last_left : (done : Bool) (bs : List ℕ) (fields : List (List ℕ)) → cond done [] (split_fields bs) ≡ fields → done ≡ false → position (λ b. b == 32) bs ≡ None → fields ≡ bs ∷ []
last_left done bs fields shown left at = sym shown ∙ rw left (last_field bs at)

-- a text has at least one field
pub none_left : (done : Bool) (bs : List ℕ) (fields : List (List ℕ)) → cond done [] (split_fields bs) ≡ fields → done ≡ (length fields == 0)
none_left true bs fields shown = rw (← shown) refl
none_left false bs fields shown =
    let some : length (split_fields bs) ≡ count_by (λ b. b == 32) bs + 1 = length-slice_split (λ b. b == 32) bs in
    rw (← shown, some) (grind arith)

-- What is made of a list in another order, and bins that are alike in another order.
use Rattle.std.proofs.Common.{zero, suc, ◌≡◌, ℕ, ◌<◌, ◌∙◌, List, [], ◌∷◌, ◌++◌, inl, inr, length, replicate, refl, sym, ap, subst, arith, get_or, set, append_assoc, IsPermutation}
use Rattle.std.specs.List.{flat_map, swap}
use Rattle.std.specs.List.Sorted.{SwapsInRange, apply_swaps}
use Rattle.std.proofs.lemmas.Bool.{cases_order}
use Rattle.std.proofs.lemmas.List.{set-get_or, set-set, set_comm}
use Rattle.std.proofs.lemmas.List.Sorted.{IsPermutation-refl, IsPermutation-trans, IsPermutation-append_left, IsPermutation-append_right, IsPermutation-append_comm, IsPermutation-keeps, IsPermutation-sym}
use Rattle.packing_laws.specs.Packings.{Content, Bins}
use Rattle.packing_laws.specs.Printed.{AreAlike, SameContent}

module _ {X Y : Type 0} (g : X → List Y) where
  -- two pieces at the front change places
  front-swapped : (a b c : List Y) → IsPermutation (a ++ (b ++ c)) (b ++ (a ++ c))
  front-swapped a b c =
      let e : (a ++ b) ++ c ≡ a ++ (b ++ c) = append_assoc a b c in
      let f : (b ++ a) ++ c ≡ b ++ (a ++ c) = append_assoc b a c in
      subst (λ (l : List Y). IsPermutation l (b ++ (a ++ c))) e (subst (λ (l : List Y). IsPermutation ((a ++ b) ++ c) l) f (IsPermutation-append_left c (a ++ b) (b ++ a) (IsPermutation-append_comm a b)))

  -- one element comes to the front, and another takes its place
  exchanged : (xs : List X) (m : ℕ) (x d : X) → m < length xs → IsPermutation (g (get_or xs m d) ++ flat_map g (set xs m x)) (g x ++ flat_map g xs)
  exchanged [] m x d within = absurd (omega arith)
  exchanged (z ∷ zs) zero x d within = front-swapped (g z) (g x) (flat_map g zs)
  exchanged (z ∷ zs) (suc m) x d within =
      let y : X = get_or zs m d in
      let one = front-swapped (g y) (g z) (flat_map g (set zs m x)) in
      let two = IsPermutation-append_right (g z) (g y ++ flat_map g (set zs m x)) (g x ++ flat_map g zs) (exchanged zs m x d (omega arith)) in
      let three = front-swapped (g z) (g x) (flat_map g zs) in
      IsPermutation-trans (g y ++ (g z ++ flat_map g (set zs m x))) (g z ++ (g y ++ flat_map g (set zs m x))) (g x ++ (g z ++ flat_map g zs)) one
      (IsPermutation-trans (g z ++ (g y ++ flat_map g (set zs m x))) (g z ++ (g x ++ flat_map g zs)) (g x ++ (g z ++ flat_map g zs)) two three)

  swapped-up : (xs : List X) (i j : ℕ) (d : X) → i < j → j < length xs → IsPermutation (flat_map g (set (set xs i (get_or xs j d)) j (get_or xs i d))) (flat_map g xs)
  swapped-up [] i j d below within = absurd (omega arith)
  swapped-up (z ∷ zs) i zero d below within = absurd (omega arith)
  swapped-up (z ∷ zs) zero (suc j) d below within = exchanged zs j z d (omega arith)
  swapped-up (z ∷ zs) (suc i) (suc j) d below within = IsPermutation-append_right (g z) (flat_map g (set (set zs i (get_or zs j d)) j (get_or zs i d))) (flat_map g zs) (swapped-up zs i j d (omega arith) (omega arith))

  swapped-below : (xs : List X) (i j : ℕ) → i < j → j < length xs → IsPermutation (flat_map g xs) (flat_map g (swap xs i j))
  swapped-below [] i j below within = absurd (omega arith)
  swapped-below (z ∷ zs) i j below within = IsPermutation-sym (flat_map g (swap (z ∷ zs) i j)) (flat_map g (z ∷ zs)) (swapped-up (z ∷ zs) i j z below within)

  swapped-itself : (xs : List X) (i : ℕ) → i < length xs → swap xs i i ≡ xs
  swapped-itself [] i within = absurd (omega arith)
  swapped-itself (z ∷ zs) i within = set-set (z ∷ zs) i (get_or (z ∷ zs) i z) (get_or (z ∷ zs) i z) ∙ set-get_or (z ∷ zs) i z

  swapped-back : (xs : List X) (i j : ℕ) → (i ≡ j → ⊥) → swap xs i j ≡ swap xs j i
  swapped-back [] i j apart = refl
  swapped-back (z ∷ zs) i j apart = set_comm (z ∷ zs) i j (get_or (z ∷ zs) j z) (get_or (z ∷ zs) i z) apart

  flat_map-swapped : (xs : List X) (i j : ℕ) → i < length xs → j < length xs → IsPermutation (flat_map g xs) (flat_map g (swap xs i j))
  flat_map-swapped xs i j low high = elim (cases_order i j) [
    | inl same ↦ subst (λ (l : List X). IsPermutation (flat_map g xs) (flat_map g l)) (sym (ap (λ (k : ℕ). swap xs i k) (sym same) ∙ swapped-itself xs i low)) (IsPermutation-refl (flat_map g xs))
    | inr other ↦ elim other [
      | inl below ↦ swapped-below xs i j below high
      | inr above ↦ subst (λ (l : List X). IsPermutation (flat_map g xs) (flat_map g l)) (sym (swapped-back xs i j (λ e. omega arith))) (swapped-below xs j i above low)
    ]
  ]

  -- what is made of each element, of a list in another order
  pub flat_map-IsPermutation : (xs ys : List X) → IsPermutation xs ys → IsPermutation (flat_map g xs) (flat_map g ys)
  flat_map-IsPermutation xs ys moved =
      IsPermutation-keeps xs (λ l. IsPermutation (flat_map g xs) (flat_map g l)) (IsPermutation-refl (flat_map g xs))
      (λ l i j low high so. IsPermutation-trans (flat_map g xs) (flat_map g l) (flat_map g (swap l i j)) so (flat_map-swapped l i j low high)) ys moved

-- two bins are alike
abbrev pub IsAlike : ℕ × Content → ℕ × Content → Type 0
IsAlike b c = (b.0 ≡ c.0) × SameContent b.1 c.1

pub AreAlike-cons : (b c : ℕ × Content) (P Q : Bins) → IsAlike b c → AreAlike P Q → AreAlike (b ∷ P) (c ∷ Q)
AreAlike-cons b c P Q alike rest = (alike.0, alike.1, rest)

pub AreAlike-append : (P Q R S : Bins) → AreAlike P Q → AreAlike R S → AreAlike (P ++ R) (Q ++ S)
AreAlike-append [] [] R S first more = more
AreAlike-append [] (c ∷ Q) R S first more = absurd first
AreAlike-append (b ∷ P) [] R S first more = absurd first
AreAlike-append (b ∷ P) (c ∷ Q) R S first more = (first.0, first.1, AreAlike-append P Q R S first.2 more)

pub AreAlike-replicate : (n : ℕ) (b c : ℕ × Content) → IsAlike b c → AreAlike (replicate n b) (replicate n c)
AreAlike-replicate zero b c alike = tt
AreAlike-replicate (suc n) b c alike = (alike.0, alike.1, AreAlike-replicate n b c alike)

pub AreAlike-length : (P Q : Bins) → AreAlike P Q → length P ≡ length Q
AreAlike-length [] [] alike = refl
AreAlike-length [] (c ∷ Q) alike = absurd alike
AreAlike-length (b ∷ P) [] alike = absurd alike
AreAlike-length (b ∷ P) (c ∷ Q) alike = ap suc (AreAlike-length P Q alike.2)

pub AreAlike-at : (P Q : Bins) (k : ℕ) (b c : ℕ × Content) → AreAlike P Q → IsAlike b c → IsAlike (get_or P k b) (get_or Q k c)
AreAlike-at [] [] k b c alike default = default
AreAlike-at [] (e ∷ Q) k b c alike default = absurd alike
AreAlike-at (a ∷ P) [] k b c alike default = absurd alike
AreAlike-at (a ∷ P) (e ∷ Q) zero b c alike default = (alike.0, alike.1)
AreAlike-at (a ∷ P) (e ∷ Q) (suc k) b c alike default = AreAlike-at P Q k b c alike.2 default

AreAlike-set : (P Q : Bins) (k : ℕ) (b c : ℕ × Content) → AreAlike P Q → IsAlike b c → AreAlike (set P k b) (set Q k c)
AreAlike-set [] [] k b c alike new = tt
AreAlike-set [] (e ∷ Q) k b c alike new = absurd alike
AreAlike-set (a ∷ P) [] k b c alike new = absurd alike
AreAlike-set (a ∷ P) (e ∷ Q) zero b c alike new = (new.0, new.1, alike.2)
AreAlike-set (a ∷ P) (e ∷ Q) (suc k) b c alike new = (alike.0, alike.1, AreAlike-set P Q k b c alike.2 new)

AreAlike-swap : (P Q : Bins) (i j : ℕ) → AreAlike P Q → AreAlike (swap P i j) (swap Q i j)
AreAlike-swap [] [] i j alike = tt
AreAlike-swap [] (e ∷ Q) i j alike = absurd alike
AreAlike-swap (a ∷ P) [] i j alike = absurd alike
AreAlike-swap (a ∷ P) (e ∷ Q) i j alike =
    let first : IsAlike a e = (alike.0, alike.1) in
    AreAlike-set (set (a ∷ P) i (get_or (a ∷ P) j a)) (set (e ∷ Q) i (get_or (e ∷ Q) j e)) j (get_or (a ∷ P) i a) (get_or (e ∷ Q) i e)
    (AreAlike-set (a ∷ P) (e ∷ Q) i (get_or (a ∷ P) j a) (get_or (e ∷ Q) j e) alike (AreAlike-at (a ∷ P) (e ∷ Q) j a e alike first))
    (AreAlike-at (a ∷ P) (e ∷ Q) i a e alike first)

AreAlike-swaps : (P Q : Bins) (moves : List (ℕ × ℕ)) → AreAlike P Q → AreAlike (apply_swaps P moves) (apply_swaps Q moves)
AreAlike-swaps P Q [] alike = alike
AreAlike-swaps P Q (m ∷ ms) alike = AreAlike-swap (apply_swaps P ms) (apply_swaps Q ms) m.0 m.1 (AreAlike-swaps P Q ms alike)

-- where the second bins come in another order, so can the first
pub AreAlike-rearranged : (P Q R : Bins) → AreAlike P Q → IsPermutation Q R → (S : Bins) × IsPermutation P S × AreAlike S R
AreAlike-rearranged P Q R alike moved =
    let same : length Q ≡ length P = sym (AreAlike-length P Q alike) in (
      apply_swaps P moved.moves,
      record { moves = moved.moves; below = subst (λ (n : ℕ). SwapsInRange n moved.moves) same moved.below; is = refl },
      subst (λ (l : Bins). AreAlike (apply_swaps P moved.moves) l) (sym moved.is) (AreAlike-swaps P Q moved.moves alike),
    )

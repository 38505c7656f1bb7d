-- Pairs whose numbers ascend: what is found is what stands there, and what stands there is found.
use Rattle.std.proofs.Common.{suc, zero, ◌≡◌, ℕ, ◌+◌, ◌<◌, ◌^◌, List, [], ◌∷◌, ◌++◌, length, Some, refl, sym, ap, subst, ◌∙◌, arith, append_assoc}
use Rattle.std.specs.Prelude.{flat_map, AllPairs, All}
use Rattle.std.proofs.lemmas.Option.{some_pair_parts}
use Rattle.std.proofs.lemmas.List.Elements.{All-nil, All-cons, All-head, All-tail, All-weaker}
use Rattle.std.proofs.lemmas.List.Kept.{AllPairs-cons}
use Rattle.std.proofs.lemmas.List.Concat.{flat_map-cons}
use Rattle.cert_text.specs.Lines.{IsBetween}
use Rattle.cert_text.specs.inner.Fields.{◌>>=◌, Found, widest, pairs_at}
use Rattle.cert_text.proofs.Places.{bind_some}

-- pairs above a number, in order, with numbers of 32 bits and values in their range
pub record IsRow {A : Type 0} (number : A → ℕ) (Value : A → Type 0) (last : ℕ) (xs : List A) : Type 0 where
  pub above : All (λ x. last < number x) xs
  pub order : AllPairs (λ x y. number x < number y) xs
  pub small : All (λ x. number x < 2 ^ 32) xs
  pub values : All Value xs

module _ {A : Type 0} (number : A → ℕ) (Value : A → Type 0) where
  abbrev Before : A → A → Type 0
  Before x y = number x < number y

  pub row_nil : (last : ℕ) → IsRow number Value last []
  row_nil last = record { above = All-nil (λ x. last < number x); order = λ i j d lt within. absurd (omega arith); small = All-nil (λ x. number x < 2 ^ 32); values = All-nil Value }

  pub row_cons : (last : ℕ) (x : A) (xs : List A) → IsBetween (last + 1) widest (number x) → Value x → IsRow number Value (number x) xs → IsRow number Value last (x ∷ xs)
  row_cons last x xs range value row = record {
    above = All-cons (λ y. last < number y) x xs (omega (arith, range.0)) (All-weaker (λ y. number x < number y) (λ y. last < number y) (λ y h. omega (arith, range.0)) xs row.above);
    order = AllPairs-cons Before x xs row.above row.order;
    small = All-cons (λ y. number y < 2 ^ 32) x xs (omega (arith, range.1)) row.small;
    values = All-cons Value x xs value row.values;
  }

  pub row_tail : (last : ℕ) (x : A) (xs : List A) → IsRow number Value last (x ∷ xs) → IsBetween (last + 1) widest (number x) × Value x × IsRow number Value (number x) xs
  row_tail last x xs row =
      let small = All-head (λ y. number y < 2 ^ 32) x xs row.small in
      let above = All-head (λ y. last < number y) x xs row.above in (
        (omega (arith, above), omega (arith, small)),
        All-head Value x xs row.values,
        record {
          above = λ k d within. row.order 0 (suc k) d (omega arith) (omega arith);
          order = λ i j d lt within. row.order (suc i) (suc j) d (omega arith) (omega arith);
          small = All-tail (λ y. number y < 2 ^ 32) x xs row.small;
          values = All-tail Value x xs row.values;
        },
      )

-- a reader of one pair that finds its spelling and nothing else
pub record ReadsPair {A : Type 0} (one : ℕ → List (List ℕ) → Found A) (number : A → ℕ) (spell : A → List (List ℕ)) (Value : A → Type 0) : Type 0 where
  pub takes : (last : ℕ) (fields : List (List ℕ)) (x : A) (left : List (List ℕ)) → one last fields ≡ Some (x, left) → (fields ≡ spell x ++ left) × IsBetween (last + 1) widest (number x) × Value x
  pub again : (last : ℕ) (x : A) (left : List (List ℕ)) → IsBetween (last + 1) widest (number x) → Value x → one last (spell x ++ left) ≡ Some (x, left)

pub record TakesRow {A : Type 0} (number : A → ℕ) (spell : A → List (List ℕ)) (Value : A → Type 0) (count last : ℕ) (fields : List (List ℕ)) (xs : List A) (left : List (List ℕ)) : Type 0 where
  pub text : fields ≡ flat_map spell xs ++ left
  pub count_is : length xs ≡ count
  pub row : IsRow number Value last xs

module _ {A : Type 0} {one : ℕ → List (List ℕ) → Found A} {number : A → ℕ} {spell : A → List (List ℕ)} {Value : A → Type 0} (reads : ReadsPair one number spell Value) where
  pub pairs_take : (count last : ℕ) (fields : List (List ℕ)) (xs : List A) (left : List (List ℕ)) → pairs_at one number count last fields ≡ Some (xs, left) → TakesRow number spell Value count last fields xs left
  unfolding pairs_at
  pairs_take zero last fields xs left e =
      let parts = some_pair_parts [] xs fields left e in
      subst (λ ys. TakesRow number spell Value 0 last fields ys left) parts.0 (record { text = parts.1; count_is = refl; row = row_nil number Value last })
  pairs_take (suc count) last fields xs left e =
      let a = bind_some (one last fields) (λ first. pairs_at one number count (number first.0) first.1 >>= λ others. Some (first.0 ∷ others.0, others.1)) (xs, left) e in
      let x = a.0.0 in
      let b = bind_some (pairs_at one number count (number x) a.0.1) (λ others. Some (x ∷ others.0, others.1)) (xs, left) a.2 in
      let one_taken = reads.takes last fields x a.0.1 a.1 in
      let others = pairs_take count (number x) a.0.1 b.0.0 b.0.1 b.1 in
      let parts = some_pair_parts (x ∷ b.0.0) xs b.0.1 left b.2 in
      let text : fields ≡ flat_map spell (x ∷ b.0.0) ++ left =
      one_taken.0 ∙ ap (λ w. spell x ++ w) (others.text ∙ ap (λ w. flat_map spell b.0.0 ++ w) parts.1) ∙ sym (ap (λ w. w ++ left) (flat_map-cons spell x b.0.0) ∙ append_assoc (spell x) (flat_map spell b.0.0) left) in
      subst (λ ys. TakesRow number spell Value (suc count) last fields ys left) parts.0 (record { text = text; count_is = omega (arith, others.count_is); row = row_cons number Value last x b.0.0 one_taken.1 one_taken.2 others.row })

  pub pairs_again : (xs : List A) (last : ℕ) (left : List (List ℕ)) → IsRow number Value last xs → pairs_at one number (length xs) last (flat_map spell xs ++ left) ≡ Some (xs, left)
  unfolding pairs_at
  pairs_again [] last left row = refl
  pairs_again (x ∷ xs) last left row =
      let parts = row_tail number Value last x xs row in
      let count : length (x ∷ xs) ≡ suc (length xs) = omega arith in
      let text : flat_map spell (x ∷ xs) ++ left ≡ spell x ++ (flat_map spell xs ++ left) = ap (λ w. w ++ left) (flat_map-cons spell x xs) ∙ append_assoc (spell x) (flat_map spell xs) left in
      let step : pairs_at one number (suc (length xs)) last (spell x ++ (flat_map spell xs ++ left)) ≡ Some (x ∷ xs, left) = rw (reads.again last x (flat_map spell xs ++ left) parts.0 parts.1, pairs_again xs (number x) left parts.2) refl in
      ap (λ n. pairs_at one number n last (flat_map spell (x ∷ xs) ++ left)) count ∙ ap (λ w. pairs_at one number (suc (length xs)) last w) text ∙ step

-- A list in which neighbours that are alike become one: what it keeps, and its order.
use Rattle.std.proofs.Common.{zero, suc, ◌≡◌, ℕ, ◌+◌, ◌∙◌, List, [], ◌∷◌, ◌++◌, true, false, sum_by, All, refl, sym, ap, arith, get_or, append_assoc, append-nil}
use Rattle.std.specs.List.{fold, flat_map, AllPairs}
use Rattle.std.specs.List.Sorted.{IsStrictlySortedBy, IsSorted}
use Rattle.std.specs.Cmp.{IsTotalOrder}
use Rattle.std.specs.Ordering.{is_eq, is_lt, ordering_reverse}
use Rattle.std.specs.declared.cmp.Ordering.{Ordering}
use Rattle.std.specs.declared.cmp.Ordering.TheVariants.{Less, Equal, Greater}
use Rattle.std.proofs.lemmas.Bool.{true≢false, false≢true, cond_both, cond-true, cond-false}
use Rattle.std.proofs.lemmas.List.Elements.{All-cons, All-head, All-tail, All-nil, All-from_recursion, recursion_from_All}
use Rattle.std.proofs.lemmas.List.Sums.{sum_by-cons}
use Rattle.std.proofs.lemmas.List.Sorted.{ranks_by, sorted_far}
use Rattle.packing_laws.specs.inner.Tidying.{put_last, merged}

pub equal_from : (a : Ordering) → is_eq a ≡ true → a ≡ Equal
equal_from Less h = absurd (false≢true h)
equal_from Equal h = refl
equal_from Greater h = absurd (false≢true h)

less_from : (a : Ordering) → (is_lt a ≡ false → ⊥) → a ≡ Less
less_from Less h = refl
less_from Equal h = absurd (h refl)
less_from Greater h = absurd (h refl)

above_reversed : (a : Ordering) → is_lt a ≡ false → is_eq (ordering_reverse a) ≡ false → ordering_reverse a ≡ Less
above_reversed Less p q = absurd (true≢false p)
above_reversed Equal p q = absurd (true≢false q)
above_reversed Greater p q = refl

module _ {X : Type 0} (order : X → X → Ordering) (join : X → X → X) where
  -- at the end of a list that has a last element
  put_last-push : (xs : List X) (y x : X) (l : List X) → put_last order join (y ∷ []) x ≡ l → put_last order join (xs ++ y ∷ []) x ≡ xs ++ l
  put_last-push [] y x l h = h
  put_last-push (z ∷ []) y x l h = ap (λ (ys : List X). z ∷ ys) h
  put_last-push (z ∷ w ∷ ws) y x l h = ap (λ (ys : List X). z ∷ ys) (put_last-push (w ∷ ws) y x l h)

  pub put_last-joined : (xs : List X) (y x : X) → is_eq (order y x) ≡ true → put_last order join (xs ++ y ∷ []) x ≡ xs ++ join y x ∷ []
  put_last-joined xs y x same = put_last-push xs y x (join y x ∷ []) (cond-true (is_eq (order y x)) (join y x ∷ []) (y ∷ x ∷ []) same)

  pub put_last-apart : (xs : List X) (y x : X) → is_eq (order y x) ≡ false → put_last order join (xs ++ y ∷ []) x ≡ (xs ++ y ∷ []) ++ x ∷ []
  put_last-apart xs y x apart = put_last-push xs y x (y ∷ x ∷ []) (cond-false (is_eq (order y x)) (join y x ∷ []) (y ∷ x ∷ []) apart) ∙ sym (append_assoc xs (y ∷ []) (x ∷ []))

  -- a sum to which two that are joined give as much as both
  module _ (f : X → ℕ) (adds : (y x : X) → order y x ≡ Equal → f (join y x) ≡ f y + f x) where
    sum_by-put_last : (xs : List X) (x : X) → sum_by f (put_last order join xs x) ≡ sum_by f xs + f x
    sum_by-put_last [] x = omega arith
    sum_by-put_last (y ∷ []) x =
        cond_both (is_eq (order y x)) (join y x ∷ []) (y ∷ x ∷ []) (λ l. sum_by f l ≡ sum_by f (y ∷ []) + f x)
        (λ e. let both : f (join y x) ≡ f y + f x = adds y x (equal_from (order y x) e) in omega arith)
        (λ _. omega arith)
    sum_by-put_last (y ∷ z ∷ zs) x =
        let rest : sum_by f (put_last order join (z ∷ zs) x) ≡ sum_by f (z ∷ zs) + f x = sum_by-put_last (z ∷ zs) x in
        let new : sum_by f (y ∷ put_last order join (z ∷ zs) x) ≡ f y + sum_by f (put_last order join (z ∷ zs) x) = sum_by-cons f y (put_last order join (z ∷ zs) x) in
        let old : sum_by f (y ∷ z ∷ zs) ≡ f y + sum_by f (z ∷ zs) = sum_by-cons f y (z ∷ zs) in
        new ∙ ap (λ n. f y + n) rest ∙ (let e : f y + (sum_by f (z ∷ zs) + f x) ≡ f y + sum_by f (z ∷ zs) + f x = omega arith in e) ∙ ap (λ n. n + f x) (sym old)

    sum_by-merged_from : (done xs : List X) → sum_by f (fold (put_last order join) done xs) ≡ sum_by f done + sum_by f xs
    sum_by-merged_from done [] = omega arith
    sum_by-merged_from done (x ∷ xs) =
        let rest = sum_by-merged_from (put_last order join done x) xs in
        let put : sum_by f (put_last order join done x) ≡ sum_by f done + f x = sum_by-put_last done x in
        let next : sum_by f (x ∷ xs) ≡ f x + sum_by f xs = sum_by-cons f x xs in
        rest ∙ ap (λ n. n + sum_by f xs) put ∙ (let e : sum_by f done + f x + sum_by f xs ≡ sum_by f done + (f x + sum_by f xs) = omega arith in e) ∙ ap (λ n. sum_by f done + n) (sym next)

    pub sum_by-merged : (xs : List X) → sum_by f (merged order join xs) ≡ sum_by f xs
    sum_by-merged xs = let whole : sum_by f (merged order join xs) ≡ 0 + sum_by f xs = sum_by-merged_from [] xs in omega arith

  -- what is made of each element, where two that are joined give what they give one after the other
  module _ {Y : Type 0} (g : X → List Y) (adds : (y x : X) → order y x ≡ Equal → g (join y x) ≡ g y ++ g x) where
    flat_map-put_last : (xs : List X) (x : X) → flat_map g (put_last order join xs x) ≡ flat_map g xs ++ g x
    flat_map-put_last [] x = append-nil (g x)
    flat_map-put_last (y ∷ []) x =
        cond_both (is_eq (order y x)) (join y x ∷ []) (y ∷ x ∷ []) (λ l. flat_map g l ≡ (g y ++ []) ++ g x)
        (λ e. append-nil (g (join y x)) ∙ adds y x (equal_from (order y x) e) ∙ ap (λ (l : List Y). l ++ g x) (sym (append-nil (g y))))
        (λ _. ap (λ (l : List Y). g y ++ l) (append-nil (g x)) ∙ ap (λ (l : List Y). l ++ g x) (sym (append-nil (g y))))
    flat_map-put_last (y ∷ z ∷ zs) x =
        ap (λ (l : List Y). g y ++ l) (flat_map-put_last (z ∷ zs) x) ∙ sym (append_assoc (g y) (flat_map g (z ∷ zs)) (g x))

    flat_map-merged_from : (done xs : List X) → flat_map g (fold (put_last order join) done xs) ≡ flat_map g done ++ flat_map g xs
    flat_map-merged_from done [] = sym (append-nil (flat_map g done))
    flat_map-merged_from done (x ∷ xs) =
        flat_map-merged_from (put_last order join done x) xs ∙ ap (λ (l : List Y). l ++ flat_map g xs) (flat_map-put_last done x) ∙ append_assoc (flat_map g done) (g x) (flat_map g xs)

    pub flat_map-merged : (xs : List X) → flat_map g (merged order join xs) ≡ flat_map g xs
    flat_map-merged xs = flat_map-merged_from [] xs

  -- what holds of all that goes in, and of two that are joined, holds of all that comes out
  module _ (P : X → Type 0) (joins : (y x : X) → order y x ≡ Equal → P y → P x → P (join y x)) where
    All-put_last : (xs : List X) (x : X) → All P xs → P x → All P (put_last order join xs x)
    All-put_last [] x all holds = All-cons P x [] holds (All-nil P)
    All-put_last (y ∷ []) x all holds =
        cond_both (is_eq (order y x)) (join y x ∷ []) (y ∷ x ∷ []) (All P)
        (λ e. All-cons P (join y x) [] (joins y x (equal_from (order y x) e) (All-head P y [] all) holds) (All-nil P))
        (λ _. All-cons P y (x ∷ []) (All-head P y [] all) (All-cons P x [] holds (All-nil P)))
    All-put_last (y ∷ z ∷ zs) x all holds =
        All-cons P y (put_last order join (z ∷ zs) x) (All-head P y (z ∷ zs) all) (All-put_last (z ∷ zs) x (All-tail P y (z ∷ zs) all) holds)

    All-merged_from : (done xs : List X) → All P done → All P xs → All P (fold (put_last order join) done xs)
    All-merged_from done [] all rest = all
    All-merged_from done (x ∷ xs) all rest =
        All-merged_from (put_last order join done x) xs (All-put_last done x all (All-head P x xs rest)) (All-tail P x xs rest)

    pub All-merged : (xs : List X) → All P xs → All P (merged order join xs)
    All-merged xs all = All-merged_from [] xs (All-nil P) all

  -- two that are joined stand in the order where the first of them does
  module _ (o : IsTotalOrder order) (stands : (z y x : X) → order z (join y x) ≡ order z y) where
    below_next : (k x y : X) → order k x ≡ Less → is_lt (order y x) ≡ false → order k y ≡ Less
    below_next k x y l n = less_from (order k y) (λ f. true≢false (ap is_lt (sym l) ∙ (ranks_by o (λ (a : X). a)).chain k y x f n))

    strict-put_last : (done : List X) (x : X) → IsStrictlySortedBy order done → All (λ m. is_lt (order x m) ≡ false) done → IsStrictlySortedBy order (put_last order join done x)
    unfolding IsStrictlySortedBy
    strict-put_last [] x strict above = (tt, tt)
    strict-put_last (y ∷ []) x strict above =
        cond_both (is_eq (order y x)) (join y x ∷ []) (y ∷ x ∷ []) (IsStrictlySortedBy order)
        (λ _. (tt, tt))
        (λ apart.
        let back : order y x ≡ ordering_reverse (order x y) = o.antisymm y x in
        let less : order y x ≡ Less = back ∙ above_reversed (order x y) (All-head (λ m. is_lt (order x m) ≡ false) y [] above) (ap is_eq (sym back) ∙ apart) in
        ((less, tt), (tt, tt)))
    strict-put_last (y ∷ z ∷ zs) x strict above =
        let rest : All (λ m. is_lt (order x m) ≡ false) (z ∷ zs) = All-tail (λ m. is_lt (order x m) ≡ false) y (z ∷ zs) above in
        let behind : All (λ w. order y w ≡ Less) (z ∷ zs) = All-from_recursion (λ w. order y w ≡ Less) (z ∷ zs) strict.0 in
        let last : order y x ≡ Less = below_next y z x (All-head (λ w. order y w ≡ Less) z zs behind) (All-head (λ m. is_lt (order x m) ≡ false) z zs rest) in
        (recursion_from_All (λ w. order y w ≡ Less) (put_last order join (z ∷ zs) x) (All-put_last (λ w. order y w ≡ Less) (λ a b _ less _. stands y a b ∙ less) (z ∷ zs) x behind last), strict-put_last (z ∷ zs) x strict.1 rest)

    strict-merged_from : (done xs : List X) → IsStrictlySortedBy order done → AllPairs (λ a b. is_lt (order b a) ≡ false) xs → All (λ r. All (λ m. is_lt (order r m) ≡ false) done) xs → IsStrictlySortedBy order (fold (put_last order join) done xs)
    strict-merged_from done [] strict rises ahead = strict
    strict-merged_from done (x ∷ xs) strict rises ahead =
        strict-merged_from (put_last order join done x) xs
        (strict-put_last done x strict (All-head (λ r. All (λ m. is_lt (order r m) ≡ false) done) x xs ahead))
        (λ i j d below within. rises (suc i) (suc j) d (omega arith) (omega arith))
        (λ k d within. All-put_last (λ m. is_lt (order (get_or xs k d) m) ≡ false) (λ a b _ low _. ap is_lt (stands (get_or xs k d) a b) ∙ low) done x (ahead (suc k) d (omega arith)) (rises zero (suc k) d (omega arith) (omega arith)))

    pub strict-merged : (xs : List X) → AllPairs (λ a b. is_lt (order b a) ≡ false) xs → IsStrictlySortedBy order (merged order join xs)
    unfolding IsStrictlySortedBy
    strict-merged xs rises = strict-merged_from [] xs tt rises (λ k d within. All-nil (λ m. is_lt (order (get_or xs k d) m) ≡ false))

-- in a sorted list nothing is below what stands before it
pub pairs_from_sorted : {X : Type 0} {order : X → X → Ordering} → IsTotalOrder order → (xs : List X) → IsSorted order xs → AllPairs (λ a b. is_lt (order b a) ≡ false) xs
pairs_from_sorted o xs sorted i j d below within = sorted_far _ (ranks_by o (λ a. a)) xs sorted i j d (omega arith) within

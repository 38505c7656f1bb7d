-- Numbers in sorted lists, and ranks.
use Rattle.std.proofs.Common.{◌≡◌, ◌↔◌, ℕ, ◌+◌, ◌-◌, ◌<◌, ◌≤◌, Ordering, List, [], ◌∷◌, ◌++◌, length, get_or, refl, sym, ap, ◌∙◌, subst, ⊎_elim, arith}
use Rattle.std.specs.Prelude.{Contains}
use Rattle.std.specs.Cmp.{IsTotalOrder}
use Rattle.std.specs.Ordering.{ordering_index}
use Rattle.std.specs.List.Sorted.{IsStrictlySortedBy, IsNonDecreasingBy, IsPartitionPoint}
use Rattle.std.specs.declared.cmp.Ordering.TheVariants.{Less, Equal, Greater}
use Rattle.std.proofs.lemmas.Bool.{cases_lt}
use Rattle.std.proofs.lemmas.Cmp.{tied_itself}
use Rattle.std.proofs.lemmas.List.{get_or_default, get_or_append_left}
use Rattle.std.proofs.Math.Seq.{get_or-append_seam}
use Rattle.std.proofs.lemmas.Map.Keys.{Less-from_sorted}
use Rattle.label_graph.proofs.Fewer.{no_longer}
use Rattle.joint_graph.specs.Numbers.{IsNumber}
use Rattle.joint_graph.specs.inner.Ranks.{AreRanks}

at_most_two : (o : Ordering) → ordering_index o ≤ 2
at_most_two Less = omega arith
at_most_two Equal = omega arith
at_most_two Greater = omega arith

module _ {X : Type 0} (cmp : X → X → Ordering) (total : IsTotalOrder cmp) where
  pub never-less : (x : X) → cmp x x ≡ Less → ⊥
  never-less x h = let bad : Equal ≡ Less = sym (tied_itself total x) ∙ h in cc

  module _ (sorted : List X) (up : IsStrictlySortedBy cmp sorted) where
    lower-less : (m n : ℕ) (x y : X) → IsNumber sorted m x → IsNumber sorted n y → m < n → cmp x y ≡ Less
    lower-less m n x y one two lt =
        let less : cmp (get_or sorted (m - 1) x) (get_or sorted (n - 1) x) ≡ Less = Less-from_sorted cmp sorted (m - 1) (n - 1) x up (omega (arith, one.low)) (omega (arith, two.low, two.high)) in
        subst (λ (z : X). cmp z y ≡ Less) (one.here x) (subst (λ (z : X). cmp (get_or sorted (m - 1) x) z ≡ Less) (two.here x) less)

    pub number-one : (m n : ℕ) (x y : X) → IsNumber sorted m x → IsNumber sorted n y → x ≡ y → m ≡ n
    number-one m n x y one two same =
        ⊎_elim
        (λ lt. absurd (never-less y (subst (λ (z : X). cmp z y ≡ Less) same (lower-less m n x y one two lt))))
        (λ ge. ⊎_elim
        (λ gt. absurd (never-less x (subst (λ (z : X). cmp z x ≡ Less) (sym same) (lower-less n m y x two one gt))))
        (λ le. omega arith)
        (cases_lt n m))
        (cases_lt m n)

    pub number-less : (m n : ℕ) (x y : X) → IsNumber sorted m x → IsNumber sorted n y → cmp x y ≡ Less → m < n
    number-less m n x y one two less =
        ⊎_elim
        (λ lt. lt)
        (λ ge. ⊎_elim
        (λ gt. absurd (never-less x (total.trans x y x less (lower-less n m y x two one gt))))
        (λ le.
        let equal : m ≡ n = omega arith in
        let same : x ≡ y = sym (one.here x) ∙ ap (λ (k : ℕ). get_or sorted (k - 1) x) equal ∙ two.here x in
        absurd (never-less y (subst (λ (z : X). cmp z y ≡ Less) same less)))
        (cases_lt n m))
        (cases_lt m n)

  module _ (exact : (x y : X) → cmp x y ≡ Equal → x ≡ y) where
    rank_rises : (s t wanted : X) → cmp s t ≡ Less → (o : Ordering) → cmp t wanted ≡ o → ordering_index (cmp s wanted) ≤ ordering_index (cmp t wanted)
    rank_rises s t wanted before Less e =
        let low : ordering_index (cmp s wanted) ≡ 0 = ap ordering_index (total.trans s t wanted before e) in
        omega arith
    rank_rises s t wanted before Equal e =
        let less : cmp s wanted ≡ Less = subst (λ (z : X). cmp s z ≡ Less) (exact t wanted e) before in
        let low : ordering_index (cmp s wanted) ≡ 0 = ap ordering_index less in
        omega arith
    rank_rises s t wanted before Greater e =
        let high : ordering_index (cmp t wanted) ≡ 2 = ap ordering_index e in
        omega (arith, at_most_two (cmp s wanted))

    searchable : (xs : List X) (wanted : X) → IsStrictlySortedBy cmp xs → IsNonDecreasingBy (λ (y : X). ordering_index (cmp y wanted)) xs
    searchable xs wanted up i j d le in_range =
        ⊎_elim
        (λ lt. rank_rises (get_or xs i d) (get_or xs j d) wanted (Less-from_sorted cmp xs i j d up lt in_range) (cmp (get_or xs j d) wanted) refl)
        (λ ge. let same : i ≡ j = omega arith in
        let e : ordering_index (cmp (get_or xs i d) wanted) ≡ ordering_index (cmp (get_or xs j d) wanted) = ap (λ (n : ℕ). ordering_index (cmp (get_or xs n d) wanted)) same in
        omega arith)
        (cases_lt i j)

    pub never-missed : (xs : List X) (wanted : X) (at : ℕ) → IsStrictlySortedBy cmp xs → Contains xs wanted → (IsNonDecreasingBy (λ (y : X). ordering_index (cmp y wanted)) xs → IsPartitionPoint (λ (y : X). cmp y wanted ≡ Less) (λ (y : X). cmp y wanted ≡ Greater) xs at) → ⊥
    never-missed xs wanted at up there missed =
        let parts = missed (searchable xs wanted up) in
        ⊎_elim
        (λ lt. never-less wanted (subst (λ (z : X). cmp z wanted ≡ Less) there.2 (parts.0 there.0 wanted (omega arith) lt)))
        (λ ge.
        let greater : cmp wanted wanted ≡ Greater = subst (λ (z : X). cmp z wanted ≡ Greater) there.2 (parts.1 there.0 wanted ge there.1) in
        let bad : Equal ≡ Greater = sym (tied_itself total wanted) ∙ greater in cc)
        (cases_lt there.0 at)

    pub found-number : (xs : List X) (wanted : X) (at : ℕ) → at < length xs → ((d : X) → cmp (get_or xs at d) wanted ≡ Equal) → IsNumber xs (at + 1) wanted
    found-number xs wanted at lt equal =
        let same : at + 1 - 1 ≡ at = omega arith in
        record { low = omega arith; high = omega arith; here = λ d. ap (λ (i : ℕ). get_or xs i d) same ∙ exact (get_or xs at d) wanted (equal d) }

  module _ (labels distinct : List X) (numbers : List ℕ) (are : AreRanks cmp labels distinct numbers) where
    pub rank-same : (i j : ℕ) (d : X) → i < length labels → j < length labels → get_or numbers i 0 ≡ get_or numbers j 0 → get_or labels i d ≡ get_or labels j d
    rank-same i j d one two same = sym ((are.each i d one).here d) ∙ ap (λ (k : ℕ). get_or distinct (k - 1) d) same ∙ (are.each j d two).here d

    pub rank-equal : (i j : ℕ) (d : X) → i < length labels → j < length labels → get_or labels i d ≡ get_or labels j d → get_or numbers i 0 ≡ get_or numbers j 0
    rank-equal i j d one two same = number-one distinct are.sorted (get_or numbers i 0) (get_or numbers j 0) (get_or labels i d) (get_or labels j d) (are.each i d one) (are.each j d two) same

    pub rank-less : (i j : ℕ) (d : X) → i < length labels → j < length labels → cmp (get_or labels i d) (get_or labels j d) ≡ Less → get_or numbers i 0 < get_or numbers j 0
    rank-less i j d one two less = number-less distinct are.sorted (get_or numbers i 0) (get_or numbers j 0) (get_or labels i d) (get_or labels j d) (are.each i d one) (are.each j d two) less

    -- each rank is that of some label
    pub rank-onto : (d : X) (w : ℕ) → 1 ≤ w → w ≤ length distinct → (i : ℕ) × (i < length labels) × (get_or numbers i 0 ≡ w)
    rank-onto d w low high =
        let x = get_or distinct (w - 1) d in
        let there : Contains distinct x = (w - 1, omega arith, sym (get_or_default distinct (w - 1) d x (omega arith))) in
        let at = (are.exact x).0 there in
        let here : get_or labels at.0 d ≡ x = get_or_default labels at.0 d x at.1 ∙ at.2 in
        let number : IsNumber distinct w x = record { low = low; high = high; here = λ y. get_or_default distinct (w - 1) y d (omega arith) } in
        (at.0, at.1, number-one distinct are.sorted (get_or numbers at.0 0) w (get_or labels at.0 d) x (are.each at.0 d at.1) number here)

-- there are no more different labels than labels
pub ranks-fewer : {X : Type 0} (cmp : X → X → Ordering) → IsTotalOrder cmp → (labels distinct : List X) → IsStrictlySortedBy cmp distinct → ((x : X) → Contains distinct x ↔ Contains labels x) → length distinct ≤ length labels
ranks-fewer {X} cmp total labels distinct up exact =
    no_longer (λ (x y : X). cmp x y ≡ Less) (never-less cmp total) (λ (y x : X). y ≡ x) (λ y x z a b. sym a ∙ b) distinct labels
    (λ i j d lt high. Less-from_sorted cmp distinct i j d up lt high)
    (λ x m. (x, (exact x).0 m, refl))

-- one more number
pub numbers-more : {X : Type 0} (distinct labels : List X) (k : ℕ) (x : X) (old : List ℕ) (n : ℕ) → k < length labels → x ≡ get_or labels k x → length old ≡ k → ((i : ℕ) (d : X) → i < k → IsNumber distinct (get_or old i 0) (get_or labels i d)) → IsNumber distinct n x → (i : ℕ) (d : X) → i < k + 1 → IsNumber distinct (get_or (old ++ n ∷ []) i 0) (get_or labels i d)
numbers-more {X} distinct labels k x old n lt at sized before number i d low =
    ⊎_elim
    (λ early. subst (λ (m : ℕ). IsNumber distinct m (get_or labels i d)) (sym (get_or_append_left old (n ∷ []) 0 i (omega arith))) (before i d early))
    (λ late.
    let same : i ≡ length old = omega arith in
    let last : get_or (old ++ n ∷ []) i 0 ≡ n = ap (λ (j : ℕ). get_or (old ++ n ∷ []) j 0) same ∙ get_or-append_seam old n [] 0 in
    let here : x ≡ get_or labels i d = at ∙ get_or_default labels k x d lt ∙ ap (λ (j : ℕ). get_or labels j d) (let e : k ≡ i = omega arith in e) in
    subst (λ (m : ℕ). IsNumber distinct m (get_or labels i d)) (sym last) (subst (λ (y : X). IsNumber distinct n y) here number))
    (cases_lt i k)

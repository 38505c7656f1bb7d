-- Bins that can't be joined, as they are written, in another order, and in the printed form.
use Rattle.std.proofs.Common.{zero, suc, ◌≡◌, ℕ, ◌+◌, ◌-◌, ◌*◌, ◌<◌, ◌≤◌, ◌∙◌, ◌⊎◌, Bool, inl, inr, List, [], ◌∷◌, ◌++◌, length, replicate, nat_lt, swap, slice_index, All, AllPairs, IsPermutation, refl, sym, ap, subst, arith, get_or}
use Rattle.std.proofs.lemmas.Bool.{cases_eq, cases_lt}
use Rattle.std.proofs.lemmas.List.{get_or_default}
use Rattle.std.proofs.lemmas.List.Elements.{All-append, All-replicate, All-nil}
use Rattle.std.proofs.lemmas.List.Kept.{AllPairs-cons, AllPairs-filter}
use Rattle.std.proofs.lemmas.List.Edits.{length-swap, swapped_from_swap}
use Rattle.std.proofs.lemmas.List.Sorted.{IsPermutation-keeps}
use Rattle.std.proofs.lemmas.List.Sums.{sum_by-append}
use Rattle.std.proofs.lemmas.Option.{get_or_from_slice_get, slice_get_within}
use Rattle.packing_laws.specs.declared.packings.Count.{Count}
use Rattle.packing_laws.specs.declared.packings.Bin.{Bin}
use Rattle.packing_laws.specs.Instances.{InstanceValue, form_at, type_at}
use Rattle.packing_laws.specs.Packings.{Content, Bins, Exists, Fits, IsJoined, weight_in}
use Rattle.packing_laws.specs.Printed.{bins_of, filled_bins, units_in, AreAlike, IsTidied, IsWrittenPacking}
use Rattle.packing_laws.specs.inner.Joining.{StayApart, AreJoined}
use Rattle.packing_laws.proofs.Sums.{All-first, All-others}
use Rattle.packing_laws.proofs.Rearranged.{IsAlike, AreAlike-at, AreAlike-length}
use Rattle.packing_laws.proofs.SameContents.{same-weight}
use Rattle.packing_laws.proofs.CapLaws.{caps-alike, caps-swapped}
use Rattle.packing_laws.proofs.BinTotals.{pair_of}

-- pairs of two lists one after the other
AllPairs-append : {X : Type 0} (R : X → X → Type 0) (xs ys : List X) → AllPairs R xs → AllPairs R ys → All (λ x. All (R x) ys) xs → AllPairs R (xs ++ ys)
AllPairs-append R [] ys first second cross = second
AllPairs-append R (x ∷ xs) ys first second cross =
    AllPairs-cons R x (xs ++ ys)
    (All-append (R x) xs ys (λ k d within. first zero (suc k) d (omega arith) (omega arith)) (All-first (λ y. All (R y) ys) x xs cross))
    (AllPairs-append R xs ys (λ i j d below within. first (suc i) (suc j) d (omega arith) (omega arith)) second (All-others (λ y. All (R y) ys) x xs cross))

-- pairs of one element, many times
AllPairs-replicate : {X : Type 0} (R : X → X → Type 0) (n : ℕ) (x : X) → (1 < n → R x x) → AllPairs R (replicate n x)
AllPairs-replicate R zero x holds i j d below within = absurd (omega arith)
AllPairs-replicate R (suc zero) x holds i j d below within = absurd (omega arith)
AllPairs-replicate R (suc (suc n)) x holds i j d below within =
    let twice : R x x = holds (omega arith) in
    AllPairs-cons R x (replicate (suc n) x) (All-replicate (R x) (suc n) x twice) (AllPairs-replicate R (suc n) x (λ _. twice)) i j d below within

-- what holds of an element, if it is there at all, holds of it many times
All-times : {X : Type 0} (P : X → Type 0) (n : ℕ) (x : X) → (0 < n → P x) → All P (replicate n x)
All-times P zero x holds = All-nil P
All-times P (suc n) x holds = All-replicate P (suc n) x (holds (omega arith))

-- what holds of all bins that are used holds of those that are meant
All-used : (P : ℕ × Content → Type 0) (bins : List Bin) → All (λ b. 0 < b.times → P (pair_of b)) bins → All P (bins_of bins)
All-used P [] all = All-nil P
All-used P (b ∷ bins) all =
    All-append P (replicate b.times (pair_of b)) (bins_of bins)
    (All-times P b.times (pair_of b) (All-first (λ (c : Bin). 0 < c.times → P (pair_of c)) b bins all))
    (All-used P bins (All-others (λ (c : Bin). 0 < c.times → P (pair_of c)) b bins all))

-- bins that can't be joined as they are written can't as they are meant
pub pairs_of-joined : (I : InstanceValue) (bins : List Bin) → AreJoined I bins → AllPairs (StayApart I) (bins_of bins)
pairs_of-joined I [] joined i j d below within = absurd (omega arith)
pairs_of-joined I (b ∷ bins) joined i j d below within =
    let alike : 1 < b.times → StayApart I (pair_of b) (pair_of b) = All-first (λ (c : Bin). 1 < c.times → StayApart I (pair_of c) (pair_of c)) b bins joined.alike in
    let rest : AreJoined I bins = record {
      pairs = λ k l e lower inside. joined.pairs (suc k) (suc l) e (omega arith) (omega arith);
      alike = All-others (λ (c : Bin). 1 < c.times → StayApart I (pair_of c) (pair_of c)) b bins joined.alike;
    } in
    AllPairs-append (StayApart I) (replicate b.times (pair_of b)) (bins_of bins)
    (AllPairs-replicate (StayApart I) b.times (pair_of b) alike)
    (pairs_of-joined I bins rest)
    (All-times (λ x. All (StayApart I x) (bins_of bins)) b.times (pair_of b)
    (λ used. All-used (StayApart I (pair_of b)) bins (λ k e inside also. joined.pairs zero (suc k) e (omega arith) (omega arith) used also)))
    i j d below within

-- both contents together, in the other order
swapped-fits : (I : InstanceValue) (t : ℕ) (c d : Content) → All (Exists I) c → All (Exists I) d → Fits I t (c ++ d) → Fits I t (d ++ c)
swapped-fits I t c d one other fits = record {
  bin_type = fits.bin_type;
  exists = All-append (Exists I) d c other one;
  weight = λ k among.
      let weigh : Count → ℕ = λ n. n.count * slice_index (form_at I n.item n.form) (k - 1) in
      let first : weight_in I k (c ++ d) ≡ weight_in I k c + weight_in I k d = sum_by-append weigh c d in
      let second : weight_in I k (d ++ c) ≡ weight_in I k d + weight_in I k c = sum_by-append weigh d c in
      let most : weight_in I k (c ++ d) ≤ slice_index (type_at I t).cap (k - 1) = fits.weight k among in
      omega arith;
  caps = caps-swapped I c d fits.caps;
}

-- bins with what exists, that stay apart
abbrev LieApart : InstanceValue → ℕ × Content → ℕ × Content → Type 0
LieApart I b c = All (Exists I) b.1 × All (Exists I) c.1 × StayApart I b c

LieApart-turned : (I : InstanceValue) (b c : ℕ × Content) → LieApart I b c → LieApart I c b
LieApart-turned I b c lie = (
  lie.1,
  lie.0,
  ((λ fits. lie.2.1 (swapped-fits I c.0 c.1 b.1 lie.1 lie.0 fits)), (λ fits. lie.2.0 (swapped-fits I b.0 c.1 b.1 lie.1 lie.0 fits))),
)

-- from which place an element came when those at a and b changed places
abbrev CameFrom : ℕ → ℕ → ℕ → ℕ → Type 0
CameFrom a b m k = ((m ≡ a) × (k ≡ b)) ⊎ (((m ≡ b) × (k ≡ a)) ⊎ ((m ≡ a → ⊥) × (m ≡ b → ⊥) × (k ≡ m)))

-- from two places they came from two
came-apart : (a b m k n l : ℕ) → (m ≡ n → ⊥) → CameFrom a b m k → CameFrom a b n l → k ≡ l → ⊥
came-apart a b m k n l apart one other same = grind (arith, apart, one, other, same)

module _ {X : Type 0} (R : X → X → Type 0) (turned : (x y : X) → R x y → R y x) where
  -- any two places
  pairs-any : (xs : List X) (i j : ℕ) (d : X) → AllPairs R xs → (i ≡ j → ⊥) → i < length xs → j < length xs → R (get_or xs i d) (get_or xs j d)
  pairs-any xs i j d all apart one other = elim (cases_lt i j) [
    | inl below ↦ all i j d below other
    | inr above ↦ turned (get_or xs j d) (get_or xs i d) (all j i d (omega (arith, above, apart)) one)
  ]

  came : (xs : List X) (a b : ℕ) (d : X) → a < length xs → b < length xs → (m : ℕ) → m < length xs → (k : ℕ) × (k < length xs) × (get_or (swap xs a b) m d ≡ get_or xs k d) × CameFrom a b m k
  came xs a b d low high m within =
      let moved = swapped_from_swap xs (swap xs a b) a b d low high refl in
      elim (cases_eq m a) [
        | inl first ↦ (b, high, ap (λ (n : ℕ). get_or (swap xs a b) n d) first ∙ moved.0, inl (first, refl))
        | inr other ↦ elim (cases_eq m b) [
          | inl second ↦ (a, low, ap (λ (n : ℕ). get_or (swap xs a b) n d) second ∙ moved.1, inr (inl (second, refl)))
          | inr neither ↦ (m, within, moved.2 m other neither, inr (inr (other, neither, refl)))
        ]
      ]

  AllPairs-swap : (xs : List X) (a b : ℕ) → a < length xs → b < length xs → AllPairs R xs → AllPairs R (swap xs a b)
  AllPairs-swap xs a b low high all i j d below within =
      let size : length (swap xs a b) ≡ length xs = length-swap xs a b in
      let one = came xs a b d low high i (omega (arith, size, below, within)) in
      let other = came xs a b d low high j (omega (arith, size, within)) in
      let apart : one.0 ≡ other.0 → ⊥ = came-apart a b i one.0 j other.0 (λ e. omega (arith, e, below)) one.3 other.3 in
      let there : R (get_or xs one.0 d) (get_or xs other.0 d) = pairs-any xs one.0 other.0 d all apart one.1 other.1 in
      subst (λ (x : X). R x (get_or (swap xs a b) j d)) (sym one.2) (subst (λ (y : X). R (get_or xs one.0 d) y) (sym other.2) there)

  AllPairs-permutation : (xs ys : List X) → IsPermutation xs ys → AllPairs R xs → AllPairs R ys
  AllPairs-permutation xs ys moved all = IsPermutation-keeps xs (AllPairs R) all (λ l i j low high so. AllPairs-swap l i j low high so) ys moved

-- what fits in the second contents fits in the first
alike-fits : (I : InstanceValue) (t : ℕ) (b c e f : ℕ × Content) → IsAlike b e → IsAlike c f → All (Exists I) b.1 → All (Exists I) c.1 → Fits I t (e.1 ++ f.1) → Fits I t (b.1 ++ c.1)
alike-fits I t b c e f one other exists_one exists_other fits = record {
  bin_type = fits.bin_type;
  exists = All-append (Exists I) b.1 c.1 exists_one exists_other;
  weight = λ k among.
      let weigh : Count → ℕ = λ n. n.count * slice_index (form_at I n.item n.form) (k - 1) in
      let first : weight_in I k (b.1 ++ c.1) ≡ weight_in I k b.1 + weight_in I k c.1 = sum_by-append weigh b.1 c.1 in
      let second : weight_in I k (e.1 ++ f.1) ≡ weight_in I k e.1 + weight_in I k f.1 = sum_by-append weigh e.1 f.1 in
      let same_one : weight_in I k b.1 ≡ weight_in I k e.1 = same-weight I k b.1 e.1 one.1 in
      let same_other : weight_in I k c.1 ≡ weight_in I k f.1 = same-weight I k c.1 f.1 other.1 in
      let most : weight_in I k (e.1 ++ f.1) ≤ slice_index (type_at I t).cap (k - 1) = fits.weight k among in
      omega arith;
  caps = caps-alike I b.1 c.1 e.1 f.1 one.1 other.1 fits.caps;
}

-- pairs of bins that are alike stay apart too
pairs-alike : (I : InstanceValue) (P Q : Bins) → AreAlike P Q → AllPairs (LieApart I) P → AllPairs (StayApart I) Q
pairs-alike I [] Q alike all i j d below within = absurd (let same = AreAlike-length [] Q alike in omega (arith, same, within))
pairs-alike I (p ∷ P) [] alike all i j d below within = absurd alike
pairs-alike I (p ∷ P) (q ∷ Q) alike all i j d below within =
    let size : length (p ∷ P) ≡ length (q ∷ Q) = AreAlike-length (p ∷ P) (q ∷ Q) alike in
    let first : IsAlike p q = (alike.0, alike.1) in
    let b : ℕ × Content = get_or (p ∷ P) i p in
    let c : ℕ × Content = get_or (p ∷ P) j p in
    let e : ℕ × Content = get_or (q ∷ Q) i q in
    let f : ℕ × Content = get_or (q ∷ Q) j q in
    let one : IsAlike b e = AreAlike-at (p ∷ P) (q ∷ Q) i p q alike first in
    let other : IsAlike c f = AreAlike-at (p ∷ P) (q ∷ Q) j p q alike first in
    let lie : LieApart I b c = all i j p below (omega (arith, size, within)) in
    let apart : StayApart I e f = (
      (λ fits. lie.2.0 (subst (λ t. Fits I t (b.1 ++ c.1)) (sym one.0) (alike-fits I e.0 b c e f one other lie.0 lie.1 fits))),
      (λ fits. lie.2.1 (subst (λ t. Fits I t (b.1 ++ c.1)) (sym other.0) (alike-fits I f.0 b c e f one other lie.0 lie.1 fits))),
    ) in
    let at_i : get_or (q ∷ Q) i d ≡ e = get_or_default (q ∷ Q) i d q (omega (arith, below, within)) in
    let at_j : get_or (q ∷ Q) j d ≡ f = get_or_default (q ∷ Q) j d q within in
    subst (λ (x : ℕ × Content). StayApart I x (get_or (q ∷ Q) j d)) (sym at_i) (subst (λ (y : ℕ × Content). StayApart I e y) (sym at_j) apart)

-- the printed form of bins that can't be joined is joined
pub tidied-joined : (I : InstanceValue) (old new : List Bin) → IsWrittenPacking I old → AreJoined I old → IsTidied old new → IsJoined I (bins_of new)
tidied-joined I old new packing joined tidied =
    let some : ℕ × Content → Bool = λ b. nat_lt 0 (units_in b.1) in
    let P : Bins = bins_of old in
    let meant : AllPairs (StayApart I) P = pairs_of-joined I old joined in
    let lying : AllPairs (LieApart I) P = λ i j d below within. ((packing.packing.fits i d (omega (arith, below, within))).exists, (packing.packing.fits j d within).exists, meant i j d below within) in
    let filled : AllPairs (LieApart I) (filled_bins P) = AllPairs-filter (LieApart I) some P lying in
    let ordered : AllPairs (LieApart I) tidied.order = AllPairs-permutation (LieApart I) (LieApart-turned I) (filled_bins P) tidied.order tidied.rearranged filled in
    let pairs : AllPairs (StayApart I) (bins_of new) = pairs-alike I tidied.order (bins_of new) tidied.alike ordered in
    λ j k b c below one other.
    let at_j : get_or (bins_of new) j b ≡ b = get_or_from_slice_get (bins_of new) j b b one in
    let at_k : get_or (bins_of new) k b ≡ c = get_or_from_slice_get (bins_of new) k c b other in
    let apart = pairs j k b below (slice_get_within (bins_of new) k c other) in
    subst (λ (x : ℕ × Content). StayApart I x c) at_j (subst (λ (y : ℕ × Content). StayApart I (get_or (bins_of new) j b) y) at_k apart)

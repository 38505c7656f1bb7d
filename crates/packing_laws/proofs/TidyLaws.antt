-- What tidying keeps: a packing stays one, and costs no more.
use Rattle.std.proofs.Common.{zero, suc, ◌≡◌, ℕ, ◌+◌, ◌<◌, ◌≤◌, ◌∙◌, inl, inr, List, [], ◌∷◌, ◌++◌, Bool, true, false, cond, ◌==◌, ◌&&◌, nat_lt, length, replicate, filter, sum_by, All, Option, Some, None, IfSome, refl, sym, ap, subst, arith, get_or, slice_index, ◌-◌}
use Rattle.std.proofs.lemmas.Bool.{cond_both, cond-true, cond-false, cases_Bool, and_from, and_parts, eqb-true, eq-eqb, ltb-false, lt-ltb}
use Rattle.std.proofs.lemmas.List.Elements.{All-cons, All-nil, All-filter}
use Rattle.std.proofs.lemmas.List.Sums.{sum_by-cons, get_or-le-sum_by}
use Rattle.std.proofs.lemmas.List.Sorted.{All-permutation, sum_by-IsPermutation}
use Rattle.packing_laws.specs.declared.packings.Count.{Count}
use Rattle.packing_laws.specs.declared.packings.Bin.{Bin}
use Rattle.packing_laws.specs.Instances.{InstanceValue, IsAmong, type_at, item_at}
use Rattle.packing_laws.specs.Packings.{Content, Bins, Exists, Fits, all_of, used_of, cost_at, cost_of, count_of_item, count_of_form}
use Rattle.packing_laws.specs.Printed.{bins_of, filled_bins, units_in, SameContent, AreAlike, IsTidied, IsWrittenPacking}
use Rattle.packing_laws.specs.Floors.{HasOneUnitEach}
use Rattle.packing_laws.proofs.Sums.{All-first, All-others, sum_by-flat_map, sum_by-le-sum_by}
use Rattle.packing_laws.proofs.PackedItems.{positive_term}
use Rattle.packing_laws.proofs.OneUnitBins.{All-bins_of}
use Rattle.packing_laws.proofs.Rearranged.{IsAlike}
use Rattle.packing_laws.proofs.WrittenPackings.{limit-less}
use Rattle.packing_laws.proofs.EmptyBins.{sum_by-filter-le, filled-demand}
use Rattle.packing_laws.proofs.SameContents.{same-weight, same-item, same-units}
use Rattle.packing_laws.proofs.CapLaws.{caps-same}

-- a number that alike bins share
sum_by-alike : (f : ℕ × Content → ℕ) → ((b c : ℕ × Content) → IsAlike b c → f b ≡ f c) → (P Q : Bins) → AreAlike P Q → sum_by f P ≡ sum_by f Q
sum_by-alike f share [] [] alike = refl
sum_by-alike f share [] (c ∷ Q) alike = absurd alike
sum_by-alike f share (b ∷ P) [] alike = absurd alike
sum_by-alike f share (b ∷ P) (c ∷ Q) alike =
    let first : f b ≡ f c = share b c (alike.0, alike.1) in
    let rest : sum_by f P ≡ sum_by f Q = sum_by-alike f share P Q alike.2 in
    sum_by-cons f b P ∙ (λ k. first k + rest k) ∙ sym (sum_by-cons f c Q)

-- what holds of the first bins, and something of the second, gives what holds of the second
All-alike : (A B C : ℕ × Content → Type 0) → ((b c : ℕ × Content) → IsAlike b c → A b → B c → C c) → (P Q : Bins) → AreAlike P Q → All A P → All B Q → All C Q
All-alike A B C step [] [] alike first second = All-nil C
All-alike A B C step [] (c ∷ Q) alike first second = absurd alike
All-alike A B C step (b ∷ P) [] alike first second = absurd alike
All-alike A B C step (b ∷ P) (c ∷ Q) alike first second =
    All-cons C c Q (step b c (alike.0, alike.1) (All-first A b P first) (All-first B c Q second)) (All-alike A B C step P Q alike.2 (All-others A b P first) (All-others B c Q second))

pub filter-whole : {X : Type 0} (p : X → Bool) (xs : List X) → All (λ x. p x ≡ true) xs → filter p xs ≡ xs
filter-whole p [] all = refl
filter-whole p (x ∷ xs) all =
    cond-true (p x) (x ∷ filter p xs) (filter p xs) (All-first (λ y. p y ≡ true) x xs all) ∙ ap (λ l. x ∷ l) (filter-whole p xs (All-others (λ y. p y ≡ true) x xs all))

-- what holds of the bins that are meant holds of those that are used
used-first : (P : ℕ × Content → Type 0) (n : ℕ) (b : ℕ × Content) (rest : Bins) → 0 < n → All P (replicate n b ++ rest) → P b
used-first P zero b rest used all = absurd (omega arith)
used-first P (suc n) b rest used all = All-first P b (replicate n b ++ rest) all

used-others : (P : ℕ × Content → Type 0) (n : ℕ) (b : ℕ × Content) (rest : Bins) → All P (replicate n b ++ rest) → All P rest
used-others P zero b rest all = all
used-others P (suc n) b rest all = used-others P n b rest (All-others P b (replicate n b ++ rest) all)

All-from_bins_of : (P : ℕ × Content → Type 0) (bins : List Bin) → All (λ b. 0 < b.times) bins → All P (bins_of bins) → All (λ b. P (b.bin_type, b.counts)) bins
All-from_bins_of P [] used all = All-nil (λ b. P (b.bin_type, b.counts))
All-from_bins_of P (b ∷ bins) used all =
    All-cons (λ b. P (b.bin_type, b.counts)) b bins
    (used-first P b.times (b.bin_type, b.counts) (bins_of bins) (All-first (λ (c : Bin). 0 < c.times) b bins used) all)
    (All-from_bins_of P bins (All-others (λ (c : Bin). 0 < c.times) b bins used) (used-others P b.times (b.bin_type, b.counts) (bins_of bins) all))

-- a count of the form
is_of_form : (i f : ℕ) (n : Count) → 0 < cond ((n.item == i) && (n.form == f)) n.count 0 → (n.item ≡ i) × (n.form ≡ f)
is_of_form i f n some = elim (cases_Bool ((n.item == i) && (n.form == f))) [
  | inl same ↦ let keys = and_parts (n.item == i) (n.form == f) same in (eqb-true n.item i keys.0, eqb-true n.form f keys.1)
  | inr other ↦ absurd (let none : 0 < 0 = rw (cond-false ((n.item == i) && (n.form == f)) n.count 0 other) at some in omega arith)
]

-- a content with as many of each form fits too
pub same-fits : (I : InstanceValue) (t : ℕ) (c d : Content) → SameContent c d → All (λ n. 0 < n.count) d → Fits I t c → Fits I t d
same-fits I t c d same positive fits = record {
  bin_type = fits.bin_type;
  exists = λ k e within.
      let n : Count = get_or d k e in
      let of_form : Count → ℕ = λ m. cond ((m.item == n.item) && (m.form == n.form)) m.count 0 in
      let own : of_form n ≡ n.count = cond-true ((n.item == n.item) && (n.form == n.form)) n.count 0 (and_from (n.item == n.item) (n.form == n.form) (eq-eqb n.item n.item refl) (eq-eqb n.form n.form refl)) in
      let part : of_form n ≤ count_of_form n.item n.form d = get_or-le-sum_by of_form d k e within in
      let some : 0 < n.count = positive k e within in
      let both : count_of_form n.item n.form c ≡ count_of_form n.item n.form d = same n.item n.form in
      let found = positive_term of_form c (omega arith) in
      let nothing : Count = record { item = 0; form = 0; count = 0 } in
      let m : Count = get_or c found.0 nothing in
      let keys = is_of_form n.item n.form m (found.2 nothing) in
      let there : Exists I m = fits.exists found.0 nothing found.1 in
      record {
        item = subst (λ (i : ℕ). IsAmong i (length I.items)) keys.0 there.item;
        form = subst (λ (i : ℕ). IsAmong n.form (length (item_at I i).forms)) keys.0 (subst (λ (f : ℕ). IsAmong f (length (item_at I m.item).forms)) keys.1 there.form);
      };
  weight = λ k among. subst (λ (w : ℕ). w ≤ slice_index (type_at I t).cap (k - 1)) (same-weight I k c d same) (fits.weight k among);
  caps = caps-same I c d same fits.caps;
}

module _ (old new : List Bin) (tidied : IsTidied old new) where
  -- a number that alike bins share, added up
  total : (f : ℕ × Content → ℕ) → ((b c : ℕ × Content) → IsAlike b c → f b ≡ f c) → sum_by f (bins_of new) ≡ sum_by f (filled_bins (bins_of old))
  total f share =
      sym (sum_by-alike f share tidied.order (bins_of new) tidied.alike) ∙ sum_by-IsPermutation f (filled_bins (bins_of old)) tidied.order tidied.rearranged

  total-le : (f : ℕ × Content → ℕ) → ((b c : ℕ × Content) → IsAlike b c → f b ≡ f c) → sum_by f (bins_of new) ≤ sum_by f (bins_of old)
  total-le f share =
      let same : sum_by f (bins_of new) ≡ sum_by f (filled_bins (bins_of old)) = total f share in
      let less : sum_by f (filled_bins (bins_of old)) ≤ sum_by f (bins_of old) = sum_by-filter-le f (λ b. nat_lt 0 (units_in b.1)) (bins_of old) in
      omega arith

  pub tidied-cost : (I : InstanceValue) → cost_of I (bins_of new) ≤ cost_of I (bins_of old)
  tidied-cost I = total-le (λ b. cost_at I b.0) (λ b c alike. ap (λ (t : ℕ). cost_at I t) alike.0)

  tidied-fits : (I : InstanceValue) → All (λ b. Fits I b.0 b.1) (bins_of old) → All (λ b. Fits I b.0 b.1) (bins_of new)
  tidied-fits I fits =
      All-alike (λ b. Fits I b.0 b.1) (λ b. All (λ (n : Count). 0 < n.count) b.1) (λ b. Fits I b.0 b.1)
      (λ b c alike fit positive. subst (λ (t : ℕ). Fits I t c.1) alike.0 (same-fits I b.0 b.1 c.1 alike.1 positive fit))
      tidied.order (bins_of new) tidied.alike
      (All-permutation (λ b. Fits I b.0 b.1) (filled_bins (bins_of old)) tidied.order tidied.rearranged (All-filter (λ b. nat_lt 0 (units_in b.1)) (λ b. Fits I b.0 b.1) (bins_of old) fits))
      (All-bins_of (λ b. All (λ (n : Count). 0 < n.count) b.1) new (λ k d within. (tidied.tidy.each k d within).content.positive))

  tidied-demand : (i : ℕ) → count_of_item i (all_of (bins_of new)) ≡ count_of_item i (all_of (bins_of old))
  tidied-demand i =
      let of_item : Count → ℕ = λ m. cond (m.item == i) m.count 0 in
      let content : ℕ × Content → Content = λ b. b.1 in
      sum_by-flat_map of_item content (bins_of new)
      ∙ total (λ b. count_of_item i b.1) (λ b c alike. same-item i b.1 c.1 alike.1)
      ∙ sym (sum_by-flat_map of_item content (filled_bins (bins_of old)))
      ∙ filled-demand i (bins_of old)

  pub tidied-packing : (I : InstanceValue) → IsWrittenPacking I old → IsWrittenPacking I new
  tidied-packing I written =
      let fits : All (λ b. Fits I b.0 b.1) (bins_of new) = tidied-fits I written.packing.fits in
      record {
        fits = All-from_bins_of (λ b. Fits I b.0 b.1) new (λ k d within. (tidied.tidy.each k d within).used) fits;
        packing = record {
          fits = fits;
          limits = λ t among. limit-less (type_at I t).limit (used_of t (bins_of new)) (used_of t (bins_of old)) (total-le (λ b. cond (b.0 == t) 1 0) (λ b c alike. ap (λ (u : ℕ). cond (u == t) 1 0) alike.0)) (written.packing.limits t among);
          demands = λ i among. tidied-demand i ∙ written.packing.demands i among;
        };
      }

  pub tidied-one_each : HasOneUnitEach (bins_of old) → HasOneUnitEach (bins_of new)
  tidied-one_each ones =
      All-alike (λ b. units_in b.1 ≡ 1) (λ b. Unit {0}) (λ b. units_in b.1 ≡ 1) (λ b c alike one _. sym (same-units b.1 c.1 alike.1) ∙ one)
      tidied.order (bins_of new) tidied.alike
      (All-permutation (λ b. units_in b.1 ≡ 1) (filled_bins (bins_of old)) tidied.order tidied.rearranged (All-filter (λ b. nat_lt 0 (units_in b.1)) (λ b. units_in b.1 ≡ 1) (bins_of old) ones))
      (λ k d within. tt)

  pub tidied-same_cost : HasOneUnitEach (bins_of old) → (I : InstanceValue) → cost_of I (bins_of new) ≡ cost_of I (bins_of old)
  tidied-same_cost ones I =
      total (λ b. cost_at I b.0) (λ b c alike. ap (λ (t : ℕ). cost_at I t) alike.0)
      ∙ ap (λ (P : Bins). cost_of I P) (filter-whole (λ b. nat_lt 0 (units_in b.1)) (bins_of old) (λ k d within. lt-ltb 0 (units_in (get_or (bins_of old) k d).1) (let one : units_in (get_or (bins_of old) k d).1 ≡ 1 = ones k d within in omega arith)))

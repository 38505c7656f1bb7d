-- Contents in the printed form, the lines of bins, and the printed form of a packing.
use Rattle.std.proofs.Common.{zero, suc, ◌≡◌, ℕ, ◌+◌, ◌<◌, ◌≤◌, ◌∙◌, List, [], ◌∷◌, ◌++◌, Bool, true, false, cond, ◌==◌, ◌&&◌, nat_lt, length, map, replicate, filter, sum_by, All, IsPermutation, refl, sym, ap, subst, arith, append-nil, ◌⊎◌, ⊎_elim}
use Rattle.std.specs.List.Sorted.{IsSorted}
use Rattle.std.specs.declared.cmp.Ordering.TheVariants.{Equal}
use Rattle.std.proofs.lemmas.Bool.{cond-true, cond-false, cond_both, ltb-true, ltb-false, lt-ltb, le-ltb}
use Rattle.std.proofs.lemmas.List.{map_push, replicate-append-replicate}
use Rattle.std.proofs.lemmas.List.Concat.{flat_map-append}
use Rattle.std.proofs.lemmas.List.Elements.{All-push, All-weaker, filter-append, filter_passes, All-head}
use Rattle.std.proofs.lemmas.List.Sums.{sum_by-cons, sum_by_push}
use Rattle.std.proofs.lemmas.List.Sorted.{All-permutation, sum_by-IsPermutation, IsPermutation-map}
use Rattle.packing_laws.specs.declared.packings.Count.{Count}
use Rattle.packing_laws.specs.declared.packings.Bin.{Bin}
use Rattle.packing_laws.specs.declared.tidying.Line.{Line}
use Rattle.packing_laws.specs.Packings.{Content, Bins}
use Rattle.packing_laws.specs.Printed.{bins_of, filled_bins, units_in, holds_units, form_cmp, count_cmp, bin_cmp, SameContent, AreAlike, IsTidyContent, IsTidyBin, IsTidied}
use Rattle.packing_laws.specs.inner.Tidying.{merged, joined_count, joined_bin, bin_of}
use Rattle.packing_laws.proofs.Merging.{sum_by-merged, flat_map-merged, All-merged, strict-merged}
use Rattle.packing_laws.proofs.TidyOrders.{form_total, bin_total, line_cmp, form_equal, bin_equal, counts_rise, lines_rise}
use Rattle.packing_laws.proofs.Rearranged.{flat_map-IsPermutation, AreAlike-append, AreAlike-replicate, AreAlike-rearranged}

pub sum_by-map : {X Y : Type 0} (f : Y → ℕ) (h : X → Y) (xs : List X) → sum_by f (map h xs) ≡ sum_by (λ x. f (h x)) xs
sum_by-map f h [] = refl
sum_by-map f h (x ∷ xs) =
    sum_by-cons f (h x) (map h xs) ∙ ap (λ n. f (h x) + n) (sum_by-map f h xs) ∙ sym (sum_by-cons (λ y. f (h y)) x xs)

-- a sum over those that pass, where the others add nothing
pub sum_by-filter : {X : Type 0} (f : X → ℕ) (p : X → Bool) (xs : List X) → ((x : X) → p x ≡ false → f x ≡ 0) → sum_by f (filter p xs) ≡ sum_by f xs
sum_by-filter f p [] none = refl
sum_by-filter f p (x ∷ xs) none =
    let rest : sum_by f (filter p xs) ≡ sum_by f xs = sum_by-filter f p xs none in
    let whole : sum_by f (x ∷ xs) ≡ f x + sum_by f xs = sum_by-cons f x xs in
    cond_both (p x) (x ∷ filter p xs) (filter p xs) (λ l. sum_by f l ≡ sum_by f (x ∷ xs))
    (λ _. sum_by-cons f x (filter p xs) ∙ ap (λ n. f x + n) rest ∙ sym whole)
    (λ fails. let nothing : f x ≡ 0 = none x fails in let e : sum_by f xs ≡ f x + sum_by f xs = omega arith in rest ∙ e ∙ sym whole)

cond-adds : (b : Bool) (m n : ℕ) → cond b (m + n) 0 ≡ cond b m 0 + cond b n 0
cond-adds true m n = refl
cond-adds false m n = refl

cond-nothing : (b : Bool) (m : ℕ) → m ≤ 0 → cond b m 0 ≡ 0
cond-nothing true m none = omega arith
cond-nothing false m none = refl

-- the counts above 0, in order, merged
pub record AreMerged (counts sorted out : Content) : Type 0 where
  pub moved : IsPermutation (filter (λ n. nat_lt 0 n.count) counts) sorted
  pub rises : IsSorted count_cmp sorted
  pub is : out ≡ merged form_cmp joined_count sorted

pub units_in-merged : (counts : Content) → units_in (merged form_cmp joined_count counts) ≡ units_in counts
units_in-merged counts = sum_by-merged form_cmp joined_count (λ (n : Count). n.count) (λ y x same. refl) counts

pub units_in-sorted : (counts kept sorted : Content) → kept ≡ filter (λ n. nat_lt 0 n.count) counts → IsPermutation kept sorted → units_in sorted ≡ units_in counts
units_in-sorted counts kept sorted is moved =
    sum_by-IsPermutation (λ (n : Count). n.count) kept sorted moved ∙ ap (λ (l : Content). units_in l) is
    ∙ sum_by-filter (λ (n : Count). n.count) (λ n. nat_lt 0 n.count) counts (λ n none. let e : n.count ≤ 0 = ltb-false 0 n.count none in omega arith)

-- such counts are tidy
pub AreMerged-tidy : (counts sorted out : Content) → AreMerged counts sorted out → IsTidyContent out
AreMerged-tidy counts sorted out all =
    let kept : Content = filter (λ n. nat_lt 0 n.count) counts in
    let above : All (λ (n : Count). 0 < n.count) kept = All-weaker (λ (n : Count). nat_lt 0 n.count ≡ true) (λ (n : Count). 0 < n.count) (λ n passes. ltb-true 0 n.count passes) kept (filter_passes (λ (n : Count). nat_lt 0 n.count) counts) in
    let there : All (λ (n : Count). 0 < n.count) sorted = All-permutation (λ (n : Count). 0 < n.count) kept sorted all.moved above in
    subst IsTidyContent (sym all.is) (record {
      order = strict-merged form_cmp joined_count form_total (λ z y x. refl) sorted (counts_rise sorted all.rises);
      positive = All-merged form_cmp joined_count (λ (n : Count). 0 < n.count) (λ y x same some more. omega arith) sorted there;
    })

-- a sum to which a count of 0 adds nothing, and two counts of one form as much as both
AreMerged-sum : (f : Count → ℕ) (counts sorted out : Content) → ((n : Count) → nat_lt 0 n.count ≡ false → f n ≡ 0) → ((y x : Count) → form_cmp y x ≡ Equal → f (joined_count y x) ≡ f y + f x) → AreMerged counts sorted out → sum_by f out ≡ sum_by f counts
AreMerged-sum f counts sorted out none adds all =
    ap (λ (l : Content). sum_by f l) all.is ∙ sum_by-merged form_cmp joined_count f adds sorted
    ∙ sum_by-IsPermutation f (filter (λ n. nat_lt 0 n.count) counts) sorted all.moved ∙ sum_by-filter f (λ n. nat_lt 0 n.count) counts none

pub AreMerged-units : (counts sorted out : Content) → AreMerged counts sorted out → units_in out ≡ units_in counts
AreMerged-units counts sorted out all =
    AreMerged-sum (λ (n : Count). n.count) counts sorted out (λ n none. let e : n.count ≤ 0 = ltb-false 0 n.count none in omega arith) (λ y x same. refl) all

pub AreMerged-same : (counts sorted out : Content) → AreMerged counts sorted out → SameContent counts out
AreMerged-same counts sorted out all i f =
    sym (AreMerged-sum (λ (n : Count). cond ((n.item == i) && (n.form == f)) n.count 0) counts sorted out
    (λ n none. cond-nothing ((n.item == i) && (n.form == f)) n.count (ltb-false 0 n.count none))
    (λ y x same.
    let parts = form_equal y x same in
    let test : Bool = (y.item == i) && (y.form == f) in
    let also : test ≡ ((x.item == i) && (x.form == f)) = λ k. (parts.0 k == i) && (parts.1 k == f) in
    cond-adds test y.count x.count ∙ ap (λ (t : Bool). cond test y.count 0 + cond t x.count 0) also)
    all)

filter-replicate_true : {X : Type 0} (p : X → Bool) (n : ℕ) (x : X) → p x ≡ true → filter p (replicate n x) ≡ replicate n x
filter-replicate_true p zero x passes = refl
filter-replicate_true p (suc n) x passes =
    cond-true (p x) (x ∷ filter p (replicate n x)) (filter p (replicate n x)) passes ∙ ap (λ l. x ∷ l) (filter-replicate_true p n x passes)

filter-replicate_false : {X : Type 0} (p : X → Bool) (n : ℕ) (x : X) → p x ≡ false → filter p (replicate n x) ≡ []
filter-replicate_false p zero x fails = refl
filter-replicate_false p (suc n) x fails =
    cond-false (p x) (x ∷ filter p (replicate n x)) (filter p (replicate n x)) fails ∙ filter-replicate_false p n x fails

-- one more line of bins
pub bins_of-push : (bins : List Bin) (b : Bin) → bins_of (bins ++ b ∷ []) ≡ bins_of bins ++ replicate b.times (b.bin_type, b.counts)
bins_of-push bins b =
    flat_map-append (λ (b : Bin). replicate b.times (b.bin_type, b.counts)) bins (b ∷ []) ∙ ap (λ (l : Bins). bins_of bins ++ l) (append-nil (replicate b.times (b.bin_type, b.counts)))

filled_bins-push : (bins : List Bin) (b : Bin) (l : Bins) → filled_bins (replicate b.times (b.bin_type, b.counts)) ≡ l → filled_bins (bins_of (bins ++ b ∷ [])) ≡ filled_bins (bins_of bins) ++ l
filled_bins-push bins b l last =
    ap (λ (P : Bins). filled_bins P) (bins_of-push bins b)
    ∙ filter-append (λ (c : ℕ × Content). nat_lt 0 (units_in c.1)) (bins_of bins) (replicate b.times (b.bin_type, b.counts))
    ∙ ap (λ (m : Bins). filled_bins (bins_of bins) ++ m) last

-- the lines are tidy, and those of the bins that are used and hold some unit
pub record AreLines (bins : List Bin) (lines : List Line) : Type 0 where
  pub tidy : All IsTidyBin (map bin_of lines)
  pub alike : AreAlike (filled_bins (bins_of bins)) (bins_of (map bin_of lines))
  pub times : sum_by (λ x. x.times) lines ≡ sum_by (λ b. cond (holds_units b) b.times 0) bins

-- a bin of which nothing is printed
pub AreLines-skipped : (bins : List Bin) (b : Bin) (lines : List Line) → (b.times ≡ 0) ⊎ (units_in b.counts ≡ 0) → AreLines bins lines → AreLines (bins ++ b ∷ []) lines
AreLines-skipped bins b lines nothing all =
    let pair : ℕ × Content = (b.bin_type, b.counts) in
    let push : sum_by (λ b. cond (holds_units b) b.times 0) (bins ++ b ∷ []) ≡ sum_by (λ b. cond (holds_units b) b.times 0) bins + cond (holds_units b) b.times 0 = sum_by_push (λ b. cond (holds_units b) b.times 0) bins b in
    let none : filled_bins (replicate b.times pair) ≡ [] =
    ⊎_elim
    (λ unused. ap (λ (n : ℕ). filled_bins (replicate n pair)) unused)
    (λ empty. filter-replicate_false (λ (c : ℕ × Content). nat_lt 0 (units_in c.1)) b.times pair (le-ltb 0 (units_in b.counts) (omega arith)))
    nothing in
    let free : ◌≡◌ {A = ℕ} (cond (holds_units b) b.times 0) 0 =
    ⊎_elim
    (λ unused. cond-nothing (holds_units b) b.times (omega arith))
    (λ empty. cond-false (holds_units b) b.times 0 (le-ltb 0 (units_in b.counts) (omega arith)))
    nothing in
    let same : filled_bins (bins_of (bins ++ b ∷ [])) ≡ filled_bins (bins_of bins) = filled_bins-push bins b [] none ∙ append-nil (filled_bins (bins_of bins)) in
    record {
      tidy = all.tidy;
      alike = subst (λ (P : Bins). AreAlike P (bins_of (map bin_of lines))) (sym same) all.alike;
      times = let before : sum_by (λ x. x.times) lines ≡ sum_by (λ b. cond (holds_units b) b.times 0) bins = all.times in omega arith;
    }

-- a content with a tidy count has a unit
units-positive : (c : Content) → All (λ (n : Count). 0 < n.count) c → 0 < length c → 0 < units_in c
units-positive [] above some = absurd (omega arith)
units-positive (n ∷ c) above some =
    let first : 0 < n.count = All-head (λ (m : Count). 0 < m.count) n c above in
    let whole : units_in (n ∷ c) ≡ n.count + units_in c = sum_by-cons (λ (m : Count). m.count) n c in
    omega arith

-- the line has what is in the bin, in the printed form
pub record IsLine (b : Bin) (x : Line) : Type 0 where
  pub bin_type : x.bin_type ≡ b.bin_type
  pub times : x.times ≡ b.times
  pub used : 0 < b.times
  pub tidy : IsTidyContent x.counts.items
  pub same : SameContent b.counts x.counts.items
  pub units : units_in x.counts.items ≡ units_in b.counts
  pub some : 0 < length x.counts.items

pub AreLines-push : (bins : List Bin) (b : Bin) (lines : List Line) (x : Line) → IsLine b x → AreLines bins lines → AreLines (bins ++ b ∷ []) (lines ++ x ∷ [])
AreLines-push bins b lines x line all =
    let pair : ℕ × Content = (b.bin_type, b.counts) in
    let new : ℕ × Content = (x.bin_type, x.counts.items) in
    let positive : 0 < units_in x.counts.items = units-positive x.counts.items line.tidy.positive line.some in
    let filled : holds_units b ≡ true = lt-ltb 0 (units_in b.counts) (let e : units_in x.counts.items ≡ units_in b.counts = line.units in omega arith) in
    let push : sum_by (λ b. cond (holds_units b) b.times 0) (bins ++ b ∷ []) ≡ sum_by (λ b. cond (holds_units b) b.times 0) bins + cond (holds_units b) b.times 0 = sum_by_push (λ b. cond (holds_units b) b.times 0) bins b in
    let paid : cond (holds_units b) b.times 0 ≡ b.times = cond-true (holds_units b) b.times 0 filled in
    let more : sum_by (λ (y : Line). y.times) (lines ++ x ∷ []) ≡ sum_by (λ (y : Line). y.times) lines + x.times = sum_by_push (λ (y : Line). y.times) lines x in
    let mapped : map bin_of (lines ++ x ∷ []) ≡ map bin_of lines ++ bin_of x ∷ [] = map_push bin_of lines x in
    let old_bins : filled_bins (bins_of (bins ++ b ∷ [])) ≡ filled_bins (bins_of bins) ++ replicate b.times pair = filled_bins-push bins b (replicate b.times pair) (filter-replicate_true (λ (c : ℕ × Content). nat_lt 0 (units_in c.1)) b.times pair filled) in
    let new_bins : bins_of (map bin_of (lines ++ x ∷ [])) ≡ bins_of (map bin_of lines) ++ replicate b.times new =
    ap (λ (l : List Bin). bins_of l) mapped ∙ bins_of-push (map bin_of lines) (bin_of x) ∙ ap (λ (n : ℕ). bins_of (map bin_of lines) ++ replicate n new) line.times in
    record {
      tidy = subst (All IsTidyBin) (sym mapped) (All-push IsTidyBin (map bin_of lines) (bin_of x) all.tidy (record { used = let e : x.times ≡ b.times = line.times in let u : 0 < b.times = line.used in omega arith; filled = line.some; content = line.tidy }));
      alike =
          subst (λ (P : Bins). AreAlike P (bins_of (map bin_of (lines ++ x ∷ [])))) (sym old_bins)
          (subst (λ (Q : Bins). AreAlike (filled_bins (bins_of bins) ++ replicate b.times pair) Q) (sym new_bins)
          (AreAlike-append (filled_bins (bins_of bins)) (bins_of (map bin_of lines)) (replicate b.times pair) (replicate b.times new) all.alike (AreAlike-replicate b.times pair new (sym line.bin_type, line.same))));
      times = let before : sum_by (λ (y : Line). y.times) lines ≡ sum_by (λ b. cond (holds_units b) b.times 0) bins = all.times in let e : x.times ≡ b.times = line.times in omega arith;
    }

-- lines in order, merged, are the printed form
pub tidied : (old : List Bin) (lines sorted : List Line) (new : List Bin) → AreLines old lines → IsPermutation lines sorted → IsSorted line_cmp sorted → new ≡ merged bin_cmp joined_bin (map bin_of sorted) → IsTidied old new
tidied old lines sorted new all moved rises is =
    let bins : List Bin = map bin_of sorted in
    let each : Bin → Bins = λ b. replicate b.times (b.bin_type, b.counts) in
    let rows : IsPermutation (map bin_of lines) bins = IsPermutation-map bin_of lines sorted moved in
    let same : bins_of (merged bin_cmp joined_bin bins) ≡ bins_of bins =
    flat_map-merged bin_cmp joined_bin each
    (λ y x equal.
    let parts = bin_equal y x equal in
    let pair : ◌≡◌ {A = ℕ × Content} (y.bin_type, y.counts) (x.bin_type, x.counts) = λ k. (parts.0 k, parts.1 k) in
    sym (replicate-append-replicate y.times x.times (y.bin_type, y.counts)) ∙ ap (λ (p : ℕ × Content). replicate y.times (y.bin_type, y.counts) ++ replicate x.times p) pair)
    bins in
    let found = AreAlike-rearranged (filled_bins (bins_of old)) (bins_of (map bin_of lines)) (bins_of bins) all.alike (flat_map-IsPermutation each (map bin_of lines) bins rows) in
    subst (IsTidied old) (sym is) (record {
      tidy = record {
        each = All-merged bin_cmp joined_bin IsTidyBin (λ y x equal first second. record { used = let u : 0 < y.times = first.used in omega arith; filled = first.filled; content = first.content }) bins (All-permutation IsTidyBin (map bin_of lines) bins rows all.tidy);
        order = strict-merged bin_cmp joined_bin bin_total (λ z y x. refl) bins (lines_rise sorted rises);
      };
      order = found.0;
      rearranged = found.1;
      alike = subst (AreAlike found.0) (sym same) found.2;
    })

-- the times of lines in another order, and of the bins that they become
pub times-merged : (lines : List Line) → sum_by (λ (b : Bin). b.times) (merged bin_cmp joined_bin (map bin_of lines)) ≡ sum_by (λ (x : Line). x.times) lines
times-merged lines = sum_by-merged bin_cmp joined_bin (λ (b : Bin). b.times) (λ y x equal. refl) (map bin_of lines) ∙ sum_by-map (λ (b : Bin). b.times) bin_of lines

-- The orders of counts and of bins.
use Rattle.std.proofs.Common.{◌≡◌, ℕ, ◌<◌, ◌∙◌, List, [], ◌∷◌, false, length, map, refl, sym, subst, arith, get_or}
use Rattle.std.specs.List.{AllPairs}
use Rattle.std.specs.List.Sorted.{IsSorted}
use Rattle.std.specs.Cmp.{IsTotalOrder}
use Rattle.std.specs.Cmp.Lexicographic.{slice_cmp}
use Rattle.std.specs.Ordering.{is_lt, nat_cmp, ordering_then}
use Rattle.std.specs.declared.cmp.Ordering.{Ordering}
use Rattle.std.specs.declared.cmp.Ordering.TheVariants.{Less, Equal, Greater}
use Rattle.std.proofs.lemmas.Cmp.{ranked, by_ranked, nat_cmp_total, on_total, then_total, lists_total}
use Rattle.std.proofs.lemmas.List.{get_or-map, length-map}
use Rattle.arc_num.proofs.Orders.{then_equal, number_equal, list_equal}
use Rattle.packing_laws.specs.declared.packings.Count.{Count}
use Rattle.packing_laws.specs.declared.packings.Bin.{Bin}
use Rattle.packing_laws.specs.declared.tidying.Line.{Line}
use Rattle.packing_laws.specs.Printed.{form_cmp, count_cmp, bin_cmp}
use Rattle.packing_laws.specs.inner.Tidying.{bin_of}
use Rattle.packing_laws.proofs.Merging.{pairs_from_sorted}

pub form_total : IsTotalOrder form_cmp
form_total = then_total (on_total (λ (n : Count). n.item) nat_cmp_total) (on_total (λ (n : Count). n.form) nat_cmp_total)

pub count_total : IsTotalOrder count_cmp
count_total = then_total (on_total (λ (n : Count). n.item) nat_cmp_total) (then_total (on_total (λ (n : Count). n.form) nat_cmp_total) (on_total (λ (n : Count). n.count) nat_cmp_total))

pub bin_total : IsTotalOrder bin_cmp
bin_total = then_total (on_total (λ (b : Bin). b.bin_type) nat_cmp_total) (on_total (λ (b : Bin). b.counts) (lists_total count_total))

-- the order of lines: as that of bins, and then by how many
abbrev pub line_cmp : Line → Line → Ordering
line_cmp x y = ordering_then (nat_cmp x.bin_type y.bin_type) (ordering_then (slice_cmp count_cmp x.counts.items y.counts.items) (nat_cmp x.times y.times))

pub line_total : IsTotalOrder line_cmp
line_total = then_total (on_total (λ (x : Line). x.bin_type) nat_cmp_total) (then_total (on_total (λ (x : Line). x.counts.items) (lists_total count_total)) (on_total (λ (x : Line). x.times) nat_cmp_total))

count_equal : (m n : Count) → count_cmp m n ≡ Equal → m ≡ n
count_equal m n h =
    let by_item = then_equal (nat_cmp m.item n.item) (ordering_then (nat_cmp m.form n.form) (nat_cmp m.count n.count)) h in
    let by_form = then_equal (nat_cmp m.form n.form) (nat_cmp m.count n.count) by_item.1 in
    let item : m.item ≡ n.item = number_equal m.item n.item by_item.0 in
    let form : m.form ≡ n.form = number_equal m.form n.form by_form.0 in
    let count : m.count ≡ n.count = number_equal m.count n.count by_form.1 in
    λ i. record { item = item i; form = form i; count = count i }

counts_equal : (xs ys : List Count) → slice_cmp count_cmp xs ys ≡ Equal → xs ≡ ys
counts_equal = list_equal count_cmp count_equal

-- counts of one form
pub form_equal : (m n : Count) → form_cmp m n ≡ Equal → (m.item ≡ n.item) × (m.form ≡ n.form)
form_equal m n h =
    let parts = then_equal (nat_cmp m.item n.item) (nat_cmp m.form n.form) h in
    (number_equal m.item n.item parts.0, number_equal m.form n.form parts.1)

-- bins of one type with the same counts
pub bin_equal : (a b : Bin) → bin_cmp a b ≡ Equal → (a.bin_type ≡ b.bin_type) × (a.counts ≡ b.counts)
bin_equal a b h =
    let parts = then_equal (nat_cmp a.bin_type b.bin_type) (slice_cmp count_cmp a.counts b.counts) h in
    (number_equal a.bin_type b.bin_type parts.0, counts_equal a.counts b.counts parts.1)

-- a last part of the order may be left out
not_below : (a b c : Ordering) → is_lt (ordering_then a (ordering_then b c)) ≡ false → is_lt (ordering_then a b) ≡ false
not_below Less b c h = h
not_below Equal Less c h = h
not_below Equal Equal c h = refl
not_below Equal Greater c h = refl
not_below Greater b c h = refl

pub counts_rise : (xs : List Count) → IsSorted count_cmp xs → AllPairs (λ a b. is_lt (form_cmp b a) ≡ false) xs
counts_rise xs sorted i j d below within =
    let a : Count = get_or xs i d in
    let b : Count = get_or xs j d in
    not_below (nat_cmp b.item a.item) (nat_cmp b.form a.form) (nat_cmp b.count a.count) (pairs_from_sorted count_total xs sorted i j d below within)

pub lines_rise : (xs : List Line) → IsSorted line_cmp xs → AllPairs (λ a b. is_lt (bin_cmp b a) ≡ false) (map bin_of xs)
lines_rise [] sorted i j d below within = absurd (omega arith)
lines_rise (x ∷ xs) sorted i j d below within =
    let short : j < length (x ∷ xs) = let e : length (map bin_of (x ∷ xs)) ≡ length (x ∷ xs) = length-map (x ∷ xs) bin_of in omega arith in
    let a : Line = get_or (x ∷ xs) i x in
    let b : Line = get_or (x ∷ xs) j x in
    let lines : is_lt (bin_cmp (bin_of b) (bin_of a)) ≡ false = not_below (nat_cmp b.bin_type a.bin_type) (slice_cmp count_cmp b.counts.items a.counts.items) (nat_cmp b.times a.times) (pairs_from_sorted line_total (x ∷ xs) sorted i j x below short) in
    let ea : get_or (map bin_of (x ∷ xs)) i d ≡ bin_of a = get_or-map bin_of (x ∷ xs) i x d (omega arith) in
    let eb : get_or (map bin_of (x ∷ xs)) j d ≡ bin_of b = get_or-map bin_of (x ∷ xs) j x d short in
    subst (λ (p : Bin). is_lt (bin_cmp (get_or (map bin_of (x ∷ xs)) j d) p) ≡ false) (sym ea) (subst (λ (q : Bin). is_lt (bin_cmp q (bin_of a)) ≡ false) (sym eb) lines)

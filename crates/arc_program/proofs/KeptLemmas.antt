-- The kept lines of a packing are a packing, at equal cost.
use Rattle.std.proofs.Common.{◌≡◌, ◌∙◌, ℕ, zero, suc, ◌+◌, ◌*◌, ◌≤◌, ◌==◌, Bool, true, false, cond, nat_lt, List, [], ◌∷◌, length, filter, sum_by, All, refl, sym, ap, subst, inl, inr, arith}
use Rattle.std.proofs.lemmas.Bool.{cases_eq, eq-eqb, ne_eqb}
use Rattle.std.proofs.lemmas.List.Elements.{All-append}
use Rattle.std.proofs.lemmas.List.Sorted.{sum_by-IsPermutation}
use Rattle.std.proofs.lemmas.List.Sums.{sum_by-cons, sum_by-append}
use Rattle.packing_laws.specs.declared.packings.Bin.{Bin}
use Rattle.packing_laws.specs.Instances.{InstanceValue, IsAmong, type_at}
use Rattle.packing_laws.specs.Packings.{Content, Bins, Fits, used_of, cost_at, cost_of, count_of_item}
use Rattle.packing_laws.specs.Printed.{bins_of, units_in, holds_units, filled_bins, AreAlike, IsTidied, IsWrittenPacking}
use Rattle.packing_laws.proofs.Sums.{All-first, All-others, sum_to, sum_to-add, sum_to-zero}
use Rattle.packing_laws.proofs.WrittenSums.{sum_by-bins_of}
use Rattle.packing_laws.proofs.WrittenPackings.{count_of_item-bins_of, limit-less, IsWrittenPacking-made}
use Rattle.packing_laws.proofs.TidyLaws.{tidied-packing}
use Rattle.arc_program.specs.Kept.{empties_of, empty_line, empty_lines, IsKept}

-- a sum over types: what f says of each bin's type
abbrev by_type : (ℕ → ℕ) → Bins → ℕ
by_type f P = sum_by (λ b. f b.0) P

-- bins that are alike are of the same types
alike_types : (f : ℕ → ℕ) (P Q : Bins) → AreAlike P Q → by_type f P ≡ by_type f Q
alike_types f [] [] h = refl
alike_types f (b ∷ P) (c ∷ Q) h =
    let rest : by_type f P ≡ by_type f Q = alike_types f P Q h.2 in
    let first : f b.0 ≡ f c.0 = ap f h.0 in
    rw (sum_by-cons (λ (b : ℕ × Content). f b.0) b P, sum_by-cons (λ (b : ℕ × Content). f b.0) c Q) (omega (arith, first, rest))
alike_types f [] (c ∷ Q) h = absurd h
alike_types f (b ∷ P) [] h = absurd h

-- a sum over the bins that pass a test, and over the others
parted : (g : ℕ × Content → ℕ) (p : ℕ × Content → Bool) (P : Bins) → sum_by g P ≡ sum_by g (filter p P) + sum_by (λ b. cond (p b) 0 (g b)) P
parted g p [] = refl
parted g p (b ∷ P) =
    let rest : sum_by g P ≡ sum_by g (filter p P) + sum_by (λ b. cond (p b) 0 (g b)) P = parted g p P in
    rw (sum_by-cons g b P, sum_by-cons (λ (b : ℕ × Content). cond (p b) 0 (g b)) b P) (decide (p b) rest)
  where
    decide : (passes : Bool) → sum_by g P ≡ sum_by g (filter p P) + sum_by (λ b. cond (p b) 0 (g b)) P → g b + sum_by g P ≡ sum_by g (cond passes (b ∷ filter p P) (filter p P)) + (cond passes 0 (g b) + sum_by (λ b. cond (p b) 0 (g b)) P)
    decide true h = rw (sum_by-cons g b (filter p P)) (omega (arith, h))
    decide false h = omega (arith, h)

-- what the empty ones of some bins are worth
abbrev empty_worth : (ℕ → ℕ) → List Bin → ℕ
empty_worth f bins = sum_by (λ b. b.times * cond (holds_units b) 0 (f b.bin_type)) bins

-- the printed form has the bins that are not empty
tidied_types : (f : ℕ → ℕ) (old new : List Bin) → IsTidied old new → by_type f (bins_of old) ≡ by_type f (bins_of new) + empty_worth f old
tidied_types f old new tidied =
    let parts = parted (λ (b : ℕ × Content). f b.0) (λ (b : ℕ × Content). nat_lt 0 (units_in b.1)) (bins_of old) in
    let moved : by_type f tidied.order ≡ by_type f (filled_bins (bins_of old)) = sum_by-IsPermutation (λ (b : ℕ × Content). f b.0) (filled_bins (bins_of old)) tidied.order tidied.rearranged in
    let alike : by_type f tidied.order ≡ by_type f (bins_of new) = alike_types f tidied.order (bins_of new) tidied.alike in
    let empties : sum_by (λ (b : ℕ × Content). cond (nat_lt 0 (units_in b.1)) 0 (f b.0)) (bins_of old) ≡ empty_worth f old = sum_by-bins_of (λ (b : ℕ × Content). cond (nat_lt 0 (units_in b.1)) 0 (f b.0)) old in
    omega (arith, parts, moved, alike, empties)

-- what the lines of bins are worth, each as often as it is used
abbrev lines_worth : (ℕ → ℕ) → List Bin → ℕ
lines_worth f bins = sum_by (λ b. b.times * f b.bin_type) bins

line_worth : (f : ℕ → ℕ) (t n : ℕ) → lines_worth f (empty_line t n) ≡ n * f t
line_worth f t zero = omega arith
line_worth f t (suc n) = omega arith

lines_step : (f : ℕ → ℕ) (q : ℕ) (bins : List Bin) → lines_worth f (empty_lines (suc q) bins) ≡ lines_worth f (empty_lines q bins) + empties_of (suc q) bins * f (suc q)
lines_step f q bins = sum_by-append (λ (b : Bin). b.times * f b.bin_type) (empty_lines q bins) (empty_line (suc q) (empties_of (suc q) bins)) ∙ ap (λ (n : ℕ). lines_worth f (empty_lines q bins) + n) (line_worth f (suc q) (empties_of (suc q) bins))

lines_sum : (f : ℕ → ℕ) (q : ℕ) (bins : List Bin) → lines_worth f (empty_lines q bins) ≡ sum_to (λ t. empties_of t bins * f t) q
lines_sum f zero bins = refl
lines_sum f (suc q) bins = lines_step f q bins ∙ ap (λ (n : ℕ). n + empties_of (suc q) bins * f (suc q)) (lines_sum f q bins)

sum_to-same : (f g : ℕ → ℕ) (n : ℕ) → ((i : ℕ) → f i ≡ g i) → sum_to f n ≡ sum_to g n
sum_to-same f g zero each = refl
sum_to-same f g (suc n) each =
    let others : sum_to f n ≡ sum_to g n = sum_to-same f g n each in
    let last : f (suc n) ≡ g (suc n) = each (suc n) in
    omega (arith, others, last)

-- a sum that has one term alone, which is among them
one_term : (j k n : ℕ) (f : ℕ → ℕ) → 1 ≤ j → j ≤ n → sum_to (λ i. cond (j == i) k 0 * f i) n ≡ k * f j
one_term j k zero f low high = absurd (omega arith)
one_term j k (suc n) f low high = elim (cases_eq j (suc n)) [
  | inl same ↦
      let none : sum_to (λ i. cond (j == i) k 0 * f i) n ≡ 0 = sum_to-zero (λ i. cond (j == i) k 0 * f i) n (λ i above below. let other : (j == i) ≡ false = ne_eqb j i (λ e. omega arith) in rw other (omega arith)) in
      let last : (j == suc n) ≡ true = eq-eqb j (suc n) same in
      rw (none, last, same) (omega arith)
  | inr other ↦
      let others : sum_to (λ i. cond (j == i) k 0 * f i) n ≡ k * f j = one_term j k n f low (omega (arith, high, other)) in
      let last : (j == suc n) ≡ false = ne_eqb j (suc n) other in
      rw last (omega (arith, others))
]

-- what a bin adds to the empty bins of type t
abbrev added : Bin → ℕ → ℕ
added b t = cond (holds_units b) 0 (cond (b.bin_type == t) b.times 0)

added_worth : (f : ℕ → ℕ) (q : ℕ) (b : Bin) → 1 ≤ b.bin_type → b.bin_type ≤ q → sum_to (λ t. added b t * f t) q ≡ b.times * cond (holds_units b) 0 (f b.bin_type)
added_worth f q b low high = decide (holds_units b)
  where
    decide : (holds : Bool) → sum_to (λ t. cond holds 0 (cond (b.bin_type == t) b.times 0) * f t) q ≡ b.times * cond holds 0 (f b.bin_type)
    decide true = sum_to-zero (λ t. 0 * f t) q (λ i above below. omega arith) ∙ omega arith
    decide false = one_term b.bin_type b.times q f low high

-- the empty bins, added up by their types, are all of them
worth_by_type : (f : ℕ → ℕ) (q : ℕ) (bins : List Bin) → All (λ b. (1 ≤ b.bin_type) × (b.bin_type ≤ q)) bins → sum_to (λ t. empties_of t bins * f t) q ≡ empty_worth f bins
worth_by_type f q [] among = sum_to-zero (λ t. empties_of t [] * f t) q (λ i above below. omega arith)
worth_by_type f q (b ∷ bins) among =
    let here = All-first (λ (b : Bin). (1 ≤ b.bin_type) × (b.bin_type ≤ q)) b bins among in
    let rest : sum_to (λ t. empties_of t bins * f t) q ≡ empty_worth f bins = worth_by_type f q bins (All-others (λ (b : Bin). (1 ≤ b.bin_type) × (b.bin_type ≤ q)) b bins among) in
    let cut : sum_to (λ t. empties_of t (b ∷ bins) * f t) q ≡ sum_to (λ t. added b t * f t + empties_of t bins * f t) q = sum_to-same (λ t. empties_of t (b ∷ bins) * f t) (λ t. added b t * f t + empties_of t bins * f t) q (λ t. one_more t) in
    let split : sum_to (λ t. added b t * f t + empties_of t bins * f t) q ≡ sum_to (λ t. added b t * f t) q + sum_to (λ t. empties_of t bins * f t) q = sum_to-add (λ t. added b t * f t) (λ t. empties_of t bins * f t) q in
    let first : sum_to (λ t. added b t * f t) q ≡ b.times * cond (holds_units b) 0 (f b.bin_type) = added_worth f q b here.0 here.1 in
    rw (sum_by-cons (λ (b : Bin). b.times * cond (holds_units b) 0 (f b.bin_type)) b bins) (omega (arith, cut, split, first, rest))
  where
    one_more : (t : ℕ) → empties_of t (b ∷ bins) * f t ≡ added b t * f t + empties_of t bins * f t
    one_more t = rw (sum_by-cons (λ (b : Bin). cond (holds_units b) 0 (cond (b.bin_type == t) b.times 0)) b bins) (omega arith)

-- the kept lines are worth what the bins are
pub kept_types : (I : InstanceValue) (f : ℕ → ℕ) (old kept : List Bin) → All (λ b. (1 ≤ b.bin_type) × (b.bin_type ≤ length I.types)) old → IsKept I old kept → by_type f (bins_of kept) ≡ by_type f (bins_of old)
kept_types I f old kept among is =
    let q = length I.types in
    let all : by_type f (bins_of kept) ≡ lines_worth f kept = sum_by-bins_of (λ (b : ℕ × Content). f b.0) kept in
    let tidied : by_type f (bins_of is.tidied) ≡ lines_worth f is.tidied = sum_by-bins_of (λ (b : ℕ × Content). f b.0) is.tidied in
    let parts : lines_worth f kept ≡ lines_worth f is.tidied + lines_worth f (empty_lines q old) = ap (λ (bins : List Bin). lines_worth f bins) is.all ∙ sum_by-append (λ (b : Bin). b.times * f b.bin_type) is.tidied (empty_lines q old) in
    let empties : lines_worth f (empty_lines q old) ≡ empty_worth f old = lines_sum f q old ∙ worth_by_type f q old among in
    omega (arith, all, tidied, parts, empties, tidied_types f old is.tidied is.is_tidied)

-- lines of empty bins hold nothing
empty_holds : (i t n : ℕ) → sum_by (λ b. b.times * count_of_item i b.counts) (empty_line t n) ≡ 0
empty_holds i t zero = refl
empty_holds i t (suc n) = omega arith

nothing_in : (i q : ℕ) (bins : List Bin) → sum_by (λ b. b.times * count_of_item i b.counts) (empty_lines q bins) ≡ 0
nothing_in i zero bins = refl
nothing_in i (suc q) bins =
    let parts = sum_by-append (λ (b : Bin). b.times * count_of_item i b.counts) (empty_lines q bins) (empty_line (suc q) (empties_of (suc q) bins)) in
    let front : sum_by (λ (b : Bin). b.times * count_of_item i b.counts) (empty_lines q bins) ≡ 0 = nothing_in i q bins in
    let last : sum_by (λ (b : Bin). b.times * count_of_item i b.counts) (empty_line (suc q) (empties_of (suc q) bins)) ≡ 0 = empty_holds i (suc q) (empties_of (suc q) bins) in
    omega (arith, parts, front, last)

-- an empty bin fits
empty_fits : (I : InstanceValue) (t : ℕ) → IsAmong t (length I.types) → Fits I t []
empty_fits I t among = record {
  bin_type = among;
  exists = λ k d within. absurd (omega arith);
  weight = λ d there. omega arith;
  caps = λ k d within. omega arith;
}

line_fits : (I : InstanceValue) (t n : ℕ) → IsAmong t (length I.types) → All (λ b. Fits I b.bin_type b.counts) (empty_line t n)
line_fits I t zero among k d within = absurd (omega arith)
line_fits I t (suc n) among zero d within = empty_fits I t among
line_fits I t (suc n) among (suc k) d within = absurd (omega arith)

lines_fit : (I : InstanceValue) (q : ℕ) (bins : List Bin) → q ≤ length I.types → All (λ b. Fits I b.bin_type b.counts) (empty_lines q bins)
lines_fit I zero bins le = λ k d within. absurd (omega arith)
lines_fit I (suc q) bins le = All-append (λ (b : Bin). Fits I b.bin_type b.counts) (empty_lines q bins) (empty_line (suc q) (empties_of (suc q) bins)) (lines_fit I q bins (omega arith)) (line_fits I (suc q) (empties_of (suc q) bins) (omega arith, le))

module _ (I : InstanceValue) (old kept : List Bin) (written : IsWrittenPacking I old) (is : IsKept I old kept) where
  types_exist : All (λ b. (1 ≤ b.bin_type) × (b.bin_type ≤ length I.types)) old
  types_exist = λ k d within. (written.fits k d within).bin_type

  pub kept_cost : cost_of I (bins_of kept) ≡ cost_of I (bins_of old)
  kept_cost = kept_types I (λ t. cost_at I t) old kept types_exist is

  pub kept_packing : IsWrittenPacking I kept
  kept_packing =
      let tidied = tidied-packing old is.tidied is.is_tidied I written in
      let q = length I.types in
      IsWrittenPacking-made I kept
      (subst (λ (bins : List Bin). All (λ b. Fits I b.bin_type b.counts) bins) (sym is.all) (All-append (λ (b : Bin). Fits I b.bin_type b.counts) is.tidied (empty_lines q old) tidied.fits (lines_fit I q old (omega arith))))
      (λ t among. limit-less (type_at I t).limit (used_of t (bins_of kept)) (used_of t (bins_of old)) (let same : used_of t (bins_of kept) ≡ used_of t (bins_of old) = kept_types I (λ s. cond (s == t) 1 0) old kept types_exist is in omega (arith, same)) (written.packing.limits t among))
      (λ i among.
      let held = count_of_item-bins_of i kept in
      let before = count_of_item-bins_of i is.tidied in
      let parts : sum_by (λ (b : Bin). b.times * count_of_item i b.counts) kept ≡ sum_by (λ (b : Bin). b.times * count_of_item i b.counts) is.tidied + sum_by (λ (b : Bin). b.times * count_of_item i b.counts) (empty_lines q old) = ap (λ (bins : List Bin). sum_by (λ (b : Bin). b.times * count_of_item i b.counts) bins) is.all ∙ sum_by-append (λ (b : Bin). b.times * count_of_item i b.counts) is.tidied (empty_lines q old) in
      omega (arith, held, before, parts, nothing_in i q old, tidied.packing.demands i among))

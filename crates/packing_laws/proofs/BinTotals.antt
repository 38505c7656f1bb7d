-- What written bins add up to, and what stays the same where some of them are exchanged for others.
use Rattle.std.proofs.Common.{◌≡◌, ℕ, ◌+◌, ◌-◌, ◌*◌, ◌/◌, ◌%◌, ◌<◌, ◌≤◌, ◌∙◌, ◌⊎◌, inl, inr, List, [], ◌∷◌, ◌++◌, length, cond, ◌==◌, set, Option, Some, None, IfSome, All, sum_by, sym, ap, arith, get_or}
use Rattle.std.proofs.lemmas.List.Sums.{sum_by-append, sum_by_push, sum_by-set}
use Rattle.std.proofs.Math.Nat.{add-mul, mul-le-mul_left}
use Rattle.packing_laws.specs.declared.packings.Count.{Count}
use Rattle.packing_laws.specs.declared.packings.Bin.{Bin}
use Rattle.packing_laws.specs.Instances.{InstanceValue, type_at}
use Rattle.packing_laws.specs.Packings.{Content, Fits, cost_at, cost_of, count_of_item}
use Rattle.packing_laws.specs.Printed.{bins_of, SameContent, IsWrittenPacking}
use Rattle.packing_laws.proofs.WrittenSums.{sum_by-bins_of}
use Rattle.packing_laws.proofs.WrittenPackings.{IsWrittenPacking-made, limit-less, used_of-bins_of, count_of_item-bins_of}
use Rattle.packing_laws.proofs.SameContents.{same-item}

-- a bin that is written, as one that is meant
abbrev pub pair_of : Bin → ℕ × Content
pair_of b = (b.bin_type, b.counts)

-- what the bins add up to, each as often as it is used
abbrev pub total : (ℕ × Content → ℕ) → List Bin → ℕ
total g bins = sum_by (λ b. b.times * g (pair_of b)) bins

-- the bin, used so many times
abbrev pub at_times : Bin → ℕ → Bin
at_times b n = record { bin_type = b.bin_type; times = n; counts = b.counts }

abbrev pub in_type : ℕ → ℕ × Content → ℕ
in_type t b = cond (b.0 == t) 1 0

abbrev pub of_item : ℕ → ℕ × Content → ℕ
of_item i b = count_of_item i b.1

abbrev pub priced : InstanceValue → ℕ × Content → ℕ
priced I b = cost_at I b.0

-- bins that fit, with no more of any type, as many units of each item and no more cost
pub kept : (I : InstanceValue) (old new : List Bin) → All (λ (b : Bin). Fits I b.bin_type b.counts) new → IsWrittenPacking I old → ((t : ℕ) → total (in_type t) new ≤ total (in_type t) old) → ((i : ℕ) → total (of_item i) new ≡ total (of_item i) old) → total (priced I) new ≤ total (priced I) old → IsWrittenPacking I new × (cost_of I (bins_of new) ≤ cost_of I (bins_of old))
kept I old new fits packing types items cost = (
  IsWrittenPacking-made I new fits
      (λ t among.
      let one = used_of-bins_of t old in
      let other = used_of-bins_of t new in
      let less : total (in_type t) new ≤ total (in_type t) old = types t in
      limit-less (type_at I t).limit _ _ (omega arith) (packing.packing.limits t among))
      (λ i among. count_of_item-bins_of i new ∙ items i ∙ sym (count_of_item-bins_of i old) ∙ packing.packing.demands i among),
  (let one : cost_of I (bins_of old) ≡ total (priced I) old = sum_by-bins_of (priced I) old in
      let other : cost_of I (bins_of new) ≡ total (priced I) new = sum_by-bins_of (priced I) new in
      omega arith),
)

-- m times two bins were exchanged for one
abbrev pub Exchanges : List Bin → List Bin → ℕ × Content → ℕ × Content → ℕ × Content → ℕ → Type 0
Exchanges old new x y z m = (g : ℕ × Content → ℕ) → total g new + m * (g x + g y) ≡ total g old + m * g z

exchange-le : (a b c d m : ℕ) → a + m * c ≡ b + m * d → d ≤ c → a ≤ b
exchange-le a b c d m e less = let scaled : m * d ≤ m * c = mul-le-mul_left m less in omega arith

exchange-eq : (a b c d m : ℕ) → a + m * c ≡ b + m * d → d ≡ c → a ≡ b
exchange-eq a b c d m e same = let scaled : m * d ≡ m * c = ap (λ n. m * n) same in omega arith

-- a number of the type of one of two bins
either-le : (f : ℕ → ℕ) (t x y : ℕ) → (t ≡ x) ⊎ (t ≡ y) → f t ≤ f x + f y
either-le f t x y (inl first) = let e : f t ≡ f x = ap f first in omega arith
either-le f t x y (inr second) = let e : f t ≡ f y = ap f second in omega arith

-- where the one bin has what was in both, and the type of one of them, a packing stays one
pub exchanged : (I : InstanceValue) (old new : List Bin) (x y z : ℕ × Content) (m : ℕ) → Exchanges old new x y z m → (z.0 ≡ x.0) ⊎ (z.0 ≡ y.0) → SameContent (x.1 ++ y.1) z.1 → All (λ (b : Bin). Fits I b.bin_type b.counts) new → IsWrittenPacking I old → IsWrittenPacking I new × (cost_of I (bins_of new) ≤ cost_of I (bins_of old))
exchanged I old new x y z m exchange either same fits packing =
    kept I old new fits packing
    (λ t. exchange-le (total (in_type t) new) (total (in_type t) old) (in_type t x + in_type t y) (in_type t z) m (exchange (in_type t)) (either-le (λ u. cond (u == t) 1 0) z.0 x.0 y.0 either))
    (λ i.
    let both : count_of_item i (x.1 ++ y.1) ≡ count_of_item i x.1 + count_of_item i y.1 = sum_by-append (λ (n : Count). cond (n.item == i) n.count 0) x.1 y.1 in
    exchange-eq (total (of_item i) new) (total (of_item i) old) (of_item i x + of_item i y) (of_item i z) m (exchange (of_item i)) (sym (same-item i (x.1 ++ y.1) z.1 same) ∙ both))
    (exchange-le (total (priced I) new) (total (priced I) old) (priced I x + priced I y) (priced I z) m (exchange (priced I)) (either-le (cost_at I) z.0 x.0 y.0 either))

-- the totals of the bins that wait, of one that is looked at, and of those that are done
pub total-three : (g : ℕ × Content → ℕ) (waiting done : List Bin) (b : Bin) → total g ((waiting ++ b ∷ []) ++ done) ≡ total g waiting + b.times * g (pair_of b) + total g done
total-three g waiting done b =
    let f : Bin → ℕ = λ c. c.times * g (pair_of c) in
    let whole : sum_by f ((waiting ++ b ∷ []) ++ done) ≡ sum_by f (waiting ++ b ∷ []) + sum_by f done = sum_by-append f (waiting ++ b ∷ []) done in
    let front : sum_by f (waiting ++ b ∷ []) ≡ sum_by f waiting + f b = sum_by_push f waiting b in
    omega arith

module _ (waiting done : List Bin) (b z : Bin) (m : ℕ) (made : z.times ≡ m) where
  made-times : (g : ℕ × Content → ℕ) → z.times * g (pair_of z) ≡ m * g (pair_of z)
  made-times g = ap (λ n. n * g (pair_of z)) made

  -- m bins are exchanged, together with as many that are done
  pub exchange-with : (k : ℕ) (d : Bin) → k < length done → m ≤ b.times → m ≤ (get_or done k d).times → Exchanges ((waiting ++ b ∷ []) ++ done) (((waiting ++ at_times b (b.times - m) ∷ []) ++ z ∷ []) ++ set done k (at_times (get_or done k d) ((get_or done k d).times - m))) (pair_of (get_or done k d)) (pair_of b) (pair_of z) m
  exchange-with k d within few also g =
      let f : Bin → ℕ = λ c. c.times * g (pair_of c) in
      let y : Bin = get_or done k d in
      let rest : Bin = at_times b (b.times - m) in
      let other : Bin = at_times y (y.times - m) in
      let before : total g ((waiting ++ b ∷ []) ++ done) ≡ total g waiting + f b + total g done = total-three g waiting done b in
      let after : total g (((waiting ++ rest ∷ []) ++ z ∷ []) ++ set done k other) ≡ total g (waiting ++ rest ∷ []) + f z + total g (set done k other) = total-three g (waiting ++ rest ∷ []) (set done k other) z in
      let front : total g (waiting ++ rest ∷ []) ≡ total g waiting + f rest = sum_by_push f waiting rest in
      let back : sum_by f (set done k other) + f (get_or done k d) ≡ sum_by f done + f other = sum_by-set f done k other d within in
      let own : b.times ≡ (b.times - m) + m = omega arith in
      let own_parts : f b ≡ (b.times - m) * g (pair_of b) + m * g (pair_of b) = ap (λ n. n * g (pair_of b)) own ∙ add-mul (b.times - m) m (g (pair_of b)) in
      let its : y.times ≡ (y.times - m) + m = omega arith in
      let its_parts : f y ≡ (y.times - m) * g (pair_of y) + m * g (pair_of y) = ap (λ n. n * g (pair_of y)) its ∙ add-mul (y.times - m) m (g (pair_of y)) in
      let new : f z ≡ m * g (pair_of z) = made-times g in
      omega arith

  -- m bins are exchanged, together with as many of their like
  pub exchange-alike : m ≡ b.times / 2 → Exchanges ((waiting ++ b ∷ []) ++ done) (((waiting ++ at_times b (b.times % 2) ∷ []) ++ z ∷ []) ++ done) (pair_of b) (pair_of b) (pair_of z) m
  exchange-alike half g =
      let f : Bin → ℕ = λ c. c.times * g (pair_of c) in
      let rest : Bin = at_times b (b.times % 2) in
      let before : total g ((waiting ++ b ∷ []) ++ done) ≡ total g waiting + f b + total g done = total-three g waiting done b in
      let after : total g (((waiting ++ rest ∷ []) ++ z ∷ []) ++ done) ≡ total g (waiting ++ rest ∷ []) + f z + total g done = total-three g (waiting ++ rest ∷ []) done z in
      let front : total g (waiting ++ rest ∷ []) ≡ total g waiting + f rest = sum_by_push f waiting rest in
      let own : b.times ≡ (m + m) + b.times % 2 = omega arith in
      let own_parts : f b ≡ (m + m) * g (pair_of b) + b.times % 2 * g (pair_of b) = ap (λ n. n * g (pair_of b)) own ∙ add-mul (m + m) (b.times % 2) (g (pair_of b)) in
      let twice : (m + m) * g (pair_of b) ≡ m * g (pair_of b) + m * g (pair_of b) = add-mul m m (g (pair_of b)) in
      let new : f z ≡ m * g (pair_of z) = made-times g in
      omega arith

-- What is left over at nodes, with more on an arc; and how large a table of it is.
use Rattle.std.proofs.Common.{◌≡◌, ◌≢◌, ℕ, zero, suc, ◌+◌, ◌*◌, ◌^◌, ◌<◌, ◌≤◌, ◌==◌, List, [], ◌∷◌, length, set, get_or, drop, refl, sym, ap, ◌∙◌, subst, ⊎_elim, arith, drop-cons, ℤ, pos, ◌+ℤ◌, ◌-ℤ◌, ◌*ℤ◌, FitsSigned, to_z, of_z, w64}
use Rattle.std.specs.Prelude.{unsigned_abs}
use Rattle.std.proofs.Math.IntN.{zero-*ℤ}
use Rattle.std.proofs.lemmas.Int.{ints, fits_signed_from_abs, to_z-of_z}
use Rattle.std.proofs.lemmas.Bool.{cases_eq, eq-eqb, ne_eqb, cond-true, cond-false}
use Rattle.std.proofs.lemmas.List.{get_or-set_same, get_or-set_other, length-set}
use Rattle.std.proofs.lemmas.List.Sums.{sum_by-cons, sum_by-set}
use Rattle.flow_graph.proofs.SignedProducts.{mul_add, sub_mul, one_mul}
use Rattle.fixed_leaf.specs.declared.joints.Joint.{Joint}
use Rattle.fixed_leaf.specs.inner.Nets.{away, excess_at, joint_at, lowered, no_joint, raised, shifted, size_of, unit_at}

-- more on one arc
pub excess_set : (p : ℕ) (joints : List Joint) (values : List ℤ) (i : ℕ) (d : ℤ) → i < length joints → length values ≡ length joints → excess_at p joints (set values i (get_or values i (pos 0) +ℤ d)) ≡ excess_at p joints values +ℤ away p (joint_at joints i) *ℤ d
excess_set p [] values i d within size = absurd (omega (arith, within))
excess_set p (j ∷ joints) [] i d within size = absurd (omega (arith, size))
excess_set p (j ∷ joints) (x ∷ values) zero d within size =
    let first = mul_add (away p j) x d in
    omega (arith, ints, first)
excess_set p (j ∷ joints) (x ∷ values) (suc i) d within size =
    let rest = excess_set p joints values i d (omega (arith, within)) (omega (arith, size)) in
    omega (arith, ints, rest)

-- the first of the arcs from a place on
pub excess_drop : (p : ℕ) (joints : List Joint) (values : List ℤ) (i : ℕ) → i < length joints → length values ≡ length joints → excess_at p (drop i joints) (drop i values) ≡ away p (joint_at joints i) *ℤ get_or values i (pos 0) +ℤ excess_at p (drop (suc i) joints) (drop (suc i) values)
excess_drop p joints values i within size =
    (λ k. excess_at p (drop-cons joints i no_joint within k) (drop-cons values i (pos 0) (omega (arith, within, size)) k))

pub unit_same : (q : ℕ) → unit_at q q ≡ pos 1
unit_same q = cond-true (q == q) (pos 1) (pos 0) (eq-eqb q q refl)

pub unit_other : (q p : ℕ) → q ≢ p → unit_at q p ≡ pos 0
unit_other q p apart = cond-false (q == p) (pos 1) (pos 0) (ne_eqb q p apart)

pub raised_read : (table : List ℤ) (q p : ℕ) (x : ℤ) → q < length table → get_or (raised table q x) p (pos 0) ≡ get_or table p (pos 0) +ℤ unit_at q p *ℤ x
raised_read table q p x within = ⊎_elim
    (λ same.
    let there = get_or-set_same table q (get_or table q (pos 0) +ℤ x) (pos 0) within in
    let one : unit_at q q *ℤ x ≡ x = ap (λ z. z *ℤ x) (unit_same q) ∙ one_mul x in
    let own : get_or (raised table q x) q (pos 0) ≡ get_or table q (pos 0) +ℤ unit_at q q *ℤ x = omega (arith, ints, there, one) in
    subst (λ (r : ℕ). get_or (raised table q x) r (pos 0) ≡ get_or table r (pos 0) +ℤ unit_at q r *ℤ x) same own)
    (λ apart.
    let there = get_or-set_other table q p (get_or table q (pos 0) +ℤ x) (pos 0) (λ e. apart (sym e)) in
    let none : unit_at q p *ℤ x ≡ pos 0 = ap (λ z. z *ℤ x) (unit_other q p apart) ∙ zero-*ℤ x in
    omega (arith, ints, there, none))
    (cases_eq q p)

pub lowered_read : (table : List ℤ) (q p : ℕ) (x : ℤ) → q < length table → get_or (lowered table q x) p (pos 0) ≡ get_or table p (pos 0) -ℤ unit_at q p *ℤ x
lowered_read table q p x within = ⊎_elim
    (λ same.
    let there = get_or-set_same table q (get_or table q (pos 0) -ℤ x) (pos 0) within in
    let one : unit_at q q *ℤ x ≡ x = ap (λ z. z *ℤ x) (unit_same q) ∙ one_mul x in
    let own : get_or (lowered table q x) q (pos 0) ≡ get_or table q (pos 0) -ℤ unit_at q q *ℤ x = omega (arith, ints, there, one) in
    subst (λ (r : ℕ). get_or (lowered table q x) r (pos 0) ≡ get_or table r (pos 0) -ℤ unit_at q r *ℤ x) same own)
    (λ apart.
    let there = get_or-set_other table q p (get_or table q (pos 0) -ℤ x) (pos 0) (λ e. apart (sym e)) in
    let none : unit_at q p *ℤ x ≡ pos 0 = ap (λ z. z *ℤ x) (unit_other q p apart) ∙ zero-*ℤ x in
    omega (arith, ints, there, none))
    (cases_eq q p)

pub shifted_length : (table : List ℤ) (j : Joint) (x : ℤ) → length (shifted table j x) ≡ length table
shifted_length table j x =
    length-set (lowered table j.head x) j.tail (get_or (lowered table j.head x) j.tail (pos 0) +ℤ x) ∙ length-set table j.head (get_or table j.head (pos 0) -ℤ x)

-- what stands in a shifted table
pub shifted_read : (table : List ℤ) (j : Joint) (x : ℤ) (p : ℕ) → j.tail < length table → j.head < length table → get_or (shifted table j x) p (pos 0) ≡ get_or table p (pos 0) +ℤ away p j *ℤ x
shifted_read table j x p tail head =
    let less = lowered_read table j.head p x head in
    let wide = length-set table j.head (get_or table j.head (pos 0) -ℤ x) in
    let more = raised_read (lowered table j.head x) j.tail p x (omega (arith, wide, tail)) in
    let both = sub_mul (unit_at j.tail p) (unit_at j.head p) x in
    omega (arith, ints, less, more, both)

pub sum_abs : (a b : ℤ) → unsigned_abs (a +ℤ b) ≤ unsigned_abs a + unsigned_abs b
sum_abs a b = grind (arith, ints)

pub less_abs : (a b : ℤ) → unsigned_abs (a -ℤ b) ≤ unsigned_abs a + unsigned_abs b
less_abs a b = grind (arith, ints)

raised_size : (table : List ℤ) (p : ℕ) (x : ℤ) → p < length table → size_of (raised table p x) ≤ size_of table + unsigned_abs x
raised_size table p x within =
    let sum = sum_by-set unsigned_abs table p (get_or table p (pos 0) +ℤ x) (pos 0) within in
    let more = sum_abs (get_or table p (pos 0)) x in
    omega (arith, sum, more)

lowered_size : (table : List ℤ) (p : ℕ) (x : ℤ) → p < length table → size_of (lowered table p x) ≤ size_of table + unsigned_abs x
lowered_size table p x within =
    let sum = sum_by-set unsigned_abs table p (get_or table p (pos 0) -ℤ x) (pos 0) within in
    let more = less_abs (get_or table p (pos 0)) x in
    omega (arith, sum, more)

-- a shifted table is no larger than by twice the value
pub shifted_size : (table : List ℤ) (j : Joint) (x : ℤ) → j.tail < length table → j.head < length table → size_of (shifted table j x) ≤ size_of table + 2 * unsigned_abs x
shifted_size table j x tail head =
    let less = lowered_size table j.head x head in
    let wide = length-set table j.head (get_or table j.head (pos 0) -ℤ x) in
    let more = raised_size (lowered table j.head x) j.tail x (omega (arith, wide, tail)) in
    omega (arith, less, more)

nothing_left : (x : ℤ) → x -ℤ x ≡ pos 0
nothing_left x = omega (arith, ints)

-- what is shifted away whole leaves the table no larger
pub emptied_size : (table : List ℤ) (j : Joint) → j.tail < length table → j.head < length table → size_of (shifted table j (get_or table j.head (pos 0))) ≤ size_of table
emptied_size table j tail head =
    let x : ℤ = get_or table j.head (pos 0) in
    let sum = sum_by-set unsigned_abs table j.head (x -ℤ x) (pos 0) head in
    let none : unsigned_abs (x -ℤ x) ≡ 0 = ap unsigned_abs (nothing_left x) in
    let wide = length-set table j.head (x -ℤ x) in
    let more = raised_size (lowered table j.head x) j.tail x (omega (arith, wide, tail)) in
    omega (arith, sum, none, more)

-- no number of a table is larger than all together
pub size_bounds : (table : List ℤ) (p : ℕ) → unsigned_abs (get_or table p (pos 0)) ≤ size_of table
size_bounds [] p = omega arith
size_bounds (x ∷ table) zero = let sum = sum_by-cons unsigned_abs x table in omega (arith, sum)
size_bounds (x ∷ table) (suc p) =
    let rest = size_bounds table p in
    let sum = sum_by-cons unsigned_abs x table in
    omega (arith, rest, sum)

-- a number of this size stays what it is
pub kept : (z : ℤ) → unsigned_abs z ≤ 2 ^ 62 → to_z w64 (of_z w64 z) ≡ z
kept z small = to_z-of_z w64 z (fits_signed_from_abs w64 z (omega (arith, small)))

module _ (table : List ℤ) (j : Joint) (x : ℤ) (tail : j.tail < length table) (head : j.head < length table) (small : size_of table ≤ 2 ^ 60) (few : unsigned_abs x ≤ 2 ^ 60) where
  less_read : to_z w64 (of_z w64 (to_z w64 (of_z w64 (get_or table j.head (pos 0))) -ℤ to_z w64 (of_z w64 x))) ≡ get_or table j.head (pos 0) -ℤ x
  less_read =
      let own = size_bounds table j.head in
      let more = less_abs (get_or table j.head (pos 0)) x in
      (λ k. to_z w64 (of_z w64 (kept (get_or table j.head (pos 0)) (omega (arith, own, small)) k -ℤ kept x (omega (arith, few)) k))) ∙ kept (get_or table j.head (pos 0) -ℤ x) (omega (arith, more, own, small, few))

  pub less_table : set table j.head (to_z w64 (of_z w64 (to_z w64 (of_z w64 (get_or table j.head (pos 0))) -ℤ to_z w64 (of_z w64 x)))) ≡ lowered table j.head x
  less_table = ap (set table j.head) less_read

  tail_small : unsigned_abs (get_or (lowered table j.head x) j.tail (pos 0)) ≤ 2 ^ 61
  tail_small =
      let own = size_bounds (lowered table j.head x) j.tail in
      let more = lowered_size table j.head x head in
      omega (arith, own, more, small, few)

  more_read : (less : List ℤ) → less ≡ lowered table j.head x → (to_z w64 (of_z w64 (get_or less j.tail (pos 0))) +ℤ to_z w64 (of_z w64 x)) ≡ get_or (lowered table j.head x) j.tail (pos 0) +ℤ x
  more_read less same =
      let own = tail_small in
      (λ k. to_z w64 (of_z w64 (get_or (same k) j.tail (pos 0))) +ℤ kept x (omega (arith, few)) k) ∙ ap (λ z. z +ℤ x) (kept (get_or (lowered table j.head x) j.tail (pos 0)) (omega (arith, own)))

  sum_small : unsigned_abs (get_or (lowered table j.head x) j.tail (pos 0) +ℤ x) ≤ 2 ^ 62
  sum_small = let own = tail_small in let more = sum_abs (get_or (lowered table j.head x) j.tail (pos 0)) x in omega (arith, own, more, few)

  pub shift_fits : (less : List ℤ) → less ≡ lowered table j.head x → FitsSigned w64 (to_z w64 (of_z w64 (get_or less j.tail (pos 0))) +ℤ to_z w64 (of_z w64 x))
  shift_fits less same = let small = sum_small in subst (FitsSigned w64) (sym (more_read less same)) (fits_signed_from_abs w64 (get_or (lowered table j.head x) j.tail (pos 0) +ℤ x) (omega (arith, small)))

  pub shift_table : (less : List ℤ) → less ≡ lowered table j.head x → set less j.tail (to_z w64 (of_z w64 (to_z w64 (of_z w64 (get_or less j.tail (pos 0))) +ℤ to_z w64 (of_z w64 x)))) ≡ shifted table j x
  shift_table less same =
      let value : to_z w64 (of_z w64 (to_z w64 (of_z w64 (get_or less j.tail (pos 0))) +ℤ to_z w64 (of_z w64 x))) ≡ get_or (lowered table j.head x) j.tail (pos 0) +ℤ x = ap (λ z. to_z w64 (of_z w64 z)) (more_read less same) ∙ kept (get_or (lowered table j.head x) j.tail (pos 0) +ℤ x) sum_small in
      λ k. set (same k) j.tail (value k)

-- the excess so far, while the values are added
pub record IsAdded (joints : List Joint) (values : List ℤ) (i n : ℕ) (table : List ℤ) : Type 0 where
  pub size : length table ≡ n
  pub small : size_of table ≤ i * 2 ^ 33
  pub each : (p : ℕ) → p < n → get_or table p (pos 0) +ℤ excess_at p (drop i joints) (drop i values) ≡ excess_at p joints values

pub added_more : (joints : List Joint) (values : List ℤ) (i n : ℕ) (table next : List ℤ) (j : Joint) (x : ℤ) → i < length joints → length values ≡ length joints → j ≡ joint_at joints i → x ≡ get_or values i (pos 0) → j.tail < n → j.head < n → unsigned_abs x ≤ 2 ^ 32 → IsAdded joints values i n table → next ≡ shifted table j x → IsAdded joints values (i + 1) n next
added_more joints values i n table next j x within size here own tail head few so_far is =
    let wide = so_far.size in
    let tails : j.tail < length table = omega (arith, tail, wide) in
    let heads : j.head < length table = omega (arith, head, wide) in
    let number : i + 1 ≡ suc i = omega arith in
    record {
      size = ap length is ∙ shifted_length table j x ∙ wide;
      small = let more = shifted_size table j x tails heads in let old = so_far.small in let same : size_of next ≡ size_of (shifted table j x) = ap size_of is in omega (arith, more, old, few, same);
      each = λ p inside.
          let old = so_far.each p inside in
          let read = shifted_read table j x p tails heads in
          let part = excess_drop p joints values i within size in
          let same : get_or next p (pos 0) ≡ get_or (shifted table j x) p (pos 0) = ap (λ (t : List ℤ). get_or t p (pos 0)) is in
          let first : away p j *ℤ x ≡ away p (joint_at joints i) *ℤ get_or values i (pos 0) = λ k. away p (here k) *ℤ own k in
          let rest : excess_at p (drop (i + 1) joints) (drop (i + 1) values) ≡ excess_at p (drop (suc i) joints) (drop (suc i) values) = ap (λ (m : ℕ). excess_at p (drop m joints) (drop m values)) number in
          omega (arith, ints, old, read, part, same, first, rest);
    }

pub kept_of : (z : ℤ) (n : ℕ) → unsigned_abs z ≤ 2 ^ 32 → to_z w64 (of_z w64 z) ≡ z
kept_of z n small = kept z (omega (arith, small))

pub read_kept : (table : List ℤ) (p most : ℕ) → size_of table ≤ most → most ≤ 2 ^ 60 → to_z w64 (of_z w64 (get_or table p (pos 0))) ≡ get_or table p (pos 0)
read_kept table p most small few = let own = size_bounds table p in kept (get_or table p (pos 0)) (omega (arith, own, small, few))

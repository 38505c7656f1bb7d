-- The prices of arcs, one after the other.
use Rattle.std.proofs.Common.{◌≡◌, ℕ, ◌+◌, ◌-◌, ◌^◌, ◌<◌, ◌≤◌, List, [], ◌∷◌, ◌++◌, length, get_or, sym, ap, ◌∙◌, subst, ⊎_elim, arith, length-append, ℤ, pos, ◌+ℤ◌, ◌-ℤ◌, FitsSigned, to_z, of_z, w64}
use Rattle.std.specs.Prelude.{unsigned_abs, Option}
use Rattle.std.proofs.lemmas.Int.{fits_signed_from_abs}
use Rattle.std.proofs.lemmas.Bool.{cases_eq}
use Rattle.std.proofs.lemmas.List.{get_or_append_left, get_or-append_right, get_or_default}
use Rattle.packing_laws.specs.Instances.{InstanceValue}
use Rattle.flow_graph.specs.declared.parts.ArcKind.{ArcKind}
use Rattle.flow_graph.specs.declared.parts.ArcKind.TheVariants.{Bin}
use Rattle.fixed_leaf.specs.declared.faults.Fault.{Fault}
use Rattle.fixed_leaf.specs.declared.joints.Joint.{Joint}
use Rattle.fixed_leaf.specs.inner.Nets.{joint_at}
use Rattle.fixed_leaf.specs.inner.Priced.{kind_in, price_for}
use Rattle.fixed_leaf.proofs.ChordValues.{all_small}
use Rattle.fixed_leaf.proofs.Excesses.{kept, less_abs, sum_abs}

-- the prices of the arcs before a place
pub record ArePricesTo (I : InstanceValue) (row : List ArcKind) (joints : List Joint) (fault : Option Fault) (heights : List ℤ) (i : ℕ) (prices : List ℤ) : Type 0 where
  pub size : length prices ≡ i
  pub each : (k : ℕ) → k < i → get_or prices k (pos 0) ≡ price_for I fault heights (kind_in row k) (joint_at joints k)
  pub small : (k : ℕ) → unsigned_abs (get_or prices k (pos 0)) ≤ 2 ^ 62

pub prices_more : (I : InstanceValue) (row : List ArcKind) (joints : List Joint) (fault : Option Fault) (heights : List ℤ) (i : ℕ) (prices next : List ℤ) (d : ArcKind) (y : ℤ) → i < length row → ArePricesTo I row joints fault heights i prices → y ≡ price_for I fault heights (get_or row i d) (joint_at joints i) → unsigned_abs y ≤ 2 ^ 62 → next ≡ prices ++ y ∷ [] → ArePricesTo I row joints fault heights (i + 1) next
prices_more I row joints fault heights i prices next d y within so_far is few more =
    let size = so_far.size in
    let value : y ≡ price_for I fault heights (kind_in row i) (joint_at joints i) = is ∙ ap (λ (x : ArcKind). price_for I fault heights x (joint_at joints i)) (get_or_default row i d (Bin 0) within) in
    subst (ArePricesTo I row joints fault heights (i + 1)) (sym more) (record {
      size = let long = length-append prices (y ∷ []) in omega (arith, long, size);
      each = λ k before. ⊎_elim
          (λ (same : k ≡ i).
          let none : k - i ≡ 0 = omega (arith, same) in
          get_or-append_right prices (y ∷ []) i k (pos 0) size (omega (arith, same)) ∙ ap (λ (m : ℕ). get_or (y ∷ []) m (pos 0)) none ∙ value ∙ ap (λ (m : ℕ). price_for I fault heights (kind_in row m) (joint_at joints m)) (sym same))
          (λ apart. get_or_append_left prices (y ∷ []) (pos 0) k (omega (arith, before, apart, size)) ∙ so_far.each k (omega (arith, before, apart)))
          (cases_eq k i);
      small = all_small (2 ^ 62) prices y so_far.small few;
    })

-- the parts of a price, as the code takes them
module _ (head tail cost less : ℤ) (one : unsigned_abs head ≤ 2 ^ 22) (two : unsigned_abs tail ≤ 2 ^ 22) (three : unsigned_abs cost ≤ 2 ^ 32) (four : unsigned_abs less ≤ 1) where
  abbrev handed : ℤ → ℤ
  handed z = to_z w64 (of_z w64 z)

  rise_small : unsigned_abs (head -ℤ tail) ≤ 2 ^ 23
  rise_small = let abs = less_abs head tail in omega (arith, abs, one, two)

  sum_small : unsigned_abs ((head -ℤ tail) +ℤ cost) ≤ 2 ^ 33
  sum_small = let abs = sum_abs (head -ℤ tail) cost in let rise = rise_small in omega (arith, abs, rise, three)

  pub price_small : unsigned_abs (((head -ℤ tail) +ℤ cost) -ℤ less) ≤ 2 ^ 62
  price_small = let abs = less_abs ((head -ℤ tail) +ℤ cost) less in let sum = sum_small in omega (arith, abs, sum, four)

  pub rise_kept : handed (handed head -ℤ handed tail) ≡ head -ℤ tail
  rise_kept = let rise = rise_small in (λ k. handed (kept head (omega (arith, one)) k -ℤ kept tail (omega (arith, two)) k)) ∙ kept (head -ℤ tail) (omega (arith, rise))

  pub sum_kept : handed (handed (handed head -ℤ handed tail) +ℤ handed cost) ≡ (head -ℤ tail) +ℤ cost
  sum_kept = let sum = sum_small in (λ k. handed (rise_kept k +ℤ kept cost (omega (arith, three)) k)) ∙ kept ((head -ℤ tail) +ℤ cost) (omega (arith, sum))

  pub price_kept : handed (handed (handed (handed head -ℤ handed tail) +ℤ handed cost) -ℤ handed less) ≡ ((head -ℤ tail) +ℤ cost) -ℤ less
  price_kept = (λ k. handed (sum_kept k -ℤ kept less (omega (arith, four)) k)) ∙ kept (((head -ℤ tail) +ℤ cost) -ℤ less) price_small

  pub price_fits : FitsSigned w64 (handed (handed (handed head -ℤ handed tail) +ℤ handed cost) -ℤ handed less)
  price_fits = let small = price_small in subst (FitsSigned w64) (sym (λ k. sum_kept k -ℤ kept less (omega (arith, four)) k)) (fits_signed_from_abs w64 (((head -ℤ tail) +ℤ cost) -ℤ less) (omega (arith, small)))

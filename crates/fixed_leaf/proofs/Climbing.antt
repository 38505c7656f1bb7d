-- Heights of nodes, tree arc by tree arc, the first first.
use Rattle.std.proofs.Common.{◌≡◌, ◌≢◌, ℕ, suc, ◌+◌, ◌*◌, ◌^◌, ◌<◌, ◌≤◌, true, false, List, length, set, get_or, sym, ap, ◌∙◌, subst, ⊎_elim, arith, ℤ, pos, ◌+ℤ◌, to_z, of_z, w64}
use Rattle.std.specs.Prelude.{unsigned_abs, Option}
use Rattle.std.proofs.lemmas.Bool.{both_ways, cases_eq}
use Rattle.std.proofs.lemmas.List.{get_or-set_other, get_or-set_same, get_or_default, length-set}
use Rattle.flow_graph.specs.declared.parts.ArcKind.{ArcKind}
use Rattle.flow_graph.specs.declared.parts.ArcKind.TheVariants.{Bin}
use Rattle.fixed_leaf.specs.declared.faults.Fault.{Fault}
use Rattle.fixed_leaf.specs.declared.joints.Joint.{Joint}
use Rattle.fixed_leaf.specs.inner.Nets.{IsForest, joint_at, no_joint}
use Rattle.fixed_leaf.specs.inner.Priced.{carried_by, height_in, kind_in, own_price}
use Rattle.fixed_leaf.proofs.Excesses.{kept, sum_abs}

-- what the arc at a place rises, if it is a tree arc
abbrev pub rise_at : List ArcKind → Option Fault → ℕ → ℤ
rise_at row fault k = own_price fault (suc k) +ℤ pos (carried_by fault (kind_in row k))

-- the tree arcs before a place rise as they are priced
pub record IsClimbed (row : List ArcKind) (joints : List Joint) (fault : Option Fault) (n i : ℕ) (heights : List ℤ) : Type 0 where
  pub size : length heights ≡ n
  pub trees : (k : ℕ) → k < i → k < length joints → (joint_at joints k).tree ≡ true → height_in heights (joint_at joints k).head ≡ height_in heights (joint_at joints k).tail +ℤ rise_at row fault k
  pub small : (p : ℕ) → unsigned_abs (height_in heights p) ≤ 2 * i

module _ (row : List ArcKind) (joints : List Joint) (fault : Option Fault) (n i : ℕ) (heights : List ℤ) (within : i < length joints) (forest : IsForest n joints) (so_far : IsClimbed row joints fault n i heights) where
  abbrev own : Joint
  own = joint_at joints i

  pub climbed_chord : own.tree ≡ false → IsClimbed row joints fault n (i + 1) heights
  climbed_chord chord = record {
    size = so_far.size;
    trees = λ k before inside tree. ⊎_elim
        (λ (same : k ≡ i). absurd (both_ways own.tree chord (subst (λ (m : ℕ). (joint_at joints m).tree ≡ true) same tree)))
        (λ apart. so_far.trees k (omega (arith, before, apart)) inside tree)
        (cases_eq k i);
    small = λ p. let old = so_far.small p in omega (arith, old);
  }

  module _ (tree : own.tree ≡ true) (x : ℤ) (rises : x ≡ height_in heights own.tail +ℤ rise_at row fault i) (few : unsigned_abs (rise_at row fault i) ≤ 2) where
    abbrev next : List ℤ
    next = set heights own.head x

    head_in : own.head < length heights
    head_in = let wide = so_far.size in let low = forest.heads i no_joint within in omega (arith, wide, low)

    elsewhere : (p : ℕ) → p ≢ own.head → height_in next p ≡ height_in heights p
    elsewhere p apart = get_or-set_other heights own.head p x (pos 0) apart

    here : height_in next own.head ≡ x
    here = get_or-set_same heights own.head x (pos 0) head_in

    own_rise : height_in next own.head ≡ height_in next own.tail +ℤ rise_at row fault i
    own_rise =
        let tail = elsewhere own.tail (forest.apart i i (omega arith) within tree tree) in
        here ∙ rises ∙ ap (λ z. z +ℤ rise_at row fault i) (sym tail)

    before_rise : (k : ℕ) → k < i → k < length joints → (joint_at joints k).tree ≡ true → height_in next (joint_at joints k).head ≡ height_in next (joint_at joints k).tail +ℤ rise_at row fault k
    before_rise k before inside other =
        let head = elsewhere (joint_at joints k).head (forest.single k i before within other tree) in
        let tail = elsewhere (joint_at joints k).tail (forest.apart k i (omega (arith, before)) within other tree) in
        head ∙ so_far.trees k before inside other ∙ ap (λ z. z +ℤ rise_at row fault k) (sym tail)

    value_small : unsigned_abs x ≤ 2 * (i + 1)
    value_small =
        let old = so_far.small own.tail in
        let sum = sum_abs (height_in heights own.tail) (rise_at row fault i) in
        let same : unsigned_abs x ≡ unsigned_abs (height_in heights own.tail +ℤ rise_at row fault i) = ap unsigned_abs rises in
        omega (arith, old, sum, same, few)

    pub climbed_tree : IsClimbed row joints fault n (i + 1) next
    climbed_tree = record {
      size = length-set heights own.head x ∙ so_far.size;
      trees = λ k before inside other. ⊎_elim
          (λ (same : k ≡ i). subst (λ (m : ℕ). height_in next (joint_at joints m).head ≡ height_in next (joint_at joints m).tail +ℤ rise_at row fault m) (sym same) own_rise)
          (λ apart. before_rise k (omega (arith, before, apart)) inside other)
          (cases_eq k i);
      small = λ p. ⊎_elim
          (λ (same : p ≡ own.head). let value : unsigned_abs (height_in next p) ≡ unsigned_abs x = ap (λ (q : ℕ). unsigned_abs (height_in next q)) same ∙ ap unsigned_abs here in let small = value_small in omega (arith, value, small))
          (λ apart. let value : unsigned_abs (height_in next p) ≡ unsigned_abs (height_in heights p) = ap unsigned_abs (elsewhere p apart) in let old = so_far.small p in omega (arith, value, old))
          (cases_eq p own.head);
    }

pub climb_value : (heights : List ℤ) (p i : ℕ) (x rise : ℤ) → unsigned_abs (height_in heights p) ≤ 2 * i → i ≤ 2 ^ 21 → unsigned_abs x ≤ 2 → x ≡ rise → to_z w64 (of_z w64 (to_z w64 (of_z w64 (get_or heights p (pos 0))) +ℤ to_z w64 (of_z w64 x))) ≡ height_in heights p +ℤ rise
climb_value heights p i x rise small few less same =
    let one = kept (get_or heights p (pos 0)) (omega (arith, small, few)) in
    let two = kept x (omega (arith, less)) in
    let sum = sum_abs (get_or heights p (pos 0)) x in
    (λ k. to_z w64 (of_z w64 (one k +ℤ two k))) ∙ kept (get_or heights p (pos 0) +ℤ x) (omega (arith, sum, small, few, less)) ∙ ap (λ z. height_in heights p +ℤ z) same

pub rise_same : (row : List ArcKind) (fault : Option Fault) (i : ℕ) (d : ArcKind) → i < length row → own_price fault (i + 1) +ℤ pos (carried_by fault (get_or row i d)) ≡ rise_at row fault i
rise_same row fault i d within =
    let number : i + 1 ≡ suc i = omega arith in
    λ k. own_price fault (number k) +ℤ pos (carried_by fault (get_or_default row i d (Bin 0) within k))

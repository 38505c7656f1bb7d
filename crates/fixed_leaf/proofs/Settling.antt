-- Tree arcs take what is left over at their heads, the last first.
use Rattle.std.proofs.Common.{◌≡◌, ◌≢◌, ℕ, suc, ◌-◌, ◌<◌, ◌≤◌, true, false, List, length, set, get_or, sym, ap, ◌∙◌, subst, ⊎_elim, arith, ℤ, pos, ◌+ℤ◌, ◌-ℤ◌, ◌*ℤ◌}
use Rattle.std.proofs.Math.IntN.{zero-*ℤ}
use Rattle.std.proofs.lemmas.Int.{ints}
use Rattle.std.proofs.lemmas.Bool.{both_ways, cases_eq}
use Rattle.std.proofs.lemmas.List.{get_or-set_other, length-set}
use Rattle.flow_graph.proofs.SignedProducts.{one_mul, sub_mul}
use Rattle.fixed_leaf.specs.declared.joints.Joint.{Joint}
use Rattle.fixed_leaf.specs.inner.Nets.{IsForest, away, excess_at, joint_at, no_joint, shifted, size_of, unit_at}
use Rattle.fixed_leaf.proofs.Excesses.{emptied_size, excess_set, shifted_length, shifted_read, unit_other, unit_same}

-- the arcs from a place on are settled
pub record IsSettling (joints : List Joint) (given : List ℤ) (most n i : ℕ) (values excess : List ℤ) : Type 0 where
  pub size : length values ≡ length joints
  pub wide : length excess ≡ n
  pub chords : (k : ℕ) → k < length joints → (joint_at joints k).tree ≡ false → get_or values k (pos 0) ≡ get_or given k (pos 0)
  pub waiting : (k : ℕ) → k < i → k < length joints → (joint_at joints k).tree ≡ true → get_or values k (pos 0) ≡ pos 0
  pub done : (k : ℕ) → i ≤ k → k < length joints → (joint_at joints k).tree ≡ true → get_or excess (joint_at joints k).head (pos 0) ≡ pos 0
  pub holds : (p : ℕ) → p < n → get_or excess p (pos 0) ≡ excess_at p joints values
  pub small : size_of excess ≤ most

module _ (joints : List Joint) (given : List ℤ) (most n k : ℕ) (values excess : List ℤ) (within : k < length joints) (forest : IsForest n joints) (so_far : IsSettling joints given most n (suc k) values excess) where
  abbrev own : Joint
  own = joint_at joints k

  module _ (tree : own.tree ≡ true) where
    tail_in : own.tail < length excess
    tail_in = let wide = so_far.wide in let low = forest.tails k no_joint within in omega (arith, wide, low)

    head_in : own.head < length excess
    head_in = let wide = so_far.wide in let low = forest.heads k no_joint within in omega (arith, wide, low)

    abbrev missing : ℤ
    missing = get_or excess own.head (pos 0)

    abbrev next : List ℤ
    next = shifted excess own missing

    set_more : set values k missing ≡ set values k (get_or values k (pos 0) +ℤ missing)
    set_more =
        let none = so_far.waiting k (omega arith) within tree in
        let sum : missing ≡ get_or values k (pos 0) +ℤ missing = omega (arith, ints, none) in
        ap (set values k) sum

    nothing_there : (p : ℕ) → own.tail ≢ p → own.head ≢ p → away p own *ℤ missing ≡ pos 0
    nothing_there p tail head =
        let one = unit_other own.tail p tail in
        let two = unit_other own.head p head in
        (λ i. (one i -ℤ two i) *ℤ missing) ∙ zero-*ℤ missing

    emptied : get_or next own.head (pos 0) ≡ pos 0
    emptied =
        let read = shifted_read excess own missing own.head tail_in head_in in
        let one = unit_other own.tail own.head (forest.apart k k (omega arith) within tree tree) in
        let two = unit_same own.head in
        let parts = sub_mul (unit_at own.tail own.head) (unit_at own.head own.head) missing in
        let first : unit_at own.tail own.head *ℤ missing ≡ pos 0 = ap (λ z. z *ℤ missing) one ∙ zero-*ℤ missing in
        let second : unit_at own.head own.head *ℤ missing ≡ missing = ap (λ z. z *ℤ missing) two ∙ one_mul missing in
        omega (arith, ints, read, parts, first, second)

    later_done : (j : ℕ) → k < j → j < length joints → (joint_at joints j).tree ≡ true → get_or next (joint_at joints j).head (pos 0) ≡ pos 0
    later_done j before inside other =
        let read = shifted_read excess own missing (joint_at joints j).head tail_in head_in in
        let none = nothing_there (joint_at joints j).head (forest.apart k j (omega (arith, before)) inside tree other) (forest.single k j before inside tree other) in
        let old = so_far.done j (omega (arith, before)) inside other in
        omega (arith, ints, read, none, old)

    pub settling_tree : IsSettling joints given most n k (set values k missing) next
    settling_tree = record {
      size = length-set values k missing ∙ so_far.size;
      wide = shifted_length excess own missing ∙ so_far.wide;
      chords = λ j inside chord.
          get_or-set_other values k j missing (pos 0) (λ e. both_ways (joint_at joints j).tree chord (subst (λ (m : ℕ). (joint_at joints m).tree ≡ true) (sym e) tree))
          ∙ so_far.chords j inside chord;
      waiting = λ j before inside other. get_or-set_other values k j missing (pos 0) (λ e. omega (arith, e, before)) ∙ so_far.waiting j (omega (arith, before)) inside other;
      done = λ j from inside other. ⊎_elim
          (λ (same : j ≡ k). subst (λ (m : ℕ). get_or next (joint_at joints m).head (pos 0) ≡ pos 0) (sym same) emptied)
          (λ apart. later_done j (omega (arith, from, apart)) inside other)
          (cases_eq j k);
      holds = λ p inside.
          let read = shifted_read excess own missing p tail_in head_in in
          let old = so_far.holds p inside in
          let more = ap (excess_at p joints) set_more ∙ excess_set p joints values k missing within so_far.size in
          omega (arith, ints, read, old, more);
      small = let less = emptied_size excess own tail_in head_in in let old = so_far.small in omega (arith, less, old);
    }

-- one more tree arc, as the code takes it
pub settle_step : (joints : List Joint) (given : List ℤ) (most n index : ℕ) (values excess : List ℤ) → 0 < index → index ≤ length joints → IsForest n joints → IsSettling joints given most n index values excess → (joint_at joints (index - 1)).tree ≡ true → (d : ℤ) → d ≡ get_or excess (joint_at joints (index - 1)).head (pos 0) → (next : List ℤ) → next ≡ shifted excess (joint_at joints (index - 1)) d → IsSettling joints given most n (index - 1) (set values (index - 1) d) next
settle_step joints given most n index values excess some within forest so_far tree d is next moved =
    let number : index ≡ suc (index - 1) = omega (arith, some) in
    let old = subst (λ (m : ℕ). IsSettling joints given most n m values excess) number so_far in
    let new = settling_tree joints given most n (index - 1) values excess (omega (arith, some, within)) forest old tree in
    let table : shifted excess (joint_at joints (index - 1)) (get_or excess (joint_at joints (index - 1)).head (pos 0)) ≡ next = sym (moved ∙ ap (shifted excess (joint_at joints (index - 1))) is) in
    subst (λ (z : ℤ). IsSettling joints given most n (index - 1) (set values (index - 1) z) next) (sym is)
    (subst (IsSettling joints given most n (index - 1) (set values (index - 1) (get_or excess (joint_at joints (index - 1)).head (pos 0)))) table new)

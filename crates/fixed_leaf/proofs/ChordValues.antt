-- The values of the chords, one after the other.
use Rattle.std.proofs.Common.{◌≡◌, ℕ, zero, suc, ◌+◌, ◌-◌, ◌^◌, ◌<◌, ◌≤◌, cond, List, [], ◌∷◌, ◌++◌, length, get_or, sym, ap, ◌∙◌, subst, ⊎_elim, arith, length-append, ℤ, pos}
use Rattle.std.specs.Prelude.{unsigned_abs}
use Rattle.std.proofs.lemmas.Bool.{cases_eq}
use Rattle.std.proofs.lemmas.List.{get_or_append_left, get_or-append_right}
use Rattle.flow_graph.specs.Chords.{range_at}
use Rattle.fixed_leaf.specs.declared.joints.Joint.{Joint}
use Rattle.fixed_leaf.specs.inner.Nets.{joint_at}

-- the value of an arc, by its place, where it is a chord
abbrev pub value_for : List Joint → List (ℕ × ℕ) → ℕ → ℤ
value_for joints ranges k = cond (joint_at joints k).tree (pos 0) (pos (range_at ranges (suc k)).0)

-- the values of the arcs before a place
pub record AreChordsTo (joints : List Joint) (ranges : List (ℕ × ℕ)) (i : ℕ) (values : List ℤ) : Type 0 where
  pub size : length values ≡ i
  pub each : (k : ℕ) → k < i → get_or values k (pos 0) ≡ value_for joints ranges k
  pub small : (k : ℕ) → unsigned_abs (get_or values k (pos 0)) ≤ 2 ^ 32

-- a number of a list with one more: one of those before, the last, or none
pub all_small : (n : ℕ) (xs : List ℤ) (y : ℤ) → ((k : ℕ) → unsigned_abs (get_or xs k (pos 0)) ≤ n) → unsigned_abs y ≤ n → (k : ℕ) → unsigned_abs (get_or (xs ++ y ∷ []) k (pos 0)) ≤ n
all_small n [] y each last zero = last
all_small n [] y each last (suc k) = each 0
all_small n (x ∷ xs) y each last zero = each 0
all_small n (x ∷ xs) y each last (suc k) = all_small n xs y (λ j. each (suc j)) last k

pub chords_more : (joints : List Joint) (ranges : List (ℕ × ℕ)) (i arc : ℕ) (values next : List ℤ) (j : Joint) (y : ℤ) → AreChordsTo joints ranges i values → arc ≡ suc i → j ≡ joint_at joints i → y ≡ cond j.tree (pos 0) (pos (range_at ranges arc).0) → unsigned_abs y ≤ 2 ^ 32 → next ≡ values ++ y ∷ [] → AreChordsTo joints ranges (i + 1) next
chords_more joints ranges i arc values next j y so_far number here is few more =
    let size = so_far.size in
    let value : y ≡ value_for joints ranges i = is ∙ (λ k. cond (here k).tree (pos 0) (pos (range_at ranges (number k)).0)) in
    subst (AreChordsTo joints ranges (i + 1)) (sym more) (record {
      size = let long = length-append values (y ∷ []) in omega (arith, long, size);
      each = λ k before. ⊎_elim
          (λ (same : k ≡ i).
          let none : k - i ≡ 0 = omega (arith, same) in
          get_or-append_right values (y ∷ []) i k (pos 0) size (omega (arith, same)) ∙ ap (λ (m : ℕ). get_or (y ∷ []) m (pos 0)) none ∙ value ∙ ap (value_for joints ranges) (sym same))
          (λ apart. get_or_append_left values (y ∷ []) (pos 0) k (omega (arith, before, apart, size)) ∙ so_far.each k (omega (arith, before, apart)))
          (cases_eq k i);
      small = all_small (2 ^ 32) values y so_far.small few;
    })

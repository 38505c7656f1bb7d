-- The steps of weights hold the greatest of all step values.
use Rattle.std.proofs.Common.{zero, suc, ◌≡◌, ℕ, ◌+◌, ◌-◌, ◌*◌, ◌≤◌, inl, inr, List, [], ◌∷◌, map, All, slice_index, arith, get_or}
use Rattle.std.proofs.lemmas.Bool.{cases_lt}
use Rattle.std.proofs.lemmas.List.Elements.{All-cons}
use Rattle.std.proofs.Math.Nat.{mul-le-mul_left, div-zero}
use Rattle.packing_laws.specs.declared.instances.Item.{Item}
use Rattle.packing_laws.specs.Instances.{InstanceValue, type_at}
use Rattle.packing_laws.specs.Floors.{least_of, div_up, room_in}
use Rattle.packing_laws.proofs.Least.{div_up-enough, div_up-le}
use Rattle.packing_laws.proofs.Sums.{All-first, All-others, sum_by-le-sum_by}
use Rattle.step_bounds.specs.declared.bounds.StepFound.{StepFound}
use Rattle.step_bounds.specs.Steps.{stepped, stepped_in, step_value_of}
use Rattle.step_bounds.specs.inner.Looks.{IsFound, Beats, IsBestIn, HasLooked}
use Rattle.step_bounds.proofs.Stepped.{stepped-large, stepped-itself, stepped-none}

-- from c on up to at most M something that holds is reached
record IsReached (Q : ℕ → Type 0) (M c e : ℕ) : Type 0 where
  pub more : c ≤ e
  pub within : e ≤ M
  pub holds : Q e

-- the step of a weight, where it is at most M, is passed
abbrev IsPassed : ℕ → ℕ → ℕ → ℕ → Type 0
IsPassed W M e w = W + 1 - w ≤ M → W + 1 - w ≤ e

module _ (Q : ℕ → Type 0) (W M : ℕ) (half : 2 * M ≤ W) (weight : List ℕ → ℕ) where
  reach-weight : (c w : ℕ) → c ≤ M → Q c → (2 * (W + 1 - w) ≤ W → Q (W + 1 - w)) → (e : ℕ) × IsReached Q M c e × IsPassed W M e w
  reach-weight c w low holds looked = elim (cases_lt M (W + 1 - w)) [
    | inl above ↦ (c, record { more = omega arith; within = low; holds = holds }, λ passed. absurd (omega arith))
    | inr below ↦ elim (cases_lt c (W + 1 - w)) [
      | inl more ↦ (W + 1 - w, record { more = omega arith; within = below; holds = looked (omega arith) }, λ passed. omega arith)
      | inr less ↦ (c, record { more = omega arith; within = low; holds = holds }, λ passed. less)
    ]
  ]

  reach-forms : (c : ℕ) (vs : List (List ℕ)) → c ≤ M → Q c → All (λ v. 2 * (W + 1 - weight v) ≤ W → Q (W + 1 - weight v)) vs → (e : ℕ) × IsReached Q M c e × All (λ v. IsPassed W M e (weight v)) vs
  reach-forms c [] low holds looked = (c, record { more = omega arith; within = low; holds = holds }, λ k d within. absurd (omega arith))
  reach-forms c (v ∷ vs) low holds looked =
      let one : (e : ℕ) × IsReached Q M c e × IsPassed W M e (weight v) = reach-weight c (weight v) low holds (All-first (λ v. 2 * (W + 1 - weight v) ≤ W → Q (W + 1 - weight v)) v vs looked) in
      let rest : (e : ℕ) × IsReached Q M one.0 e × All (λ v. IsPassed W M e (weight v)) vs = reach-forms one.0 vs one.1.within one.1.holds (All-others (λ v. 2 * (W + 1 - weight v) ≤ W → Q (W + 1 - weight v)) v vs looked) in
      let more : one.0 ≤ rest.0 = rest.1.more in
      let before : c ≤ one.0 = one.1.more in
      (rest.0, record { more = omega arith; within = rest.1.within; holds = rest.1.holds }, All-cons (λ v. IsPassed W M rest.0 (weight v)) v vs (λ low. let passed : W + 1 - weight v ≤ one.0 = one.2 low in omega arith) rest.2)

  reach-items : (c : ℕ) (xs : List Item) → c ≤ M → Q c → All (λ x. All (λ v. 2 * (W + 1 - weight v) ≤ W → Q (W + 1 - weight v)) x.forms) xs → (e : ℕ) × IsReached Q M c e × All (λ x. All (λ v. IsPassed W M e (weight v)) x.forms) xs
  reach-items c [] low holds looked = (c, record { more = omega arith; within = low; holds = holds }, λ k d within. absurd (omega arith))
  reach-items c (x ∷ xs) low holds looked =
      let one : (e : ℕ) × IsReached Q M c e × All (λ v. IsPassed W M e (weight v)) x.forms = reach-forms c x.forms low holds (All-first (λ (x : Item). All (λ v. 2 * (W + 1 - weight v) ≤ W → Q (W + 1 - weight v)) x.forms) x xs looked) in
      let rest : (e : ℕ) × IsReached Q M one.0 e × All (λ x. All (λ v. IsPassed W M e (weight v)) x.forms) xs = reach-items one.0 xs one.1.within one.1.holds (All-others (λ (x : Item). All (λ v. 2 * (W + 1 - weight v) ≤ W → Q (W + 1 - weight v)) x.forms) x xs looked) in
      let more : one.0 ≤ rest.0 = rest.1.more in
      let before : c ≤ one.0 = one.1.more in
      (rest.0, record { more = omega arith; within = rest.1.within; holds = rest.1.holds }, All-cons (λ (x : Item). All (λ v. IsPassed W M rest.0 (weight v)) x.forms) x xs (λ k d within low. let passed : W + 1 - weight (get_or x.forms k d) ≤ one.0 = one.2 k d within low in omega arith) rest.2)

-- a weight counts for no less at a smaller step, if that has passed the weight's own step
stepped-passed : (W M e x : ℕ) → 2 * M ≤ W → e ≤ M → IsPassed W M e x → stepped W M x ≤ stepped W e x
stepped-passed W M e x half less passed = elim (cases_lt (W - M) x) [
  | inl large ↦
      let own : W + 1 - x ≤ e = passed (omega arith) in
      let here : stepped W M x ≡ W = stepped-large W M x large in
      let there : stepped W e x ≡ W = stepped-large W e x (omega arith) in
      omega arith
  | inr small ↦ elim (cases_lt x M) [
    | inl below ↦ let none : stepped W M x ≡ 0 = stepped-none W M x small below in omega arith
    | inr above ↦
        let here : stepped W M x ≡ x = stepped-itself W M x small above in
        let there : stepped W e x ≡ x = stepped-itself W e x (omega arith) (omega arith) in
        omega arith
  ]
]

-- where each is at most another, so is the least
least_of-le-least_of : {X : Type 0} (f g : X → ℕ) (xs : List X) → All (λ x. f x ≤ g x) xs → least_of (map f xs) ≤ least_of (map g xs)
least_of-le-least_of f g [] all = omega arith
least_of-le-least_of f g (x ∷ []) all = All-first (λ x. f x ≤ g x) x [] all
least_of-le-least_of f g (x ∷ y ∷ ys) all =
    let first : f x ≤ g x = All-first (λ x. f x ≤ g x) x (y ∷ ys) all in
    let others : least_of (map f (y ∷ ys)) ≤ least_of (map g (y ∷ ys)) = least_of-le-least_of f g (y ∷ ys) (All-others (λ x. f x ≤ g x) x (y ∷ ys) all) in
    omega arith

-- what is more takes no fewer bins
div_up-le-div_up : (a b w : ℕ) → a ≤ b → div_up a w ≤ div_up b w
div_up-le-div_up a b zero less =
    let here : div_up a 0 ≡ 0 = div-zero (a + (0 - 1)) in
    let there : div_up b 0 ≡ 0 = div-zero (b + (0 - 1)) in
    omega arith
div_up-le-div_up a b (suc w) less =
    let enough : b ≤ div_up b (suc w) * suc w = div_up-enough b (suc w) (omega arith) in
    div_up-le a (suc w) (div_up b (suc w)) (omega arith) (omega arith)

-- a step value is no less at a smaller step that has passed the steps of all weights
value-passed : (I : InstanceValue) (d M e : ℕ) → 2 * M ≤ room_in I d 1 → e ≤ M → All (λ x. All (λ v. IsPassed (room_in I d 1) M e (slice_index v (d - 1))) x.forms) I.items → step_value_of I d M ≤ step_value_of I d e
value-passed I d M e half less passed =
    let W : ℕ = room_in I d 1 in
    let counts : stepped_in I d W M ≤ stepped_in I d W e =
    sum_by-le-sum_by (λ (x : Item). x.demand * least_of (map (λ v. stepped W M (slice_index v (d - 1))) x.forms)) (λ (x : Item). x.demand * least_of (map (λ v. stepped W e (slice_index v (d - 1))) x.forms)) I.items
    (λ k x within. mul-le-mul_left (get_or I.items k x).demand
    (least_of-le-least_of (λ v. stepped W M (slice_index v (d - 1))) (λ v. stepped W e (slice_index v (d - 1))) (get_or I.items k x).forms
    (λ j v inside. stepped-passed W M e (slice_index (get_or (get_or I.items k x).forms j v) (d - 1)) half less (passed k x within j v inside)))) in
    mul-le-mul_left (type_at I 1).cost (div_up-le-div_up (stepped_in I d W M) (stepped_in I d W e) W counts)

-- what was found is the best of its dimension once the steps of all weights were looked at
pub looked-best : (I : InstanceValue) (d : ℕ) (f : StepFound) → IsFound I d f → Beats I d 0 f → All (λ x. All (λ v. HasLooked I d f (slice_index v (d - 1))) x.forms) I.items → IsBestIn I d f
looked-best I d f found start looked = record {
  found = found;
  best = λ M step.
      let W : ℕ = room_in I d 1 in
      let reached : (e : ℕ) × IsReached (λ L. Beats I d L f) M 0 e × All (λ x. All (λ v. IsPassed W M e (slice_index v (d - 1))) x.forms) I.items =
      reach-items (λ L. Beats I d L f) W M step.half (λ v. slice_index v (d - 1)) 0 I.items (omega arith) start looked in
      let less : reached.0 ≤ M = reached.1.within in
      let beats : Beats I d reached.0 f = reached.1.holds in
      let value : step_value_of I d M ≤ step_value_of I d reached.0 = value-passed I d M reached.0 step.half less reached.2 in
      let more : step_value_of I d reached.0 ≤ f.value = beats.value in
      record { value = omega arith; step = λ equal. let before : f.step ≤ reached.0 = beats.step (omega arith) in omega arith };
}

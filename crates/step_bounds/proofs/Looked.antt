-- One more form, one more item, one more dimension.
use Rattle.std.proofs.Common.{suc, ◌≡◌, ℕ, ◌+◌, ◌-◌, ◌<◌, ◌≤◌, ◌∙◌, inl, inr, List, length, take, All, slice_index, sym, subst, arith, get_or}
use Rattle.std.proofs.lemmas.Bool.{cases_lt, cases_eq}
use Rattle.std.proofs.lemmas.List.Elements.{All-more}
use Rattle.packing_laws.specs.declared.instances.Item.{Item}
use Rattle.packing_laws.specs.Instances.{InstanceValue}
use Rattle.step_bounds.specs.declared.bounds.StepFound.{StepFound}
use Rattle.step_bounds.specs.Steps.{step_value_of, IsStep, IsStepBound}
use Rattle.step_bounds.specs.inner.Looks.{Beats, IsBestIn, Improves, HasLooked, IsGreaterOf, IsBestTo}

module _ (I : InstanceValue) (d : ℕ) (f g : StepFound) (improves : Improves I d f g) where
  -- one more form
  pub forms-more : (vs : List (List ℕ)) (k : ℕ) (v w : List ℕ) → k < length vs → v ≡ get_or vs k v → w ≡ v → HasLooked I d g (slice_index w (d - 1)) → All (λ v. HasLooked I d f (slice_index v (d - 1))) (take k vs) → All (λ v. HasLooked I d g (slice_index v (d - 1))) (take (k + 1) vs)
  forms-more vs k v w within here same looked old =
      All-more (λ v. HasLooked I d g (slice_index v (d - 1))) vs k v within (λ j e inside half. improves.beats _ (old j e inside half)) (subst (λ u. HasLooked I d g (slice_index u (d - 1))) (same ∙ here) looked)

  -- one more item
  pub items-more : (xs : List Item) (k : ℕ) (x : Item) (vs : List (List ℕ)) → k < length xs → x ≡ get_or xs k x → vs ≡ x.forms → All (λ v. HasLooked I d g (slice_index v (d - 1))) vs → All (λ x. All (λ v. HasLooked I d f (slice_index v (d - 1))) x.forms) (take k xs) → All (λ x. All (λ v. HasLooked I d g (slice_index v (d - 1))) x.forms) (take (k + 1) xs)
  items-more xs k x vs within here same looked old =
      let forms : All (λ v. HasLooked I d g (slice_index v (d - 1))) x.forms = subst (λ (us : List (List ℕ)). All (λ v. HasLooked I d g (slice_index v (d - 1))) us) same looked in
      All-more (λ (x : Item). All (λ v. HasLooked I d g (slice_index v (d - 1))) x.forms) xs k x within (λ j e inside i v within half. improves.beats _ (old j e inside i v within half)) (subst (λ (y : Item). All (λ v. HasLooked I d g (slice_index v (d - 1))) y.forms) here forms)

-- the first dimension alone
pub best_to-first : (I : InstanceValue) (f : StepFound) → IsBestIn I 1 f → IsBestTo I 1 f
best_to-first I f best =
    let dim : f.dim ≡ 1 = best.found.dim in
    record {
      within = omega arith;
      best = subst (λ d. IsBestIn I d f) (sym dim) best;
      greatest = λ d L within step.
          let low : 1 ≤ d = step.dim.0 in
          let first : d ≡ 1 = omega arith in
          subst (λ e. step_value_of I e L ≤ f.value) (sym first) (best.best L (subst (λ e. IsStep I e L) first step)).value;
      first = λ d L before step. let low : 1 ≤ d = step.dim.0 in absurd (omega arith);
    }

module _ (I : InstanceValue) (n : ℕ) (best next : StepFound) (old : IsBestTo I n best) (new : IsBestIn I (suc n) next) where
  -- a value of the next dimension
  new-value : (e L : ℕ) → e ≡ suc n → IsStep I e L → step_value_of I e L ≤ next.value
  new-value e L same step = subst (λ d. step_value_of I d L ≤ next.value) (sym same) (new.best L (subst (λ d. IsStep I d L) same step)).value

  more-is : best.value < next.value → IsBestTo I (suc n) next
  more-is more =
      let dim : next.dim ≡ suc n = new.found.dim in
      record {
        within = omega arith;
        best = subst (λ d. IsBestIn I d next) (sym dim) new;
        greatest = λ e L within step. elim (cases_eq e (suc n)) [
          | inl last ↦ new-value e L last step
          | inr other ↦ (let before : step_value_of I e L ≤ best.value = old.greatest e L (omega arith) step in omega arith)
        ];
        first = λ e L before step. let less : step_value_of I e L ≤ best.value = old.greatest e L (omega arith) step in omega arith;
      }

  same-is : next.value ≤ best.value → IsBestTo I (suc n) best
  same-is less =
      let within : best.dim ≤ n = old.within in
      record {
        within = omega arith;
        best = old.best;
        greatest = λ e L within step. elim (cases_eq e (suc n)) [
          | inl last ↦ (let value : step_value_of I e L ≤ next.value = new-value e L last step in omega arith)
          | inr other ↦ old.greatest e L (omega arith) step
        ];
        first = old.first;
      }

  both-is : (f : StepFound) → IsGreaterOf best next f → IsBestTo I (suc n) f
  both-is f (inl (more, is)) = subst (IsBestTo I (suc n)) (sym is) (more-is more)
  both-is f (inr (less, is)) = subst (IsBestTo I (suc n)) (sym is) (same-is less)

-- one more dimension
pub best_to-more : (I : InstanceValue) (n d : ℕ) (best next f : StepFound) → d ≡ suc n → IsBestTo I n best → IsBestIn I d next → IsGreaterOf best next f → IsBestTo I d f
best_to-more I n d best next f last old new greater =
    subst (λ e. IsBestTo I e f) (sym last) (both-is I n best next old (subst (λ e. IsBestIn I e next) last new) f greater)

-- all dimensions
pub best_to-all : (I : InstanceValue) (n : ℕ) (f : StepFound) → n ≡ I.dims → IsBestTo I n f → IsStepBound I f
best_to-all I n f all best = record {
  step = best.best.found.step;
  value = best.best.found.value;
  greatest = λ d L step. let high : d ≤ I.dims = step.dim.1 in best.greatest d L (omega arith) step;
  first_dim = λ d L step before. best.first d L before step;
  least_step = λ L step less.
      let beats : Beats I f.dim L f = best.best.best L step in
      elim (cases_lt (step_value_of I f.dim L) f.value) [
        | inl below ↦ below
        | inr above ↦ (let no_less : f.step ≤ L = beats.step above in absurd (omega arith))
      ];
}

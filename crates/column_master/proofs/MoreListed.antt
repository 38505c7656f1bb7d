-- Lists of what has a number, where one number more is looked at.
use Rattle.std.proofs.Common.{◌≡◌, ℕ, ◌+◌, ◌<◌, ◌≤◌, List, [], ◌∷◌, ◌++◌, sym, subst, All, arith, length-append}
use Rattle.std.proofs.lemmas.List.Elements.{All-nil, All-push, All-weaker}
use Rattle.std.proofs.lemmas.List.Quantifiers.{all_pairs_push}
use Rattle.column_master.specs.inner.Listings.{AreListed}

module _ {X : Type 0} (number : X → ℕ) (Keeps : X → Type 0) where
  pub nothing_listed : AreListed number Keeps 0 []
  nothing_listed = record {
    few = omega arith;
    order = λ i j e less within. absurd (omega (arith, within));
    each = All-nil (λ x. (1 ≤ number x) × Keeps x);
    among = All-nil (λ x. number x ≤ 0);
  }

  among_more : (n : ℕ) (xs : List X) → All (λ x. number x ≤ n) xs → All (λ x. number x ≤ n + 1) xs
  among_more n xs all = All-weaker (λ x. number x ≤ n) (λ x. number x ≤ n + 1) (λ x low. omega (arith, low)) xs all

  -- the next number is not listed
  pub passed_over : (n : ℕ) (xs new : List X) → new ≡ xs → AreListed number Keeps n xs → AreListed number Keeps (n + 1) new
  passed_over n xs new same is = subst (AreListed number Keeps (n + 1)) (sym same) (record {
    few = let few = is.few in omega (arith, few);
    order = is.order;
    each = is.each;
    among = among_more n xs is.among;
  })

  -- the next number is listed
  pub listed_more : (n : ℕ) (xs new : List X) (y : X) → number y ≡ n + 1 → Keeps y → new ≡ xs ++ y ∷ [] → AreListed number Keeps n xs → AreListed number Keeps (n + 1) new
  listed_more n xs new y next keeps same is = subst (AreListed number Keeps (n + 1)) (sym same) (record {
    few = let few = is.few in let long = length-append xs (y ∷ []) in omega (arith, few, long);
    order = all_pairs_push (λ x z. number x < number z) xs y is.order (λ k d within. let low = is.among k d within in omega (arith, low, next));
    each = All-push (λ x. (1 ≤ number x) × Keeps x) xs y is.each (omega (arith, next), keeps);
    among = All-push (λ x. number x ≤ n + 1) xs y (among_more n xs is.among) (omega (arith, next));
  })

-- What weights count for.
use Rattle.std.proofs.Common.{zero, suc, ◌≡◌, ℕ, ◌+◌, ◌-◌, ◌*◌, ◌<◌, ◌≤◌, ◌∙◌, inl, inr, List, [], ◌∷◌, cond, nat_lt, nat_le, map, sum, sum_by, arith}
use Rattle.std.proofs.lemmas.Bool.{lt-ltb, le-ltb, lt-leb, le-leb, cond-true, cond-false, cases_lt}
use Rattle.std.proofs.lemmas.List.Sums.{sum_by-cons}
use Rattle.std.proofs.Math.Nat.{mul-le-mul_right}
use Rattle.packing_laws.proofs.Sums.{sum_by-le-sum_by}
use Rattle.packing_laws.proofs.TidyParts.{sum_by-map}
use Rattle.step_bounds.specs.Steps.{stepped, CountsKeepWithin}

-- less than the step is left beside it
pub stepped-large : (W L x : ℕ) → W - L < x → stepped W L x ≡ W
stepped-large W L x large = cond-true (nat_lt (W - L) x) W (cond (nat_le L x) x 0) (lt-ltb (W - L) x large)

-- enough is left, and it is no less than the step
pub stepped-itself : (W L x : ℕ) → x ≤ W - L → L ≤ x → stepped W L x ≡ x
stepped-itself W L x small above = cond-false (nat_lt (W - L) x) W (cond (nat_le L x) x 0) (le-ltb (W - L) x small) ∙ cond-true (nat_le L x) x 0 (le-leb L x above)

-- it is below the step
pub stepped-none : (W L x : ℕ) → x ≤ W - L → x < L → stepped W L x ≡ 0
stepped-none W L x small below = cond-false (nat_lt (W - L) x) W (cond (nat_le L x) x 0) (le-ltb (W - L) x small) ∙ cond-false (nat_le L x) x 0 (lt-leb L x below)

-- where enough is left, a weight counts for no more than itself
pub stepped-le : (W L x : ℕ) → x ≤ W - L → stepped W L x ≤ x
stepped-le W L x small = elim (cases_lt x L) [
  | inl below ↦ let none : stepped W L x ≡ 0 = stepped-none W L x small below in omega arith
  | inr above ↦ let same : stepped W L x ≡ x = stepped-itself W L x small above in omega arith
]

-- units of one weight, beside others that weigh s and count for F: below the step nothing counts, where enough is left no
-- more than the weight, and never more than the capacity
beside : (W L m x s F : ℕ) → 2 * L ≤ W → m * x + s ≤ W → (s < L → F ≡ 0) × (s ≤ W - L → F ≤ s) × (F ≤ W) → (m * x + s < L → m * stepped W L x + F ≡ 0) × (m * x + s ≤ W - L → m * stepped W L x + F ≤ m * x + s) × (m * stepped W L x + F ≤ W)
beside W L zero x s F half fits (low, mid, high) = (λ below. let none : F ≡ 0 = low (omega arith) in omega arith, λ small. let less : F ≤ s = mid (omega arith) in omega arith, omega arith)
beside W L (suc m) x s F half fits (low, mid, high) =
    elim (cases_lt (W - L) x) [
      | inl large ↦
          let none : F ≡ 0 = low (omega arith) in
          let whole : stepped W L x ≡ W = stepped-large W L x large in
          let alone : m ≡ 0 = elim (cases_lt 0 m) [ inl more ↦ (let twice : 1 * x ≤ m * x = mul-le-mul_right x more in absurd (omega arith)) | inr less ↦ omega arith ] in
          rw (whole, none, alone) (λ below. absurd (omega arith), λ small. absurd (omega arith), omega arith)
      | inr small ↦
          elim (cases_lt x L) [
            | inl below ↦
                let nothing : stepped W L x ≡ 0 = stepped-none W L x small below in
                rw nothing (λ less. let none : F ≡ 0 = low (omega arith) in omega arith, λ less. let no_more : F ≤ s = mid (omega arith) in omega arith, omega arith)
            | inr above ↦
                let same : stepped W L x ≡ x = stepped-itself W L x small above in
                let no_more : F ≤ s = mid (omega arith) in
                rw same (λ less. absurd (omega arith), λ less. omega arith, omega arith)
          ]
    ]

-- weights that add up to at most W count for at most W
both : {X : Type 0} (W L : ℕ) (m x : X → ℕ) (c : List X) → 2 * L ≤ W → sum_by (λ n. m n * x n) c ≤ W → (sum_by (λ n. m n * x n) c < L → sum_by (λ n. m n * stepped W L (x n)) c ≡ 0) × (sum_by (λ n. m n * x n) c ≤ W - L → sum_by (λ n. m n * stepped W L (x n)) c ≤ sum_by (λ n. m n * x n) c) × (sum_by (λ n. m n * stepped W L (x n)) c ≤ W)
both W L m x [] half fits = (λ below. omega arith, λ small. omega arith, omega arith)
both W L m x (n ∷ c) half fits =
    let whole : m n * x n + sum_by (λ n. m n * x n) c ≤ W = rw (sum_by-cons (λ n. m n * x n) n c) at fits in
    rw (sum_by-cons (λ n. m n * x n) n c, sum_by-cons (λ n. m n * stepped W L (x n)) n c) (beside W L (m n) (x n) (sum_by (λ n. m n * x n) c) (sum_by (λ n. m n * stepped W L (x n)) c) half whole (both W L m x c half (omega arith)))

pub stepped-fits : {X : Type 0} (W L : ℕ) (m x : X → ℕ) (c : List X) → 2 * L ≤ W → sum_by (λ n. m n * x n) c ≤ W → sum_by (λ n. m n * stepped W L (x n)) c ≤ W
stepped-fits W L m x c half fits = (both W L m x c half fits).2

pub counts_keep_within : CountsKeepWithin
counts_keep_within W L xs half fits =
    let once : sum_by (λ x. 1 * x) xs ≤ sum xs = sum_by-le-sum_by (λ x. 1 * x) (λ x. x) xs (λ k x within. omega arith) in
    let counts : sum_by (λ x. 1 * stepped W L x) xs ≤ W = stepped-fits W L (λ x. 1) (λ x. x) xs half (omega arith) in
    let each : sum_by (stepped W L) xs ≤ sum_by (λ x. 1 * stepped W L x) xs = sum_by-le-sum_by (stepped W L) (λ x. 1 * stepped W L x) xs (λ k x within. omega arith) in
    let mapped : sum (map (stepped W L) xs) ≡ sum_by (stepped W L) xs = sum_by-map (λ x. x) (stepped W L) xs in
    omega arith

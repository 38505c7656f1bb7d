-- In how many places weights stand.
use Rattle.std.proofs.Common.{◌≡◌, ℕ, ◌<◌, ◌≤◌, ⊎_elim, refl, arith}
use Rattle.std.proofs.lemmas.Bool.{cases_lt, le-ltb, lt-ltb}
use Rattle.joint_compile.specs.JointPieces.{width_for}

pub width_one : (n : ℕ) → n < 2 → width_for n ≡ 1
width_one n lt = rw (lt-ltb n 2 lt) refl

pub width_two : (n : ℕ) → 2 ≤ n → n < 3 → width_for n ≡ 2
width_two n le lt = rw (le-ltb n 2 le, lt-ltb n 3 lt) refl

pub width_four : (n : ℕ) → 3 ≤ n → n < 5 → width_for n ≡ 4
width_four n le lt = rw (le-ltb n 2 (omega (arith, le)), le-ltb n 3 le, lt-ltb n 5 lt) refl

pub width_eight : (n : ℕ) → 5 ≤ n → n < 9 → width_for n ≡ 8
width_eight n le lt = rw (le-ltb n 2 (omega (arith, le)), le-ltb n 3 (omega (arith, le)), le-ltb n 5 le, lt-ltb n 9 lt) refl

pub width_sixteen : (n : ℕ) → 9 ≤ n → n < 17 → width_for n ≡ 16
width_sixteen n le lt = rw (le-ltb n 2 (omega (arith, le)), le-ltb n 3 (omega (arith, le)), le-ltb n 5 (omega (arith, le)), le-ltb n 9 le, lt-ltb n 17 lt) refl

pub width_most : (n : ℕ) → 17 ≤ n → width_for n ≡ 32
width_most n le = rw (le-ltb n 2 (omega (arith, le)), le-ltb n 3 (omega (arith, le)), le-ltb n 5 (omega (arith, le)), le-ltb n 9 (omega (arith, le)), le-ltb n 17 le) refl

-- there are enough of them, and not too many
pub width_fits : (n : ℕ) → n ≤ 32 → (n ≤ width_for n) × (width_for n ≤ 32)
width_fits n small =
    ⊎_elim
    (λ lt. let e = width_one n lt in (omega (arith, lt, e), omega (arith, e)))
    (λ two. ⊎_elim
    (λ lt. let e = width_two n two lt in (omega (arith, lt, e), omega (arith, e)))
    (λ three. ⊎_elim
    (λ lt. let e = width_four n three lt in (omega (arith, lt, e), omega (arith, e)))
    (λ five. ⊎_elim
    (λ lt. let e = width_eight n five lt in (omega (arith, lt, e), omega (arith, e)))
    (λ nine. ⊎_elim
    (λ lt. let e = width_sixteen n nine lt in (omega (arith, lt, e), omega (arith, e)))
    (λ more. let e = width_most n more in (omega (arith, small, e), omega (arith, e)))
    (cases_lt n 17))
    (cases_lt n 9))
    (cases_lt n 5))
    (cases_lt n 3))
    (cases_lt n 2)

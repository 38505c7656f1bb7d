-- Sums over the bins that are meant, by the bins as they are written.
use Rattle.std.proofs.Common.{◌≡◌, ℕ, ◌*◌, List, [], ◌∷◌, replicate, sum_by, refl, arith}
use Rattle.std.proofs.lemmas.List.Folds.{sum_by-replicate}
use Rattle.std.proofs.lemmas.List.Sums.{sum_by-cons, sum_by-append}
use Rattle.packing_laws.specs.declared.packings.Bin.{Bin}
use Rattle.packing_laws.specs.Instances.{InstanceValue}
use Rattle.packing_laws.specs.Packings.{Content, cost_at, cost_of}
use Rattle.packing_laws.specs.Printed.{bins_of}

-- a sum over the bins that are meant counts each as often as it is used
pub sum_by-bins_of : (f : ℕ × Content → ℕ) (bins : List Bin) → sum_by f (bins_of bins) ≡ sum_by (λ b. b.times * f (b.bin_type, b.counts)) bins
sum_by-bins_of f [] = refl
sum_by-bins_of f (b ∷ bins) =
    let first : sum_by f (replicate b.times (b.bin_type, b.counts)) ≡ b.times * f (b.bin_type, b.counts) = sum_by-replicate f b.times (b.bin_type, b.counts) in
    let others : sum_by f (bins_of bins) ≡ sum_by (λ b. b.times * f (b.bin_type, b.counts)) bins = sum_by-bins_of f bins in
    rw (sum_by-append f (replicate b.times (b.bin_type, b.counts)) (bins_of bins), sum_by-cons (λ b. b.times * f (b.bin_type, b.counts)) b bins) (omega arith)

pub cost_of-bins_of : (I : InstanceValue) (bins : List Bin) → cost_of I (bins_of bins) ≡ sum_by (λ b. b.times * cost_at I b.bin_type) bins
cost_of-bins_of I bins = sum_by-bins_of (λ b. cost_at I b.0) bins

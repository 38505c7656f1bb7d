-- Bins without the empty ones.
use Rattle.std.proofs.Common.{◌≡◌, ℕ, ◌+◌, ◌<◌, ◌≤◌, ◌∙◌, List, [], ◌∷◌, Bool, true, false, cond, ◌==◌, nat_lt, filter, sum_by, All, sym, arith, get_or}
use Rattle.std.proofs.lemmas.Bool.{cond_both, ltb-false, ltb-true}
use Rattle.std.proofs.lemmas.List.Elements.{All-filter, All-weaker, filter_passes}
use Rattle.std.proofs.lemmas.List.Sums.{sum_by-cons}
use Rattle.packing_laws.specs.declared.packings.Count.{Count}
use Rattle.packing_laws.specs.Instances.{InstanceValue, type_at}
use Rattle.packing_laws.specs.Packings.{Content, Bins, Fits, all_of, used_of, cost_at, count_of_item}
use Rattle.packing_laws.specs.Printed.{filled_bins, units_in, EmptyBinsCanGo}
use Rattle.packing_laws.proofs.Sums.{sum_by-flat_map, sum_by-le-sum_by}
use Rattle.packing_laws.proofs.TidyParts.{sum_by-filter}
use Rattle.packing_laws.proofs.WrittenPackings.{limit-less}

pub sum_by-filter-le : {X : Type 0} (f : X → ℕ) (p : X → Bool) (xs : List X) → sum_by f (filter p xs) ≤ sum_by f xs
sum_by-filter-le f p [] = omega arith
sum_by-filter-le f p (x ∷ xs) =
    let rest : sum_by f (filter p xs) ≤ sum_by f xs = sum_by-filter-le f p xs in
    let whole : sum_by f (x ∷ xs) ≡ f x + sum_by f xs = sum_by-cons f x xs in
    let kept : sum_by f (x ∷ filter p xs) ≡ f x + sum_by f (filter p xs) = sum_by-cons f x (filter p xs) in
    cond_both (p x) (x ∷ filter p xs) (filter p xs) (λ l. sum_by f l ≤ sum_by f (x ∷ xs)) (λ _. omega arith) (λ _. omega arith)

cond-below : (b : Bool) (m : ℕ) → cond b m 0 ≤ m
cond-below true m = omega arith
cond-below false m = omega arith

-- they hold as many units of each item
pub filled-demand : (i : ℕ) (P : Bins) → count_of_item i (all_of (filled_bins P)) ≡ count_of_item i (all_of P)
filled-demand i P =
    let of_item : Count → ℕ = λ m. cond (m.item == i) m.count 0 in
    let content : ℕ × Content → Content = λ b. b.1 in
    sum_by-flat_map of_item content (filled_bins P)
    ∙ sum_by-filter (λ b. count_of_item i b.1) (λ b. nat_lt 0 (units_in b.1)) P
    (λ b none.
    let some : units_in b.1 ≤ 0 = ltb-false 0 (units_in b.1) none in
    let less : count_of_item i b.1 ≤ units_in b.1 = sum_by-le-sum_by of_item (λ (m : Count). m.count) b.1 (λ k d within. cond-below ((get_or b.1 k d).item == i) (get_or b.1 k d).count) in
    omega arith)
    ∙ sym (sum_by-flat_map of_item content P)

pub empty_bins_can_go : EmptyBinsCanGo
empty_bins_can_go I P packing =
    let some : ℕ × Content → Bool = λ b. nat_lt 0 (units_in b.1) in
    record {
      packing = record {
        fits = All-filter some (λ b. Fits I b.0 b.1) P packing.fits;
        limits = λ t among. limit-less (type_at I t).limit (used_of t (filled_bins P)) (used_of t P) (sum_by-filter-le (λ b. cond (b.0 == t) 1 0) some P) (packing.limits t among);
        demands = λ i among. filled-demand i P ∙ packing.demands i among;
      };
      filled = All-weaker (λ b. some b ≡ true) (λ b. 0 < units_in b.1) (λ b passes. ltb-true 0 (units_in b.1) passes) (filled_bins P) (filter_passes some P);
      cost = sum_by-filter-le (λ b. cost_at I b.0) some P;
    }

-- Bins that are used once can be trimmed until each demand is met exactly.
use Rattle.std.proofs.Common.{◌≡◌, ℕ, zero, suc, ◌+◌, ◌-◌, ◌<◌, ◌≤◌, List, [], ◌∷◌, ◌++◌, length, get_or, set, take, take_all, min, refl, sym, ap, ◌∙◌, subst, arith, All}
use Rattle.std.proofs.lemmas.List.{length-set, take_more}
use Rattle.std.proofs.lemmas.List.Elements.{All-weaker}
use Rattle.packing_laws.specs.declared.packings.Count.{Count}
use Rattle.packing_laws.specs.declared.packings.Bin.{Bin}
use Rattle.packing_laws.specs.Instances.{InstanceValue, IsAmong, item_at}
use Rattle.packing_laws.specs.Packings.{Content, Exists}
use Rattle.pattern_extract.specs.Trims.{held, surplus_at, refilled, rest_of, IsReduced, IsUsedBin, AreTrimmed, MeetDemands}
use Rattle.pattern_extract.proofs.Reducing.{IsReducedSoFar, reduced-none, reduced-next, reduced-all}
use Rattle.pattern_extract.proofs.Trimming.{trimmed-none, trimmed-done, trimmed-all}

-- surplus units are taken out of the first n counts of a bin
reduce-to : (old : Content) (before : List ℕ) → All (λ m. IsAmong m.item (length before)) old → (n : ℕ) → n ≤ length old → (new : Content) × (after : List ℕ) × (length after ≡ length before) × IsReducedSoFar 1 n old new before after
reduce-to old before among zero low = ([], before, refl, reduced-none 1 old before)
reduce-to old before among (suc n) low =
    let d : Count = record { item = 0; form = 0; count = 0 } in
    let sofar = reduce-to old before among n (omega (arith, low)) in
    let new : Content = sofar.0 in
    let after : List ℕ = sofar.1 in
    let within : n < length old = omega (arith, low) in
    let m : Count = get_or old n d in
    let taken : ℕ = min (surplus_at after m.item) m.count in
    let more : Content = new ++ rest_of m taken in
    let later : List ℕ = set after (m.item - 1) (surplus_at after m.item - taken) in
    let next : IsReducedSoFar 1 (n + 1) old more before later =
    reduced-next 1 n old new before after m taken taken more sofar.3 within refl (omega arith) (omega arith) (λ less. omega (arith, less)) (among n d within) sofar.2 (omega arith) refl in
    let place : n + 1 ≡ suc n = omega arith in
    (more, later, length-set after (m.item - 1) (surplus_at after m.item - taken) ∙ sofar.2, subst (λ (k : ℕ). IsReducedSoFar 1 k old more before later) place next)

-- the first n bins are still to be trimmed
trim-to : (I : InstanceValue) (bins : List Bin) → All (IsUsedBin I) bins → All (λ b. b.times ≡ 1) bins → (n : ℕ) → n ≤ length bins → (done : List Bin) (surplus : List ℕ) → AreTrimmed I bins (take n bins) done surplus → (all : List Bin) × MeetDemands I bins all
trim-to I bins used once zero low done surplus trimmed = (done, trimmed-all I bins done surplus trimmed)
trim-to I bins used once (suc n) low done surplus trimmed =
    let d : Bin = record { bin_type = 0; times = 0; counts = [] } in
    let b : Bin = get_or bins n d in
    let within : n < length bins = omega (arith, low) in
    let place : suc n ≡ n + 1 = omega arith in
    let more : take (suc n) bins ≡ take n bins ++ b ∷ [] = ap (λ (k : ℕ). take k bins) place ∙ take_more bins n d within in
    let pending = subst (λ (q : List Bin). AreTrimmed I bins q done surplus) more trimmed in
    let one : b.times ≡ 1 = once n d within in
    let own : IsUsedBin I b = used n d within in
    let items : All (λ m. IsAmong m.item (length I.items)) b.counts = All-weaker (Exists I) (λ m. IsAmong m.item (length I.items)) (λ m is. is.item) b.counts own.fits.exists in
    let among : All (λ m. IsAmong m.item (length surplus)) b.counts = subst (λ (k : ℕ). All (λ m. IsAmong m.item k) b.counts) (sym trimmed.size) items in
    let cut = reduce-to b.counts surplus among (length b.counts) (omega arith) in
    let kept : Content = cut.0 in
    let after : List ℕ = cut.1 in
    let reduced : IsReduced 1 b.counts kept surplus after = reduced-all 1 (length b.counts) b.counts kept surplus after (omega arith) cut.3 in
    let lean : All (λ m. surplus_at after m.item ≡ 0) kept = All-weaker (λ m. surplus_at after m.item < 1) (λ m. surplus_at after m.item ≡ 0) (λ m few. omega (arith, few)) kept reduced.small in
    let whole : IsReduced b.times b.counts kept surplus after = subst (λ (k : ℕ). IsReduced k b.counts kept surplus after) (sym one) reduced in
    trim-to I bins used once n (omega (arith, low)) (done ++ refilled b b.times kept ∷ []) after (trimmed-done I bins (take n bins) done surplus after b kept cut.2 whole pending lean)

-- a list with these numbers
listed : (f : ℕ → ℕ) (n : ℕ) → (xs : List ℕ) × (length xs ≡ n) × ((k : ℕ) → k < n → get_or xs k 0 ≡ f k)
listed f zero = ([], refl, λ k within. absurd (omega (arith, within)))
listed f (suc n) =
    let rest = listed (λ k. f (suc k)) n in
    (f 0 ∷ rest.0, ap suc rest.1, first f n rest.0 rest.2)
  where
    first : (f : ℕ → ℕ) (n : ℕ) (xs : List ℕ) → ((k : ℕ) → k < n → get_or xs k 0 ≡ f (suc k)) → (k : ℕ) → k < suc n → get_or (f 0 ∷ xs) k 0 ≡ f k
    first f n xs rest zero within = refl
    first f n xs rest (suc k) within = rest k (omega (arith, within))

-- bins that hold at least what is asked for are trimmed to what is asked for
pub unit-trims : (I : InstanceValue) (bins : List Bin) → All (IsUsedBin I) bins → All (λ b. b.times ≡ 1) bins → ((i : ℕ) → IsAmong i (length I.items) → (item_at I i).demand ≤ held i bins) → (all : List Bin) × MeetDemands I bins all
unit-trims I bins used once served =
    let more : ℕ → ℕ = λ k. held (k + 1) bins - (item_at I (k + 1)).demand in
    let table = listed more (length I.items) in
    let surplus : List ℕ = table.0 in
    let units : (i : ℕ) → IsAmong i (length I.items) → held i bins ≡ (item_at I i).demand + surplus_at surplus i = λ i among.
    let value : surplus_at surplus i ≡ held (i - 1 + 1) bins - (item_at I (i - 1 + 1)).demand = table.2 (i - 1) (omega (arith, among.0, among.1)) in
    let place : i - 1 + 1 ≡ i = omega (arith, among.0) in
    let own : surplus_at surplus i ≡ held i bins - (item_at I i).demand = subst (λ (j : ℕ). surplus_at surplus i ≡ held j bins - (item_at I j).demand) place value in
    let most = served i among in
    omega (arith, own, most) in
    let start = trimmed-none I bins surplus table.1 used units in
    trim-to I bins used once (length bins) (omega arith) [] surplus (subst (λ (q : List Bin). AreTrimmed I bins q [] surplus) (sym (take_all (length bins) bins (omega arith))) start)

-- What prices are worth, and when that is enough.
use Rattle.std.proofs.Common.{◌≡◌, ℕ, suc, ◌+◌, ◌-◌, ◌*◌, ◌^◌, ◌<◌, ◌≤◌, true, false, ℤ, pos, ◌+ℤ◌, ◌-ℤ◌, ◌*ℤ◌, ◌≤ℤ◌, ◌<ℤ◌, to_z, of_z, w64, SFits, List, length, drop, get_or, sym, ap, ◌∙◌, subst, arith, drop-cons}
use Rattle.std.specs.Prelude.{IsTrue, unsigned_abs}
use Rattle.std.specs.Int.{w128}
use Rattle.std.proofs.Math.Nat.{mul-le-mul_left}
use Rattle.std.proofs.lemmas.Int.{ints, to_z-of_z, fits_signed_from_abs, unsigned_abs-mul}
use Rattle.arc_num.specs.declared.TheConstants.{MAX_NUMBERED, MAX_PRICE}
use Rattle.cert_text.specs.declared.lines.ArcPrice.{ArcPrice}
use Rattle.cert_text.specs.declared.lines.Claim.{Claim}
use Rattle.cert_text.specs.declared.lines.Claim.TheVariants.{Bound}
use Rattle.packing_laws.specs.Instances.{InstanceValue}
use Rattle.packing_laws.specs.Packings.{cost_at}
use Rattle.cert_text.specs.declared.lines.Prices.{Prices}
use Rattle.flow_graph.specs.Arcs.{TypeValue}
use Rattle.flow_graph.specs.Chords.{range_at}
use Rattle.path_prices.specs.Excess.{GainsItsCost}
use Rattle.path_prices.specs.Gains.{IsGain, bin_price}
use lib.Signed.{lt_z}
use Rattle.path_prices.specs.Worth.{IsEnough, arcs_worth, least_worth}
use Rattle.path_prices.specs.Worth.IsEnough.{empty, bound}
use Rattle.path_prices.specs.inner.Tables.{IsWithin}
use Rattle.path_prices.proofs.BestWays.{within-abs, within-kept, within-more, within-sum}

pub product-within : (price : ℤ) (count : ℕ) → unsigned_abs price ≤ MAX_PRICE → count ≤ 2 ^ 32 → IsWithin (2 ^ 94) (price *ℤ pos count)
product-within price count small few =
    let size = unsigned_abs-mul price (pos count) in
    let one : unsigned_abs price * count ≤ unsigned_abs price * 2 ^ 32 = mul-le-mul_left (unsigned_abs price) few in
    within-abs (2 ^ 94) (price *ℤ pos count) (omega (arith, size, one, small))

enough : (claim : Claim) (scale bound : ℕ) (worth : ℤ) → claim ≡ Bound bound → 0 < scale → IsEnough claim scale worth → (pos scale *ℤ (pos bound -ℤ pos 1)) <ℤ worth
enough claim scale most worth is some (empty none above) = absurd (omega (arith, none, some))
enough claim scale most worth is some (bound b at positive above) =
    let same : b ≡ most = cc in
    subst (λ (n : ℕ). (pos scale *ℤ (pos n -ℤ pos 1)) <ℤ worth) same above

pub enough-test : (claim : Claim) (scale bound : ℕ) (worth low : ℤ) → claim ≡ Bound bound → 0 < scale → SFits w128 worth → SFits w128 low → low ≡ pos scale *ℤ (pos bound -ℤ pos 1)
    → (IsTrue (lt_z (to_z w128 (of_z w128 low)) (to_z w128 (of_z w128 worth))) → IsEnough claim scale worth) × (IsEnough claim scale worth → IsTrue (lt_z (to_z w128 (of_z w128 low)) (to_z w128 (of_z w128 worth))))
enough-test claim scale most worth low is some fits low_fits value =
    let one = to_z-of_z w128 low low_fits in
    let two = to_z-of_z w128 worth fits in (
      λ test.
          let plain : lt_z low worth ≡ true = subst (λ (z : ℤ). lt_z low z ≡ true) two (subst (λ (z : ℤ). lt_z z (to_z w128 (of_z w128 worth)) ≡ true) one test) in
          let less : low <ℤ worth = grind (arith, ints) in
          bound most is some (subst (λ (z : ℤ). z <ℤ worth) value less),
      λ given.
          let less : low <ℤ worth = subst (λ (z : ℤ). z <ℤ worth) (sym value) (enough claim scale most worth is some given) in
          let plain : lt_z low worth ≡ true = grind (arith, ints) in
          subst (λ (z : ℤ). lt_z z (to_z w128 (of_z w128 worth)) ≡ true) (sym one) (subst (λ (z : ℤ). lt_z low z ≡ true) (sym two) plain),
    )

-- a product, as the code takes it
pub product-handed : (price one two : ℤ) (count : ℕ) → unsigned_abs price ≤ MAX_PRICE → count ≤ 2 ^ 32 → one ≡ to_z w64 (of_z w64 price) → two ≡ pos count → to_z w128 (of_z w128 (to_z w128 (of_z w128 one) *ℤ to_z w128 (of_z w128 two))) ≡ price *ℤ pos count
product-handed price one two count small few first second =
    let kept : to_z w64 (of_z w64 price) ≡ price = to_z-of_z w64 price (fits_signed_from_abs w64 price (omega (arith, small))) in
    let p : to_z w128 (of_z w128 price) ≡ price = within-kept price (within-more MAX_PRICE (2 ^ 126) price (omega arith) (within-abs MAX_PRICE price small)) in
    let n : to_z w128 (of_z w128 (pos count)) ≡ pos count = within-kept (pos count) (within-more (2 ^ 32) (2 ^ 126) (pos count) (omega arith) (record { low = omega (arith, ints); high = omega (arith, ints, few) })) in
    let left : to_z w128 (of_z w128 one) ≡ price = ap (λ z. to_z w128 (of_z w128 z)) (first ∙ kept) ∙ p in
    let right : to_z w128 (of_z w128 two) ≡ pos count = ap (λ z. to_z w128 (of_z w128 z)) second ∙ n in
    let whole : to_z w128 (of_z w128 (price *ℤ pos count)) ≡ price *ℤ pos count = within-kept (price *ℤ pos count) (within-more (2 ^ 94) (2 ^ 126) (price *ℤ pos count) (omega arith) (product-within price count small few)) in
    (λ i. to_z w128 (of_z w128 (left i *ℤ right i))) ∙ whole

-- what listed prices are worth, and how large that is
pub record IsWorth (ranges : List (ℕ × ℕ)) (listed : List ArcPrice) (k : ℕ) (total : ℤ) : Type 0 where
  pub small : IsWithin ((length listed - k) * 2 ^ 94) total
  pub sum : total ≡ arcs_worth ranges (drop k listed)

-- one more listed price, as the code adds it
pub arc-added : (ranges : List (ℕ × ℕ)) (listed : List ArcPrice) (k : ℕ) (d : ArcPrice) (part total : ℤ) → k < length listed → length listed ≤ MAX_NUMBERED → part ≡ least_worth (range_at ranges (get_or listed k d).arc) (get_or listed k d).price → IsWithin (2 ^ 94) part → IsWorth ranges listed (suc k) total → IsWorth ranges listed k (to_z w128 (of_z w128 (to_z w128 (of_z w128 part) +ℤ total)))
arc-added ranges listed k d part total within few is small so_far =
    let rest : ℕ = (length listed - suc k) * 2 ^ 94 in
    let sum : IsWithin ((length listed - k) * 2 ^ 94) (part +ℤ total) = within-more (2 ^ 94 + rest) ((length listed - k) * 2 ^ 94) (part +ℤ total) (omega (arith, within)) (within-sum (2 ^ 94) rest part total small so_far.small) in
    let one : to_z w128 (of_z w128 part) ≡ part = within-kept part (within-more (2 ^ 94) (2 ^ 126) part (omega arith) small) in
    let two : to_z w128 (of_z w128 (part +ℤ total)) ≡ part +ℤ total = within-kept (part +ℤ total) (within-more ((length listed - k) * 2 ^ 94) (2 ^ 126) (part +ℤ total) (omega (arith, few)) sum) in
    let value : to_z w128 (of_z w128 (to_z w128 (of_z w128 part) +ℤ total)) ≡ part +ℤ total = ap (λ z. to_z w128 (of_z w128 (z +ℤ total))) one ∙ two in
    record {
      small = subst (IsWithin ((length listed - k) * 2 ^ 94)) (sym value) sum;
      sum = value ∙ (λ i. is i +ℤ so_far.sum i) ∙ sym (ap (arcs_worth ranges) (drop-cons listed k d within));
    }

-- a gain that is not above the cost, as the code compares them
pub gain-within : (I : InstanceValue) (g : List TypeValue) (p : Prices) (t scale : ℕ) (x cost : ℤ) → IsGain g p t x → p.scale ≡ scale → SFits w128 x → SFits w128 cost → cost ≡ pos (scale * cost_at I t) → lt_z (to_z w128 (of_z w128 cost)) (to_z w128 (of_z w128 x)) ≡ false → GainsItsCost I g p t
gain-within I g p t scale x cost is same x_fits cost_fits value test numbers path =
    let one = to_z-of_z w128 x x_fits in
    let two = to_z-of_z w128 cost cost_fits in
    let plain : lt_z cost x ≡ false = subst (λ (z : ℤ). lt_z cost z ≡ false) one (subst (λ (z : ℤ). lt_z z (to_z w128 (of_z w128 x)) ≡ false) two test) in
    let most : x ≤ℤ cost = grind (arith, ints) in
    let least = is.greatest numbers path in
    let total : cost ≡ pos (p.scale * cost_at I t) = value ∙ ap (λ (n : ℕ). pos (n * cost_at I t)) (sym same) in
    subst (λ (z : ℤ). bin_price g p t numbers ≤ℤ z) total (omega (arith, ints, most, least))

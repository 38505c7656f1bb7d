-- Bins with one unit each.
use Rattle.std.proofs.Common.{◌≡◌, ℕ, ◌+◌, ◌-◌, ◌*◌, ◌<◌, ◌≤◌, ◌∙◌, inl, inr, List, [], ◌∷◌, ◌++◌, length, take, cond, ◌==◌, Option, Some, None, IfSome, All, sum_by, replicate, refl, sym, ap, subst, arith, get_or}
use Rattle.std.specs.List.Sorted.{IsStrictlySortedBy}
use Rattle.std.proofs.lemmas.Bool.{cases_eq, ne_eqb, eq-eqb, cond-true, cond-false}
use Rattle.std.proofs.lemmas.List.{take_all, get_or_default}
use Rattle.std.proofs.lemmas.List.Elements.{All-append, All-replicate, All-push, All-more, All-nil}
use Rattle.std.proofs.lemmas.List.Sums.{sum_by-cons, sum_by_push, sum_by_more}
use Rattle.packing_laws.specs.declared.instances.BinType.{BinType}
use Rattle.packing_laws.specs.declared.instances.Item.{Item}
use Rattle.packing_laws.specs.declared.packings.Count.{Count}
use Rattle.packing_laws.specs.declared.packings.Bin.{Bin}
use Rattle.packing_laws.specs.declared.single.Choice.{Choice}
use Rattle.packing_laws.specs.Instances.{InstanceValue, IsInstance, IsAmong, type_at, item_at, form_at}
use Rattle.packing_laws.specs.Packings.{Content, Exists, Fits, used_of, cost_at, cost_of, count_of_item}
use Rattle.packing_laws.specs.Printed.{bins_of, IsWrittenPacking, IsTidyBin, form_cmp}
use Rattle.packing_laws.specs.Floors.{least_of, single_costs, single_of, HasSingle, HasOneUnitEach}
use Rattle.packing_laws.specs.inner.Choices.{IsCheapest}
use Rattle.packing_laws.proofs.Sums.{All-first, All-others, sum_by-flat_map}
use Rattle.packing_laws.proofs.WrittenSums.{sum_by-bins_of, cost_of-bins_of}
use Rattle.packing_laws.proofs.MaterialLaw.{cost_at-type}
use Rattle.packing_laws.proofs.PackedItems.{vector_fits-at}
use Rattle.packing_laws.proofs.CapLaws.{caps-unit}

-- a bin of a type without limit, with one unit in it
pub record IsUnitBin (I : InstanceValue) (b : Bin) : Type 0 where
  pub fits : Fits I b.bin_type b.counts
  pub unlimited : (type_at I b.bin_type).limit ≡ None
  pub one : sum_by (λ n. n.count) b.counts ≡ 1
  pub tidy : IsTidyBin b

-- such bins, for the units of the first n items
pub record AreApart (I : InstanceValue) (n : ℕ) (bins : List Bin) : Type 0 where
  pub each : All (IsUnitBin I) bins
  pub met : (j : ℕ) → IsAmong j n → sum_by (λ b. b.times * count_of_item j b.counts) bins ≡ (item_at I j).demand
  pub none : (j : ℕ) → n < j → sum_by (λ b. b.times * count_of_item j b.counts) bins ≡ 0
  pub cost : sum_by (λ b. b.times * cost_at I b.bin_type) bins ≡ sum_by (λ x. x.demand * least_of (single_costs I x)) (take n I.items)
  pub exists : All (λ x. 0 < x.demand → 0 < length (single_costs I x)) (take n I.items)

-- bins of a cheapest type for item i
abbrev pub unit_bin : Choice → ℕ → ℕ → Bin
unit_bin c i times = record { bin_type = c.bin_type; times = times; counts = record { item = i; form = c.form; count = 1 } ∷ [] }

-- a list of one element is in order
sorted-one : (n : Count) → IsStrictlySortedBy form_cmp (n ∷ [])
unfolding IsStrictlySortedBy
sorted-one n = (tt, tt)

All-one : {X : Type 0} (P : X → Type 0) (x : X) → P x → All P (x ∷ [])
All-one P x holds = All-push P [] x (All-nil P) holds

-- the bin fits
unit-fits : (I : InstanceValue) (i : ℕ) (c : Choice) (times : ℕ) → IsInstance I → IsAmong i (length I.items) → IsCheapest I (item_at I i) c → Fits I c.bin_type (unit_bin c i times).counts
unit-fits I i c times inside among cheapest =
    let nothing : BinType = record { cap = []; cost = 0; limit = None } in
    let n : Count = record { item = i; form = c.form; count = 1 } in
    let choice = cheapest.choice in
    let t : BinType = type_at I c.bin_type in
    let v : List ℕ = form_at I i c.form in
    let item = inside.items (i - 1) (record { demand = 0; forms = [] }) (omega (arith, among.0, among.1)) in
    let form = item.forms (c.form - 1) [] (omega (arith, choice.of_type.form.0, choice.of_type.form.1)) in
    let bin_type = inside.types (c.bin_type - 1) nothing (omega (arith, choice.among.0, choice.among.1)) in
    let size : length v ≡ I.dims = form.vector.size in
    let room : length t.cap ≡ I.dims = bin_type.capacity.size in
    let there : Exists I n = record { item = among; form = choice.of_type.form } in
    record {
      bin_type = choice.among;
      exists = All-one (Exists I) n there;
      weight = λ d dim. let fit : get_or v (d - 1) 0 ≤ get_or t.cap (d - 1) 0 = vector_fits-at v t.cap (d - 1) (omega arith) choice.of_type.fits in omega arith;
      caps = caps-unit I i c.form inside;
    }

pub unit_bin-is : (I : InstanceValue) (i : ℕ) (c : Choice) (times : ℕ) → IsInstance I → IsAmong i (length I.items) → IsCheapest I (item_at I i) c → 0 < times → IsUnitBin I (unit_bin c i times)
unit_bin-is I i c times inside among cheapest some = record {
  fits = unit-fits I i c times inside among cheapest;
  unlimited = cheapest.choice.of_type.unlimited;
  one = omega arith;
  tidy = record { used = some; filled = omega arith; content = record { order = sorted-one (record { item = i; form = c.form; count = 1 }); positive = All-one (λ (n : Count). 0 < n.count) (record { item = i; form = c.form; count = 1 }) (omega arith) } };
}

-- no items
pub AreApart-start : (I : InstanceValue) → AreApart I 0 []
AreApart-start I = record {
  each = All-nil (IsUnitBin I);
  met = λ j among. absurd (omega (arith, among.0, among.1));
  none = λ j above. refl;
  cost = refl;
  exists = All-nil (λ x. 0 < x.demand → 0 < length (single_costs I x));
}

-- an item that a loop over the items has come to, by its number
pub item-by_number : (I : InstanceValue) (xs : List Item) (n : ℕ) (x : Item) → xs ≡ I.items → n < length xs → x ≡ get_or xs n x → x ≡ item_at I (n + 1)
item-by_number I xs n x same within here =
    let e : n + 1 - 1 ≡ n = omega arith in
    let nothing : Item = record { demand = 0; forms = [] } in
    let there : x ≡ get_or I.items n nothing = here ∙ get_or_default xs n x nothing within ∙ ap (λ (ys : List Item). get_or ys n nothing) same in
    rw e there

-- the number of the next item
next-is : (I : InstanceValue) (n : ℕ) (x : Item) → x ≡ item_at I (n + 1) → x ≡ get_or I.items n (record { demand = 0; forms = [] })
next-is I n x here = let e : n + 1 - 1 ≡ n = omega arith in rw e at here

-- a sum over one more item
next-sum : (I : InstanceValue) (f : Item → ℕ) (n : ℕ) (x : Item) → n < length I.items → x ≡ item_at I (n + 1) → sum_by f (take (n + 1) I.items) ≡ sum_by f (take n I.items) + f x
next-sum I f n x within here =
    sum_by_more f I.items n (record { demand = 0; forms = [] }) within ∙ ap (λ (y : Item). sum_by f (take n I.items) + f y) (sym (next-is I n x here))

next-exists : (I : InstanceValue) (n : ℕ) (x : Item) → n < length I.items → x ≡ item_at I (n + 1) → (0 < x.demand → 0 < length (single_costs I x)) → All (λ x. 0 < x.demand → 0 < length (single_costs I x)) (take n I.items) → All (λ x. 0 < x.demand → 0 < length (single_costs I x)) (take (n + 1) I.items)
next-exists I n x within here exists all =
    All-more (λ (y : Item). 0 < y.demand → 0 < length (single_costs I y)) I.items n (record { demand = 0; forms = [] }) within all
    (subst (λ (y : Item). 0 < y.demand → 0 < length (single_costs I y)) (next-is I n x here) exists)

-- an item without a demand
pub AreApart-skipped : (I : InstanceValue) (n : ℕ) (bins : List Bin) (x : Item) → n < length I.items → x ≡ item_at I (n + 1) → x.demand ≡ 0 → AreApart I n bins → AreApart I (n + 1) bins
AreApart-skipped I n bins x within here none apart =
    let cost : Item → ℕ = λ x. x.demand * least_of (single_costs I x) in
    let more : sum_by cost (take (n + 1) I.items) ≡ sum_by cost (take n I.items) + cost x = next-sum I cost n x within here in
    let free : cost x ≡ 0 * least_of (single_costs I x) = ap (λ m. m * least_of (single_costs I x)) none in
    let same : sum_by cost (take n I.items) ≡ sum_by cost (take (n + 1) I.items) = omega arith in
    record {
      each = apart.each;
      met = λ j among. elim (cases_eq j (n + 1)) [
        | inl last ↦
            let empty : (item_at I (n + 1)).demand ≡ 0 = ap (λ (y : Item). y.demand) (sym here) ∙ none in
            let also : (item_at I j).demand ≡ 0 = ap (λ i. (item_at I i).demand) last ∙ empty in
            apart.none j (omega arith) ∙ sym also
        | inr other ↦ apart.met j (omega (arith, among.0), omega (arith, among.1))
      ];
      none = λ j above. apart.none j (omega arith);
      cost = apart.cost ∙ same;
      exists = next-exists I n x within here (λ some. absurd (omega arith)) apart.exists;
    }

-- how many units of an item are in such a bin
own-unit : (i j : ℕ) (c : Choice) (times : ℕ) → i ≡ j → count_of_item j (unit_bin c i times).counts ≡ 1
own-unit i j c times same = let e : ◌≡◌ {A = ℕ} (cond (i == j) 1 0) 1 = cond-true (i == j) 1 0 (eq-eqb i j same) in omega arith

no-unit : (i j : ℕ) (c : Choice) (times : ℕ) → (i ≡ j → ⊥) → count_of_item j (unit_bin c i times).counts ≡ 0
no-unit i j c times other = let e : ◌≡◌ {A = ℕ} (cond (i == j) 1 0) 0 = cond-false (i == j) 1 0 (ne_eqb i j other) in omega arith

-- an item with a demand
pub AreApart-more : (I : InstanceValue) (n : ℕ) (bins : List Bin) (x : Item) (c : Choice) → IsInstance I → n < length I.items → x ≡ item_at I (n + 1) → 0 < x.demand → IsCheapest I x c → AreApart I n bins → AreApart I (n + 1) (bins ++ unit_bin c (n + 1) x.demand ∷ [])
AreApart-more I n bins x c inside within here some cheapest apart =
    let b : Bin = unit_bin c (n + 1) x.demand in
    let units : ℕ → Bin → ℕ = λ j b. b.times * count_of_item j b.counts in
    let demand : x.demand ≡ (item_at I (n + 1)).demand = ap (λ (y : Item). y.demand) here in
    let cost : Item → ℕ = λ x. x.demand * least_of (single_costs I x) in
    let price : Bin → ℕ = λ b. b.times * cost_at I b.bin_type in
    let more : sum_by cost (take (n + 1) I.items) ≡ sum_by cost (take n I.items) + cost x = next-sum I cost n x within here in
    let push : sum_by price (bins ++ b ∷ []) ≡ sum_by price bins + price b = sum_by_push price bins b in
    let least : cost_at I c.bin_type ≡ least_of (single_costs I x) = cost_at-type I c.bin_type cheapest.choice.among.0 ∙ sym cheapest.choice.of_type.cost ∙ cheapest.least in
    let paid : price b ≡ cost x = ap (λ m. x.demand * m) least in
    record {
      each = All-push (IsUnitBin I) bins b apart.each (unit_bin-is I (n + 1) c x.demand inside (omega arith, omega arith) (subst (λ (y : Item). IsCheapest I y c) here cheapest) some);
      met = λ j among.
          let pushed : sum_by (units j) (bins ++ b ∷ []) ≡ sum_by (units j) bins + units j b = sum_by_push (units j) bins b in
          elim (cases_eq j (n + 1)) [
            | inl last ↦
                let own : units j b ≡ x.demand * 1 = ap (λ m. x.demand * m) (own-unit (n + 1) j c x.demand (sym last)) in
                let before : sum_by (units j) bins ≡ 0 = apart.none j (omega arith) in
                let also : (item_at I j).demand ≡ (item_at I (n + 1)).demand = ap (λ i. (item_at I i).demand) last in
                omega arith
            | inr other ↦
                let own : units j b ≡ x.demand * 0 = ap (λ m. x.demand * m) (no-unit (n + 1) j c x.demand (λ e. other (sym e))) in
                let before : sum_by (units j) bins ≡ (item_at I j).demand = apart.met j (omega (arith, among.0), omega (arith, among.1)) in
                omega arith
          ];
      none = λ j above.
          let pushed : sum_by (units j) (bins ++ b ∷ []) ≡ sum_by (units j) bins + units j b = sum_by_push (units j) bins b in
          let own : units j b ≡ x.demand * 0 = ap (λ m. x.demand * m) (no-unit (n + 1) j c x.demand (λ e. omega arith)) in
          let before : sum_by (units j) bins ≡ 0 = apart.none j (omega arith) in
          omega arith;
      cost = let before : sum_by price bins ≡ sum_by cost (take n I.items) = apart.cost in omega arith;
      exists = next-exists I n x within here (λ _. cheapest.some) apart.exists;
    }

-- what holds of all bins holds of those that are meant
pub All-bins_of : (P : ℕ × Content → Type 0) (bins : List Bin) → All (λ b. P (b.bin_type, b.counts)) bins → All P (bins_of bins)
All-bins_of P [] all = All-nil P
All-bins_of P (b ∷ bins) all =
    All-append P (replicate b.times (b.bin_type, b.counts)) (bins_of bins)
    (All-replicate P b.times (b.bin_type, b.counts) (All-first (λ b. P (b.bin_type, b.counts)) b bins all))
    (All-bins_of P bins (All-others (λ b. P (b.bin_type, b.counts)) b bins all))

-- no bin is of a type with a limit
unused : (I : InstanceValue) (t q : ℕ) (bins : List Bin) → (type_at I t).limit ≡ Some q → All (IsUnitBin I) bins → sum_by (λ b. b.times * cond (b.bin_type == t) 1 0) bins ≡ 0
unused I t q [] limited all = refl
unused I t q (b ∷ bins) limited all =
    let first : b.bin_type ≡ t → ⊥ = λ same.
    let unlimited : (type_at I b.bin_type).limit ≡ None = (All-first (IsUnitBin I) b bins all).unlimited in
    let both : None ≡ Some q = sym unlimited ∙ ap (λ i. (type_at I i).limit) same ∙ limited in
    cc in
    let nothing : ◌≡◌ {A = ℕ} (cond (b.bin_type == t) 1 0) 0 = cond-false (b.bin_type == t) 1 0 (ne_eqb b.bin_type t first) in
    let others : sum_by (λ b. b.times * cond (b.bin_type == t) 1 0) bins ≡ 0 = unused I t q bins limited (All-others (IsUnitBin I) b bins all) in
    rw (sum_by-cons (λ b. b.times * cond (b.bin_type == t) 1 0) b bins, nothing) (omega arith)

within-limit : (limit : Option ℕ) (n : ℕ) → ((q : ℕ) → limit ≡ Some q → n ≡ 0) → IfSome limit (λ q. n ≤ q)
within-limit None n none = tt
within-limit (Some q) n none = let zero_used : n ≡ 0 = none q refl in omega arith

-- all items
pub AreApart-packing : (I : InstanceValue) (n : ℕ) (bins : List Bin) → length I.items ≤ n → AreApart I n bins → IsWrittenPacking I bins
AreApart-packing I n bins all apart =
    let fits : All (λ (b : Bin). Fits I b.bin_type b.counts) bins = λ k d within. (apart.each k d within).fits in
    record {
      fits = fits;
      packing = record {
        fits = All-bins_of (λ b. Fits I b.0 b.1) bins fits;
        limits = λ t among. within-limit (type_at I t).limit (used_of t (bins_of bins)) (λ q limited. sum_by-bins_of (λ b. cond (b.0 == t) 1 0) bins ∙ unused I t q bins limited apart.each);
        demands = λ i among.
            sum_by-flat_map (λ (m : Count). cond (m.item == i) m.count 0) (λ (b : ℕ × Content). b.1) (bins_of bins)
            ∙ sum_by-bins_of (λ b. count_of_item i b.1) bins ∙ apart.met i (omega (arith, among.0), omega (arith, among.1));
      };
    }

pub AreApart-one : (I : InstanceValue) (n : ℕ) (bins : List Bin) → AreApart I n bins → HasOneUnitEach (bins_of bins)
AreApart-one I n bins apart = All-bins_of (λ b. sum_by (λ m. m.count) b.1 ≡ 1) bins (λ k d within. (apart.each k d within).one)

pub AreApart-cost : (I : InstanceValue) (n : ℕ) (bins : List Bin) → length I.items ≤ n → AreApart I n bins → cost_of I (bins_of bins) ≡ single_of I
AreApart-cost I n bins all apart = cost_of-bins_of I bins ∙ apart.cost ∙ ap (λ (xs : List Item). sum_by (λ x. x.demand * least_of (single_costs I x)) xs) (take_all n I.items all)

pub AreApart-tidy : (I : InstanceValue) (n : ℕ) (bins : List Bin) → AreApart I n bins → All IsTidyBin bins
AreApart-tidy I n bins apart k d within = (apart.each k d within).tidy

pub AreApart-exists : (I : InstanceValue) (n : ℕ) (bins : List Bin) → length I.items ≤ n → AreApart I n bins → HasSingle I
AreApart-exists I n bins all apart = subst (λ (xs : List Item). All (λ x. 0 < x.demand → 0 < length (single_costs I x)) xs) (take_all n I.items all) apart.exists

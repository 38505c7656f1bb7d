-- Each packing without empty bins is a flow: the sum of one path for each bin.
use Rattle.std.proofs.Common.{◌≡◌, ℕ, zero, suc, ◌+◌, ◌-◌, ◌<◌, ◌≤◌, cond, ◌==◌, List, [], ◌∷◌, length, get_or, take, refl, sym, ap, ◌∙◌, ⊎_elim, arith, All, sum_by, Option, None, Some}
use Rattle.std.specs.Prelude.{count_by, IfSome}
use Rattle.std.specs.List.{AllZip, flat_map}
use Rattle.std.proofs.lemmas.Bool.{cases_eq, eq-eqb, cond-true}
use Rattle.std.proofs.lemmas.Option.{slice_get-get_or}
use Rattle.std.proofs.lemmas.List.{take_all}
use Rattle.std.proofs.lemmas.List.Sums.{sum_by-cons, sum_by-append, get_or-le-sum_by, count_by-le-length}
use Rattle.std.proofs.lemmas.List.FromFn.{length-map-range_with_len, get_or-map-range_with_len}
use Rattle.std.proofs.lemmas.List.Elements.{All-append, All-nil, All-head, All-tail}
use Rattle.packing_laws.specs.declared.instances.Item.{Item}
use Rattle.packing_laws.specs.declared.packings.Count.{Count}
use Rattle.packing_laws.specs.Instances.{InstanceValue, IsAmong, item_at, type_at, units_of}
use Rattle.packing_laws.specs.Packings.{Content, Bins, Fits, IsWithin, IsPacking, all_of, used_of, count_of_item, cost_of, cost_at}
use Rattle.packing_laws.specs.Printed.{units_in}
use Rattle.packing_laws.proofs.Sums.{sum_by-flat_map, sum_to, sum_to-add, sum_to-le, sum_by-by_number}
use Rattle.flow_graph.specs.declared.parts.ArcKind.{ArcKind}
use Rattle.flow_graph.specs.declared.parts.ArcKind.TheVariants.{Bin, Loss, Piece}
use Rattle.flow_graph.specs.Arcs.{TypeValue, IsFlowGraph, flow_type, numbered, arc_at, first_arc}
use Rattle.flow_graph.specs.Chords.{range_at}
use Rattle.flow_graph.specs.Faithful.{IsFaithful}
use Rattle.flow_graph.proofs.Places.{arc_at-suc, path_numbers}
use Rattle.flow_model.specs.Boxes.{limited, upper_of, root_ranges}
use Rattle.flow_graph.specs.Ends.{comes_in, goes_out}
use Rattle.flow_model.specs.Flows.{IsBounded, weigh_arcs, carries, arc_cost, flow_cost}
use Rattle.flow_model.specs.Packed.{IsWayOf, FlowOfPacking, PackingsAreFlows}
use Rattle.flow_model.proofs.Counts.{at, counts_from, weigh_counts}
use Rattle.flow_model.proofs.Ways.{one_if, most, way_conserved, way_cost, way_carries, way_most}
use Rattle.flow_model.specs.inner.Known.{IsArcOf}
use Rattle.flow_model.proofs.ArcsKnown.{arcs_known}
use Rattle.flow_model.proofs.BrokenRows.{range_is}

abbrev pub all_ways : List (List ℕ) → List ℕ
all_ways ways = flat_map (λ way. way) ways

-- sums over ways, bin by bin
module _ (g : List TypeValue) where
  abbrev OfGraph : Bins → Type 0
  OfGraph bins = All (λ b. IsAmong b.0 (length g)) bins

  ways_equal : (f h : ℕ → ℕ) → ((b : ℕ × Content) (way : List ℕ) → IsAmong b.0 (length g) → IsWayOf g b way → sum_by f way ≡ sum_by h way) → (bins : Bins) (ways : List (List ℕ)) → OfGraph bins → AllZip (IsWayOf g) bins ways → sum_by f (all_ways ways) ≡ sum_by h (all_ways ways)
  ways_equal f h each [] [] of are = refl
  ways_equal f h each [] (way ∷ ways) of are = absurd are
  ways_equal f h each (b ∷ bins) [] of are = absurd are
  ways_equal f h each (b ∷ bins) (way ∷ ways) of are =
      let first = each b way (All-head (λ (b : ℕ × Content). IsAmong b.0 (length g)) b bins of) are.0 in
      let rest = ways_equal f h each bins ways (All-tail (λ (b : ℕ × Content). IsAmong b.0 (length g)) b bins of) are.1 in
      rw (sum_by-append f way (all_ways ways), sum_by-append h way (all_ways ways)) (omega (arith, first, rest))

  ways_sum : (f : ℕ → ℕ) (c : ℕ × Content → ℕ) → ((b : ℕ × Content) (way : List ℕ) → IsAmong b.0 (length g) → IsWayOf g b way → sum_by f way ≡ c b) → (bins : Bins) (ways : List (List ℕ)) → OfGraph bins → AllZip (IsWayOf g) bins ways → sum_by f (all_ways ways) ≡ sum_by c bins
  ways_sum f c each [] [] of are = refl
  ways_sum f c each [] (way ∷ ways) of are = absurd are
  ways_sum f c each (b ∷ bins) [] of are = absurd are
  ways_sum f c each (b ∷ bins) (way ∷ ways) of are =
      let first = each b way (All-head (λ (b : ℕ × Content). IsAmong b.0 (length g)) b bins of) are.0 in
      let rest = ways_sum f c each bins ways (All-tail (λ (b : ℕ × Content). IsAmong b.0 (length g)) b bins of) are.1 in
      rw (sum_by-append f way (all_ways ways), sum_by-cons c b bins) (omega (arith, first, rest))

  ways_most : (f : ℕ → ℕ) (c : ℕ × Content → ℕ) → ((b : ℕ × Content) (way : List ℕ) → IsAmong b.0 (length g) → IsWayOf g b way → sum_by f way ≤ c b) → (bins : Bins) (ways : List (List ℕ)) → OfGraph bins → AllZip (IsWayOf g) bins ways → sum_by f (all_ways ways) ≤ sum_by c bins
  ways_most f c each [] [] of are = omega arith
  ways_most f c each [] (way ∷ ways) of are = absurd are
  ways_most f c each (b ∷ bins) [] of are = absurd are
  ways_most f c each (b ∷ bins) (way ∷ ways) of are =
      let first = each b way (All-head (λ (b : ℕ × Content). IsAmong b.0 (length g)) b bins of) are.0 in
      let rest = ways_most f c each bins ways (All-tail (λ (b : ℕ × Content). IsAmong b.0 (length g)) b bins of) are.1 in
      rw (sum_by-append f way (all_ways ways), sum_by-cons c b bins) (omega (arith, first, rest))

  -- each bin has a way
  made_ways : (I : InstanceValue) → IsFaithful I g → (bins : Bins) → OfGraph bins → All (λ b. Fits I b.0 b.1) bins → All (λ b. IsWithin I b.1) bins → (ways : List (List ℕ)) × AllZip (IsWayOf g) bins ways
  made_ways I is [] of fits within = ([], tt)
  made_ways I is (b ∷ bins) of fits within =
      let among : IsAmong b.0 (length g) = All-head (λ (b : ℕ × Content). IsAmong b.0 (length g)) b bins of in
      let rest = made_ways I is bins (All-tail (λ (b : ℕ × Content). IsAmong b.0 (length g)) b bins of) (All-tail (λ (b : ℕ × Content). Fits I b.0 b.1) b bins fits) (All-tail (λ (b : ℕ × Content). IsWithin I b.1) b bins within) in
      let path = is.covers b.0 among b.1 (All-head (λ (b : ℕ × Content). Fits I b.0 b.1) b bins fits) (All-head (λ (b : ℕ × Content). IsWithin I b.1) b bins within) in
      let numbers = path_numbers g b.0 among path.0 1 (flow_type g b.0).nodes path.1 in
      let own : IsWayOf g b (first_arc g b.0 ∷ numbers.0) = record { path = path.0; numbers = numbers.0; closed = refl; leads = path.1; are = numbers.1; content = path.2 } in
      ((first_arc g b.0 ∷ numbers.0) ∷ rest.0, (own, rest.1))

-- a sum with such a term
pub sum_to-term : (j k n : ℕ) → 1 ≤ j → j ≤ n → k ≤ sum_to (λ i. cond (j == i) k 0) n
sum_to-term j k zero low high = absurd (omega (arith, low, high))
sum_to-term j k (suc n) low high = ⊎_elim
    (λ same. let last : cond {A = ℕ} (j == suc n) k 0 ≡ k = cond-true (j == suc n) k 0 (eq-eqb j (suc n) same) in omega (arith, last))
    (λ other. let before : k ≤ sum_to (λ i. cond (j == i) k 0) n = sum_to-term j k n low (omega (arith, high, other)) in omega (arith, before))
    (cases_eq j (suc n))

-- the units of a content are those of its items
pub units_by_item : (n : ℕ) (c : Content) → All (λ m. IsAmong m.item n) c → units_in c ≤ sum_to (λ i. count_of_item i c) n
units_by_item n [] among = omega arith
units_by_item n (m ∷ c) among =
    let here : IsAmong m.item n = All-head (λ (x : Count). IsAmong x.item n) m c among in
    let rest : units_in c ≤ sum_to (λ i. count_of_item i c) n = units_by_item n c (All-tail (λ (x : Count). IsAmong x.item n) m c among) in
    let first : m.count ≤ sum_to (λ i. cond (m.item == i) m.count 0) n = sum_to-term m.item m.count n here.0 here.1 in
    let both : sum_to (λ i. cond (m.item == i) m.count 0 + count_of_item i c) n ≡ sum_to (λ i. cond (m.item == i) m.count 0) n + sum_to (λ i. count_of_item i c) n = sum_to-add (λ i. cond (m.item == i) m.count 0) (λ i. count_of_item i c) n in
    let parts : sum_to (λ i. cond (m.item == i) m.count 0 + count_of_item i c) n ≤ sum_to (λ i. count_of_item i (m ∷ c)) n =
    sum_to-le (λ i. cond (m.item == i) m.count 0 + count_of_item i c) (λ i. count_of_item i (m ∷ c)) n
    (λ i low high. let e : count_of_item i (m ∷ c) ≡ cond (m.item == i) m.count 0 + count_of_item i c = sum_by-cons (λ (x : Count). cond (x.item == i) x.count 0) m c in omega (arith, e)) in
    let whole : units_in (m ∷ c) ≡ m.count + units_in c = sum_by-cons (λ (x : Count). x.count) m c in
    omega (arith, rest, first, both, parts, whole)

pub all_exist : (I : InstanceValue) (P : Bins) → All (λ b. Fits I b.0 b.1) P → All (λ m. IsAmong m.item (length I.items)) (all_of P)
all_exist I [] fits = All-nil (λ (m : Count). IsAmong m.item (length I.items))
all_exist I (b ∷ P) fits =
    All-append (λ (m : Count). IsAmong m.item (length I.items)) b.1 (all_of P)
    (λ k d within. ((All-head (λ (c : ℕ × Content). Fits I c.0 c.1) b P fits).exists k d within).item)
    (all_exist I P (All-tail (λ (c : ℕ × Content). Fits I c.0 c.1) b P fits))

pub filled_bins_few : (bins : Bins) → All (λ b. 0 < units_in b.1) bins → length bins ≤ sum_by (λ b. units_in b.1) bins
filled_bins_few [] filled = omega arith
filled_bins_few (b ∷ bins) filled =
    let first = All-head (λ (b : ℕ × Content). 0 < units_in b.1) b bins filled in
    let rest = filled_bins_few bins (All-tail (λ (b : ℕ × Content). 0 < units_in b.1) b bins filled) in
    rw (sum_by-cons (λ (b : ℕ × Content). units_in b.1) b bins) (omega (arith, first, rest))

-- there are no more bins than units
pub bins_few : (I : InstanceValue) (P : Bins) → IsPacking I P → All (λ b. 0 < units_in b.1) P → length P ≤ units_of I
bins_few I P is filled =
    let n : ℕ = length I.items in
    let demand : ℕ → ℕ = λ i. (item_at I i).demand in
    let few = filled_bins_few P filled in
    let joined : units_in (all_of P) ≡ sum_by (λ b. units_in b.1) P = sum_by-flat_map (λ (m : Count). m.count) (λ (b : ℕ × Content). b.1) P in
    let by_item : units_in (all_of P) ≤ sum_to (λ i. count_of_item i (all_of P)) n = units_by_item n (all_of P) (all_exist I P is.fits) in
    let met : sum_to (λ i. count_of_item i (all_of P)) n ≤ sum_to demand n =
    sum_to-le (λ i. count_of_item i (all_of P)) demand n (λ i low high. let e : count_of_item i (all_of P) ≡ demand i = is.demands i (low, high) in omega (arith, e)) in
    let asked : sum_by (λ (x : Item). x.demand) (take n I.items) ≡ sum_to demand n = sum_by-by_number (λ (x : Item). x.demand) I.items (record { demand = 0; forms = [] }) n (omega arith) in
    let whole : sum_by (λ (x : Item). x.demand) (take n I.items) ≡ units_of I = ap (sum_by (λ (x : Item). x.demand)) (take_all n I.items (omega arith)) in
    omega (arith, few, joined, by_item, met, asked, whole)

pub within_one : (I : InstanceValue) (P : Bins) → IsPacking I P → All (λ b. IsWithin I b.1) P
within_one I P is k d within i among =
    let part = get_or-le-sum_by (λ (b : ℕ × Content). count_of_item i b.1) P k d within in
    let joined : count_of_item i (all_of P) ≡ sum_by (λ b. count_of_item i b.1) P = sum_by-flat_map (λ (m : Count). cond (m.item == i) m.count 0) (λ (b : ℕ × Content). b.1) P in
    let whole = is.demands i among in
    omega (arith, part, joined, whole)

pub ones : (bins : Bins) → sum_by (λ b. 1) bins ≡ length bins
ones [] = refl
ones (b ∷ bins) = let rest = ones bins in rw (sum_by-cons (λ (b : ℕ × Content). 1) b bins) (omega (arith, rest))

pub limit_met : (n used : ℕ) (limit : Option ℕ) → used ≤ n → IfSome limit (λ q. used ≤ q) → used ≤ limited n limit
limit_met n used None few met = few
limit_met n used (Some q) few met = omega (arith, few, met)

pub count_few : (bins : Bins) (t : ℕ) → used_of t bins ≤ length bins
count_few bins t = count_by-le-length (λ (b : ℕ × Content). b.0 == t) bins

module _ (I : InstanceValue) (g : List TypeValue) (bins : Bins) (graph : IsFlowGraph g) (is : IsFaithful I g) (packing : IsPacking I bins) (filled : All (λ b. 0 < units_in b.1) bins) where
  of_graph : OfGraph g bins
  of_graph k d within =
      let types = is.graph.types in
      let own = (packing.fits k d within).bin_type in
      (own.0, omega (arith, own.1, types))

  ways : (ways : List (List ℕ)) × AllZip (IsWayOf g) bins ways
  ways = made_ways g I is bins of_graph packing.fits (within_one I bins packing)

  abbrev named : List ℕ
  named = all_ways ways.0

  abbrev values : List ℕ
  values = counts_from named 1 (length (numbered g))

  value_is : (a : ℕ) → IsAmong a (length (numbered g)) → get_or values (a - 1) 0 ≡ count_by (λ n. n == a) named
  value_is a among = get_or-map-range_with_len (λ a. count_by (λ n. n == a) named) 1 (length (numbered g)) (a - 1) a 0 (omega (arith, among.0, among.1)) (omega (arith, among.0))

  size : length values ≡ length (numbered g)
  size = length-map-range_with_len (λ a. count_by (λ n. n == a) named) 1 (length (numbered g))

  few : length bins ≤ units_of I
  few = bins_few I bins packing filled

  conserved : (t v : ℕ) → weigh_arcs (one_if (comes_in t v)) (numbered g) values ≡ weigh_arcs (one_if (goes_out g t v)) (numbered g) values
  conserved t v = weigh_counts (one_if (comes_in t v)) named (numbered g) 1 ∙ ways_equal g (at (one_if (comes_in t v)) (numbered g) 1) (at (one_if (goes_out g t v)) (numbered g) 1) (way_conserved g t v) bins ways.0 of_graph ways.1 ∙ sym (weigh_counts (one_if (goes_out g t v)) named (numbered g) 1)

  costs : flow_cost I g values ≡ cost_of I bins
  costs = weigh_counts (arc_cost I) named (numbered g) 1 ∙ ways_sum g (at (arc_cost I) (numbered g) 1) (λ b. cost_at I b.0) (way_cost I g) bins ways.0 of_graph ways.1

  served : (i : ℕ) → IsAmong i (length I.items) → (item_at I i).demand ≤ weigh_arcs (one_if (carries i)) (numbered g) values
  served i among =
      let sum : weigh_arcs (one_if (carries i)) (numbered g) values ≡ sum_by (λ b. count_of_item i b.1) bins = weigh_counts (one_if (carries i)) named (numbered g) 1 ∙ ways_sum g (at (one_if (carries i)) (numbered g) 1) (λ b. count_of_item i b.1) (way_carries g i among.0) bins ways.0 of_graph ways.1 in
      let joined : count_of_item i (all_of bins) ≡ sum_by (λ b. count_of_item i b.1) bins = sum_by-flat_map (λ (m : Count). cond (m.item == i) m.count 0) (λ (b : ℕ × Content). b.1) bins in
      let whole = packing.demands i among in
      omega (arith, sum, joined, whole)

  most_bound : (kind : ArcKind) → IsArcOf (length I.items) g kind → sum_by (most kind) bins ≤ upper_of I kind
  most_bound (Bin t) own =
      let types = is.graph.types in
      let among : IsAmong t (length I.types) = (own.0, omega (arith, own.1, types)) in
      let used = count_few bins t in
      limit_met (units_of I) (used_of t bins) (type_at I t).limit (omega (arith, used, few)) (packing.limits t among)
  most_bound (Loss t tail head) own = let sum = ones bins in omega (arith, sum, few)
  most_bound (Piece t tail head item form) own = let sum = ones bins in omega (arith, sum, few)

  bounded : (a : ℕ) → IsAmong a (length (numbered g)) → IsBounded I g values a
  bounded a among =
      let d : ArcKind = Bin 0 in
      let kind : ArcKind = get_or (numbered g) (a - 1) d in
      let within : a - 1 < length (numbered g) = omega (arith, among.0, among.1) in
      let e : a - 1 + 1 ≡ a = omega (arith, among.0) in
      let f : suc (a - 1) ≡ a = omega (arith, among.0) in
      let there : arc_at g a ≡ Some kind = ap (arc_at g) (sym f) ∙ arc_at-suc g (a - 1) ∙ slice_get-get_or (numbered g) (a - 1) d within in
      let range : range_at (root_ranges I g) a ≡ (0, upper_of I kind) = ap (range_at (root_ranges I g)) (sym e) ∙ range_is I g (a - 1) d within in
      let low : (range_at (root_ranges I g) a).0 ≡ 0 = ap (λ (r : ℕ × ℕ). r.0) range in
      let high : (range_at (root_ranges I g) a).1 ≡ upper_of I kind = ap (λ (r : ℕ × ℕ). r.1) range in
      let value = value_is a among in
      let all : count_by (λ n. n == a) named ≤ sum_by (most kind) bins = ways_most g (λ n. cond (n == a) 1 0) (most kind) (way_most g graph a kind there) bins ways.0 of_graph ways.1 in
      let bound = most_bound kind (arcs_known I g graph is.graph (a - 1) d within) in
      (omega (arith, low), omega (arith, high, value, all, bound))

  pub packed : FlowOfPacking I g bins
  packed = record {
    values = values;
    flow = record { size = size; nodes = λ t v among node. conserved t v; demands = served; bounds = bounded };
    cost = costs;
    sum = record { ways = ways.0; each = ways.1; sum = λ a among. value_is a (among.0, omega (arith, among.1, size)) };
  }

pub packings_are_flows : PackingsAreFlows
packings_are_flows I g bins instance graph is packing filled = packed I g bins graph is packing filled

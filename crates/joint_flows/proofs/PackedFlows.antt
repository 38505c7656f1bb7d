-- Each packing without empty bins is a flow: the sum of one path for each bin.
use Rattle.std.proofs.Common.{◌≡◌, ℕ, suc, ◌+◌, ◌-◌, ◌<◌, ◌≤◌, true, cond, ◌==◌, List, [], ◌∷◌, length, map, get_or, refl, sym, ap, ◌∙◌, subst, ⊎_elim, arith, All, sum_by, Some}
use Rattle.std.specs.Prelude.{count_by}
use Rattle.std.specs.List.{flat_map}
use Rattle.std.proofs.lemmas.Bool.{cases_order}
use Rattle.std.proofs.lemmas.Option.{slice_get-get_or, get_or_from_slice_get}
use Rattle.std.proofs.lemmas.List.Sums.{sum_by-le-sum_by}
use Rattle.std.proofs.lemmas.List.FromFn.{length-map-range_with_len, get_or-map-range_with_len}
use Rattle.std.proofs.lemmas.List.Elements.{All-head, All-tail}
use Rattle.packing_laws.specs.declared.packings.Count.{Count}
use Rattle.packing_laws.specs.Instances.{InstanceValue, IsAmong, item_at, type_at, units_of}
use Rattle.packing_laws.specs.Packings.{Content, Bins, Fits, IsWithin, IsPacking, all_of, used_of, count_of_item, cost_of, cost_at}
use Rattle.packing_laws.specs.Printed.{SameContent, units_in}
use Rattle.packing_laws.proofs.SameContents.{same-item}
use Rattle.packing_laws.proofs.Sums.{sum_by-flat_map}
use Rattle.packing_laws.proofs.TidyParts.{sum_by-map}
use Rattle.flow_graph.specs.declared.parts.TypeArc.{TypeArc}
use Rattle.flow_graph.specs.declared.parts.ArcKind.{ArcKind}
use Rattle.flow_graph.specs.declared.parts.ArcKind.TheVariants.{Bin}
use Rattle.flow_graph.specs.Arcs.{kind_of}
use Rattle.flow_graph.specs.Chords.{range_at}
use Rattle.flow_graph.specs.Faithful.{content_of}
use Rattle.flow_graph.proofs.ArcKinds.{kind_cases, nothing}
use Rattle.flow_model.specs.Boxes.{upper_of}
use Rattle.flow_model.specs.Flows.{arc_cost, carries, weigh_arcs}
use Rattle.flow_model.proofs.Counts.{at, counts_from, sum_by-zero, weigh_counts}
use Rattle.flow_model.proofs.PackedFlows.{bins_few, count_few, limit_met, ones, within_one}
use Rattle.flow_model.proofs.Ways.{cost_kind, one_if, path_carries, path_conserved}
use Rattle.joint_arcs.specs.Joined.{JointValue, IsJoint, arc_at, numbered, target_at}
use Rattle.joint_arcs.specs.Faithful.{IsFaithful, IsTypePath}
use Rattle.joint_arcs.specs.Flows.{IsBounded, comes_in, flow_cost, goes_out, root_ranges}
use Rattle.joint_arcs.proofs.Rows.{numbered_length}
use Rattle.joint_flows.specs.Packed.{FlowOfPacking, PackingsAreFlows}
use Rattle.joint_flows.proofs.BrokenRows.{range_is}
use Rattle.joint_flows.proofs.BinWays.{AreNumbers, arc_at-suc, arc_number, at_way, bin_number, bins_on_way, others_on_way, path_numbers}

-- a bin with a path to the target of its type that carries what is in it, and the numbers of the arcs of the path
pub record Walk (g : JointValue) : Type 0 where
  bin : ℕ × Content
  among : IsAmong bin.0 g.types
  path : List TypeArc
  numbers : List ℕ
  leads : IsTypePath g bin.0 path
  are : AreNumbers g numbers path
  content : SameContent (content_of path) bin.1

-- the numbers of its bin arc and of its path
abbrev pub way_of : {g : JointValue} → Walk g → List ℕ
way_of walk = walk.bin.0 ∷ walk.numbers

abbrev pub bins_of : {g : JointValue} → List (Walk g) → Bins
bins_of walks = map (λ walk. walk.bin) walks

-- each bin has such a path
pub walks_of : (I : InstanceValue) (g : JointValue) → IsFaithful I g → (bins : Bins) → All (λ b. Fits I b.0 b.1) bins → All (λ b. IsWithin I b.1) bins → (walks : List (Walk g)) × (bins_of walks ≡ bins)
walks_of I g is [] fits within = ([], refl)
walks_of I g is (b ∷ bins) fits within =
    let rest = walks_of I g is bins (All-tail (λ (b : ℕ × Content). Fits I b.0 b.1) b bins fits) (All-tail (λ (b : ℕ × Content). IsWithin I b.1) b bins within) in
    let own : Fits I b.0 b.1 = All-head (λ (b : ℕ × Content). Fits I b.0 b.1) b bins fits in
    let types = is.graph.types in
    let among : IsAmong b.0 g.types = (own.bin_type.0, omega (arith, own.bin_type.1, types)) in
    let path = is.covers b.0 among b.1 own (All-head (λ (b : ℕ × Content). IsWithin I b.1) b bins within) in
    let numbers = path_numbers g path.0 1 (target_at g b.0) path.1 in
    let first : Walk g = record { bin = b; among = among; path = path.0; numbers = numbers.0; leads = path.1; are = numbers.1; content = path.2 } in
    (first ∷ rest.0, ap (λ (bs : Bins). b ∷ bs) rest.1)

-- what comes into a node on a path and its bin arc goes out of it
walk_conserved : (g : JointValue) (v : ℕ) (walk : Walk g) → one_if (comes_in v) (Bin walk.bin.0) + sum_by (λ e. one_if (comes_in v) (kind_of 1 e)) walk.path ≡ one_if (goes_out g v) (Bin walk.bin.0) + sum_by (λ e. one_if (goes_out g v) (kind_of 1 e)) walk.path
walk_conserved g v walk =
    let head : (e : TypeArc) → one_if (comes_in v) (kind_of 1 e) ≡ cond (e.head == v) 1 0 = λ e. kind_cases (λ kind. one_if (comes_in v) kind ≡ cond (e.head == v) 1 0) 1 e refl refl in
    let tail : (e : TypeArc) → one_if (goes_out g v) (kind_of 1 e) ≡ cond (e.tail == v) 1 0 = λ e. kind_cases (λ kind. one_if (goes_out g v) kind ≡ cond (e.tail == v) 1 0) 1 e refl refl in
    let heads : sum_by (λ e. one_if (comes_in v) (kind_of 1 e)) walk.path ≡ sum_by (λ e. cond (e.head == v) 1 0) walk.path = λ k. sum_by (λ (e : TypeArc). head e k) walk.path in
    let tails : sum_by (λ e. one_if (goes_out g v) (kind_of 1 e)) walk.path ≡ sum_by (λ e. cond (e.tail == v) 1 0) walk.path = λ k. sum_by (λ (e : TypeArc). tail e k) walk.path in
    let whole : sum_by (λ e. cond (e.head == v) 1 0) walk.path + cond (1 == v) 1 0 ≡ sum_by (λ e. cond (e.tail == v) 1 0) walk.path + cond (target_at g walk.bin.0 == v) 1 0 = path_conserved g.arcs true v 1 (target_at g walk.bin.0) walk.path walk.leads in
    omega (arith, heads, tails, whole)

-- only the bin arc costs
walk_costs : (I : InstanceValue) (g : JointValue) (walk : Walk g) → arc_cost I (Bin walk.bin.0) + sum_by (λ e. arc_cost I (kind_of 1 e)) walk.path ≡ cost_at I walk.bin.0
walk_costs I g walk =
    let none = sum_by-zero (λ (e : TypeArc). arc_cost I (kind_of 1 e)) walk.path (cost_kind I 1) in
    omega (arith, none)

-- a walk carries what is in its bin
walk_carries : (g : JointValue) (i : ℕ) → 1 ≤ i → (walk : Walk g) → one_if (carries i) (Bin walk.bin.0) + sum_by (λ e. one_if (carries i) (kind_of 1 e)) walk.path ≡ count_of_item i walk.bin.1
walk_carries g i low walk =
    let path = path_carries i 1 low walk.path in
    let same = same-item i (content_of walk.path) walk.bin.1 walk.content in
    omega (arith, path, same)

-- how often each arc is on the ways of some walks
module _ (I : InstanceValue) (g : JointValue) (walks : List (Walk g)) where
  abbrev pub named : List ℕ
  named = flat_map (λ walk. way_of walk) walks

  abbrev pub values : List ℕ
  values = counts_from named 1 (length (numbered g))

  -- a sum over the arcs is one over the walks
  pub weigh_walks : (f : ArcKind → ℕ) → weigh_arcs f (numbered g) values ≡ sum_by (λ walk. f (Bin walk.bin.0) + sum_by (λ e. f (kind_of 1 e)) walk.path) walks
  weigh_walks f =
      let each : (walk : Walk g) → sum_by (at f (numbered g) 1) (way_of walk) ≡ f (Bin walk.bin.0) + sum_by (λ e. f (kind_of 1 e)) walk.path = λ walk. at_way g f walk.bin.0 walk.numbers walk.path walk.among walk.are in
      weigh_counts f named (numbered g) 1 ∙ sum_by-flat_map (at f (numbered g) 1) (λ (walk : Walk g). way_of walk) walks ∙ (λ k. sum_by (λ (walk : Walk g). each walk k) walks)

  pub conserved : (v : ℕ) → weigh_arcs (one_if (comes_in v)) (numbered g) values ≡ weigh_arcs (one_if (goes_out g v)) (numbered g) values
  conserved v = weigh_walks (one_if (comes_in v)) ∙ (λ k. sum_by (λ (walk : Walk g). walk_conserved g v walk k) walks) ∙ sym (weigh_walks (one_if (goes_out g v)))

  pub costs : flow_cost I g values ≡ cost_of I (bins_of walks)
  costs = weigh_walks (arc_cost I) ∙ (λ k. sum_by (λ (walk : Walk g). walk_costs I g walk k) walks) ∙ sym (sum_by-map (λ (b : ℕ × Content). cost_at I b.0) (λ (walk : Walk g). walk.bin) walks)

  pub carried : (i : ℕ) → 1 ≤ i → weigh_arcs (one_if (carries i)) (numbered g) values ≡ sum_by (λ b. count_of_item i b.1) (bins_of walks)
  carried i low = weigh_walks (one_if (carries i)) ∙ (λ k. sum_by (λ (walk : Walk g). walk_carries g i low walk k) walks) ∙ sym (sum_by-map (λ (b : ℕ × Content). count_of_item i b.1) (λ (walk : Walk g). walk.bin) walks)

  pub value_is : (a : ℕ) → IsAmong a (length (numbered g)) → get_or values (a - 1) 0 ≡ sum_by (λ walk. count_by (λ n. n == a) (way_of walk)) walks
  value_is a among = get_or-map-range_with_len (λ a. count_by (λ n. n == a) named) 1 (length (numbered g)) (a - 1) a 0 (omega (arith, among.0, among.1)) (omega (arith, among.0)) ∙ sum_by-flat_map (λ n. cond (n == a) 1 0) (λ (walk : Walk g). way_of walk) walks

  pub size : length values ≡ length (numbered g)
  size = length-map-range_with_len (λ a. count_by (λ n. n == a) named) 1 (length (numbered g))

  -- a bin arc has as many units as there are bins of its type
  pub bin_value : (a : ℕ) → IsAmong a g.types → IsAmong a (length (numbered g)) → get_or values (a - 1) 0 ≡ used_of a (bins_of walks)
  bin_value a type among =
      let each : (walk : Walk g) → count_by (λ n. n == a) (way_of walk) ≡ cond (walk.bin.0 == a) 1 0 = λ walk. bins_on_way g a walk.bin.0 walk.numbers walk.path type.1 walk.are in
      value_is a among ∙ (λ k. sum_by (λ (walk : Walk g). each walk k) walks) ∙ sym (sum_by-map (λ (b : ℕ × Content). cond (b.0 == a) 1 0) (λ (walk : Walk g). walk.bin) walks)

  -- another arc has no more units than there are bins
  pub other_value : IsJoint g → (a : ℕ) → g.types < a → IsAmong a (length (numbered g)) → get_or values (a - 1) 0 ≤ length (bins_of walks)
  other_value joint a high among =
      let each : (walk : Walk g) → count_by (λ n. n == a) (way_of walk) ≤ 1 = λ walk. others_on_way g joint a walk.bin.0 (target_at g walk.bin.0) walk.numbers walk.path walk.among.1 high walk.leads walk.are in
      let value = value_is a among in
      let most = sum_by-le-sum_by (λ (walk : Walk g). count_by (λ n. n == a) (way_of walk)) (λ walk. 1) walks each in
      let all : sum_by (λ (b : ℕ × Content). 1) (bins_of walks) ≡ sum_by (λ walk. 1) walks = sum_by-map (λ (b : ℕ × Content). 1) (λ (walk : Walk g). walk.bin) walks in
      let count = ones (bins_of walks) in
      omega (arith, value, most, all, count)

-- a value that is not above what the arc carries at most
within_range : (I : InstanceValue) (g : JointValue) (values : List ℕ) (a : ℕ) (kind : ArcKind) → IsAmong a (length (numbered g)) → arc_at g a ≡ Some kind → get_or values (a - 1) 0 ≤ upper_of I kind → IsBounded I g values a
within_range I g values a kind among at below =
    let e : a - 1 + 1 ≡ a = omega (arith, among.0) in
    let f : suc (a - 1) ≡ a = omega (arith, among.0) in
    let there : get_or (numbered g) (a - 1) kind ≡ kind = get_or_from_slice_get (numbered g) (a - 1) kind kind (sym (arc_at-suc g (a - 1)) ∙ ap (arc_at g) f ∙ at) in
    let range : range_at (root_ranges I g) a ≡ (0, upper_of I kind) = ap (range_at (root_ranges I g)) (sym e) ∙ range_is I (numbered g) (a - 1) kind (omega (arith, among.0, among.1)) ∙ (λ k. (0, upper_of I (there k))) in
    let low : (range_at (root_ranges I g) a).0 ≡ 0 = ap (λ (r : ℕ × ℕ). r.0) range in
    let high : (range_at (root_ranges I g) a).1 ≡ upper_of I kind = ap (λ (r : ℕ × ℕ). r.1) range in
    (omega (arith, low), omega (arith, high, below))

-- all units are what an arc that is no bin arc carries at most
upper_kind : (I : InstanceValue) (e : TypeArc) → upper_of I (kind_of 1 e) ≡ units_of I
upper_kind I e = kind_cases (λ kind. upper_of I kind ≡ units_of I) 1 e refl refl

module _ (I : InstanceValue) (g : JointValue) (joint : IsJoint g) (types : g.types ≡ length I.types) (walks : List (Walk g)) (packing : IsPacking I (bins_of walks)) (filled : All (λ b. 0 < units_in b.1) (bins_of walks)) where
  abbrev own : List ℕ
  own = values I g walks

  few : length (bins_of walks) ≤ units_of I
  few = bins_few I (bins_of walks) packing filled

  served : (i : ℕ) → IsAmong i (length I.items) → (item_at I i).demand ≤ weigh_arcs (one_if (carries i)) (numbered g) own
  served i among =
      let sum = carried I g walks i among.0 in
      let joined : count_of_item i (all_of (bins_of walks)) ≡ sum_by (λ b. count_of_item i b.1) (bins_of walks) = sum_by-flat_map (λ (m : Count). cond (m.item == i) m.count 0) (λ (b : ℕ × Content). b.1) (bins_of walks) in
      let whole = packing.demands i among in
      omega (arith, sum, joined, whole)

  bin_bounded : (a : ℕ) → IsAmong a g.types → IsAmong a (length (numbered g)) → IsBounded I g own a
  bin_bounded a type among =
      let value = bin_value I g walks a type among in
      let used = count_few (bins_of walks) a in
      let met = limit_met (units_of I) (used_of a (bins_of walks)) (type_at I a).limit (omega (arith, used, few)) (packing.limits a (type.0, omega (arith, type.1, types))) in
      within_range I g own a (Bin a) among (bin_number g a type) (omega (arith, value, met))

  other_bounded : (a : ℕ) → g.types < a → IsAmong a (length (numbered g)) → IsBounded I g own a
  other_bounded a high among =
      let place : ℕ = a - 1 - g.types in
      let long = numbered_length g in
      let short : place < length g.arcs = omega (arith, long, high, among.1) in
      let e : suc (g.types + place) ≡ a = omega (arith, high) in
      let arc : TypeArc = get_or g.arcs place nothing in
      let at : arc_at g a ≡ Some (kind_of 1 arc) = ap (arc_at g) (sym e) ∙ arc_number g place arc (slice_get-get_or g.arcs place nothing short) in
      let value = other_value I g walks joint a high among in
      let upper = upper_kind I arc in
      within_range I g own a (kind_of 1 arc) among at (omega (arith, value, upper, few))

  bounded : (a : ℕ) → IsAmong a (length (numbered g)) → IsBounded I g own a
  bounded a among = ⊎_elim
      (λ same. bin_bounded a (among.0, omega (arith, same)) among)
      (λ apart. ⊎_elim (λ (lt : a < g.types). bin_bounded a (among.0, omega (arith, lt)) among) (λ (gt : g.types < a). other_bounded a gt among) apart)
      (cases_order a g.types)

  pub packed : FlowOfPacking I g (bins_of walks)
  packed = record {
    values = own;
    flow = record { size = size I g walks; nodes = λ v among. conserved I g walks v; demands = served; bounds = bounded };
    cost = costs I g walks;
  }

pub packings_are_flows : PackingsAreFlows
packings_are_flows I g bins instance joint is packing filled =
    let walks = walks_of I g is bins packing.fits (within_one I bins packing) in
    subst (λ (bs : Bins). FlowOfPacking I g bs) walks.1
    (packed I g joint is.graph.types walks.0 (subst (λ (bs : Bins). IsPacking I bs) (sym walks.1) packing) (subst (λ (bs : Bins). All (λ b. 0 < units_in b.1) bs) (sym walks.1) filled))

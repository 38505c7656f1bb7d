-- Trimmed bins of a flow are a packing that costs what the flow costs.
use Rattle.std.proofs.Common.{◌≡◌, ℕ, ◌+◌, ◌-◌, ◌*◌, ◌≤◌, Bool, cond, ◌==◌, List, [], ◌∷◌, length, get_or, map, refl, sym, ap, ◌∙◌, subst, ⊎_elim, arith}
use Rattle.std.specs.Prelude.{Some, slice_get}
use Rattle.std.proofs.lemmas.Bool.{cases_eq, cases_lt, eq-eqb, ne_eqb}
use Rattle.std.proofs.lemmas.List.{get_or_past, length-map}
use Rattle.std.proofs.lemmas.List.Elements.{All-weaker}
use Rattle.std.proofs.lemmas.Option.{get_or_from_slice_get, slice_get-get_or}
use Rattle.packing_laws.specs.declared.packings.Bin.{Bin as Alike}
use Rattle.packing_laws.specs.Instances.{InstanceValue, IsAmong, type_at, units_of}
use Rattle.packing_laws.specs.Packings.{Fits, cost_at, used_of}
use Rattle.packing_laws.specs.Printed.{bins_of}
use Rattle.packing_laws.proofs.WrittenPackings.{IsWrittenPacking-made, count_of_item-bins_of, used_of-bins_of}
use Rattle.packing_laws.proofs.WrittenSums.{cost_of-bins_of}
use Rattle.flow_graph.specs.declared.parts.ArcKind.{ArcKind}
use Rattle.flow_graph.specs.declared.parts.ArcKind.TheVariants.{Bin, Loss, Piece}
use Rattle.flow_graph.proofs.ArcKinds.{kind_cases}
use Rattle.flow_model.specs.Boxes.{limited, upper_of}
use Rattle.flow_model.specs.Flows.{arc_cost, weigh_arcs}
use Rattle.pattern_extract.specs.Extracts.{bins_of_type}
use Rattle.pattern_extract.specs.Trims.{IsUsedBin, MeetDemands}
use Rattle.pattern_extract.proofs.Extracting.{types-of, within-limit}
use Rattle.pattern_extract.proofs.Weights.{weigh-one, weigh-same}
use Rattle.joint_arcs.specs.Joined.{JointValue, numbered}
use Rattle.joint_arcs.proofs.Rows.{numbered_length}
use Rattle.joint_arcs.specs.Faithful.{IsFaithful}
use Rattle.joint_arcs.specs.Flows.{IsFlow, flow_cost}
use Rattle.joint_extract.specs.inner.Circuits.{AreBinsOf, on_type, over_bins, row_weight}
use Rattle.joint_extract.specs.JointExtracts.{IsPackingOf}
use Rattle.joint_extract.proofs.RowPlaces.{IsPlaced, is_arc, is_bin, bin-there, placed, row_sum, row_weight-at}
use Rattle.joint_extract.proofs.Bounded.{value-most}

pub weigh_arcs-same : (f h : ArcKind → ℕ) → ((kind : ArcKind) → f kind ≡ h kind) → (row : List ArcKind) (values : List ℕ) → weigh_arcs f row values ≡ weigh_arcs h row values
weigh_arcs-same f h same [] values = refl
weigh_arcs-same f h same (kind ∷ row) [] = refl
weigh_arcs-same f h same (kind ∷ row) (x ∷ values) =
    let rest = weigh_arcs-same f h same row values in
    let first : f kind * x ≡ h kind * x = ap (λ (n : ℕ). n * x) (same kind) in
    omega (arith, rest, first)

pub cost-on : (I : InstanceValue) (kind : ArcKind) → on_type (cost_at I) kind ≡ arc_cost I kind
cost-on I (Bin t) = refl
cost-on I (Loss t tail head) = refl
cost-on I (Piece t tail head item form) = refl

-- what the bin arcs cost is what the flow costs
pub bins-cost : (I : InstanceValue) (g : JointValue) (values : List ℕ) → over_bins (cost_at I) g values ≡ flow_cost I g values
bins-cost I g values = weigh_arcs-same (on_type (cost_at I)) (arc_cost I) (cost-on I) (numbered g) values

-- 1 for the type
abbrev pub one_of : ℕ → ℕ → ℕ
one_of t s = cond (s == t) 1 0

one-place : (g : JointValue) (t k : ℕ) (kind : ArcKind) → IsAmong t g.types → IsPlaced g k kind → on_type (one_of t) kind ≡ cond (k == t - 1) 1 0
one-place g t k kind among (is_bin within same) =
    ap (on_type (one_of t)) same ∙
    ⊎_elim
    (λ here. rw (eq-eqb (k + 1) t here, eq-eqb k (t - 1) (omega (arith, here))) refl)
    (λ other. rw (ne_eqb (k + 1) t other, ne_eqb k (t - 1) (λ e. other (omega (arith, e, among.0)))) refl)
    (cases_eq (k + 1) t)
one-place g t k kind among (is_arc j e at place same) =
    ap (on_type (one_of t)) same ∙ kind_cases (λ own. on_type (one_of t) own ≡ 0) 1 e refl refl ∙
    sym (ap (λ (b : Bool). cond {A = ℕ} b 1 0) (ne_eqb k (t - 1) (λ h. omega (arith, h, place, among.0, among.1))))

one-there : (g : JointValue) (t k : ℕ) → IsAmong t g.types → row_weight (on_type (one_of t)) g k ≡ cond (k == t - 1) 1 0
one-there g t k among =
    ⊎_elim
    (λ within.
    let kind : ArcKind = get_or (numbered g) k (Bin 0) in
    let at : slice_get (numbered g) k ≡ Some kind = slice_get-get_or (numbered g) k (Bin 0) within in
    row_weight-at (on_type (one_of t)) g k kind at ∙ one-place g t k kind among (placed g k kind at))
    (λ past.
    let mapped : length (map (on_type (one_of t)) (numbered g)) ≡ length (numbered g) = length-map (numbered g) (on_type (one_of t)) in
    let long = numbered_length g in
    let none : row_weight (on_type (one_of t)) g k ≡ 0 = get_or_past (map (on_type (one_of t)) (numbered g)) k 0 (omega (arith, past, mapped)) in
    none ∙ sym (ap (λ (b : Bool). cond {A = ℕ} b 1 0) (ne_eqb k (t - 1) (λ h. omega (arith, h, past, long, among.0, among.1)))))
    (cases_lt k (length (numbered g)))

-- a sum over one bin arc
pub bins-one : (g : JointValue) (values : List ℕ) (t : ℕ) → IsAmong t g.types → over_bins (one_of t) g values ≡ get_or values (t - 1) 0
bins-one g values t among = row_sum (on_type (one_of t)) g values ∙ weigh-same (row_weight (on_type (one_of t)) g) (λ k. cond (k == t - 1) 1 0) values (λ k. one-there g t k among) ∙ weigh-one values (t - 1)

module _ (I : InstanceValue) (g : JointValue) (values : List ℕ) (given bins : List Alike) (faithful : IsFaithful I g) (flow : IsFlow I g values) (all : AreBinsOf g values given) (met : MeetDemands I given bins) where
  of-type : (t : ℕ) → IsAmong t g.types → bins_of_type t bins ≡ get_or values (t - 1) 0
  of-type t among = types-of t bins ∙ met.types (one_of t) ∙ sym (all.types (one_of t)) ∙ bins-one g values t among

  most : (t : ℕ) → IsAmong t g.types → get_or values (t - 1) 0 ≤ limited (units_of I) (type_at I t).limit
  most t among =
      let long = numbered_length g in
      let bound = value-most I g values flow (t - 1) (omega (arith, long, among.0, among.1)) in
      let kind : get_or (numbered g) (t - 1) (Bin 0) ≡ Bin t = get_or_from_slice_get (numbered g) (t - 1) (Bin t) (Bin 0) (bin-there g t among) in
      subst (λ (k : ArcKind). get_or values (t - 1) 0 ≤ upper_of I k) kind bound

  pub packing-made : IsPackingOf I g values bins
  packing-made = record {
    flow = flow;
    packing = IsWrittenPacking-made I bins
        (All-weaker (IsUsedBin I) (λ b. Fits I b.bin_type b.counts) (λ b own. own.fits) bins met.each)
        (λ t among.
        let there : IsAmong t g.types = (among.0, subst (λ (n : ℕ). t ≤ n) (sym faithful.graph.types) among.1) in
        let used = used_of-bins_of t bins in
        let same = types-of t bins in
        let own = of-type t there in
        let few = most t there in
        within-limit (used_of t (bins_of bins)) (units_of I) (type_at I t).limit (omega (arith, used, same, own, few)))
        (λ i among. count_of_item-bins_of i bins ∙ met.units i among);
    cost = cost_of-bins_of I bins ∙ met.types (cost_at I) ∙ sym (all.types (cost_at I)) ∙ bins-cost I g values;
    types = of-type;
  }

-- Trimmed bins of a flow are a packing that costs what the flow costs.
use Rattle.std.proofs.Common.{◌≡◌, ℕ, ◌-◌, ◌*◌, ◌^◌, ◌<◌, ◌≤◌, Bool, true, false, cond, ◌==◌, List, [], ◌∷◌, length, get_or, map, refl, sym, ap, ◌∙◌, subst, ⊎_elim, arith, All}
use Rattle.std.specs.Prelude.{Option, Some, None, IfSome, sum_by}
use Rattle.std.proofs.lemmas.Bool.{cases_eq, eq-eqb, ne_eqb}
use Rattle.std.proofs.lemmas.Option.{get_or_from_slice_get}
use Rattle.std.proofs.lemmas.List.Sums.{sum_by-cons, get_or-le-sum_by}
use Rattle.std.proofs.lemmas.List.Elements.{All-head, All-tail, All-weaker, All-map}
use Rattle.std.proofs.Math.Nat.{mul-le-mul_left}
use Rattle.packing_laws.specs.declared.packings.Bin.{Bin as Alike}
use Rattle.packing_laws.specs.Instances.{InstanceValue, IsInstance, IsAmong, type_at, units_of}
use Rattle.packing_laws.specs.Packings.{count_of_item, cost_at, used_of, Fits}
use Rattle.packing_laws.specs.Printed.{bins_of}
use Rattle.packing_laws.proofs.TidyParts.{sum_by-map}
use Rattle.packing_laws.proofs.WrittenSums.{cost_of-bins_of}
use Rattle.packing_laws.proofs.WrittenPackings.{used_of-bins_of, count_of_item-bins_of, IsWrittenPacking-made}
use Rattle.flow_graph.specs.declared.parts.ArcKind.{ArcKind}
use Rattle.flow_graph.specs.declared.parts.ArcKind.TheVariants.{Bin}
use Rattle.flow_graph.specs.Arcs.{TypeValue, IsFlowGraph, numbered, first_arc}
use Rattle.flow_graph.specs.Faithful.{IsFaithful}
use Rattle.flow_model.specs.Boxes.{limited, upper_of}
use Rattle.flow_model.specs.Flows.{IsFlow, arc_cost, carries, flow_cost, total_of}
use Rattle.pattern_extract.specs.declared.runs.PathRun.{PathRun}
use Rattle.pattern_extract.specs.Runs.{IsRun, goes_over, times_over}
use Rattle.pattern_extract.specs.inner.Walks.{weight_along, circuit_of, runs_weight, HoldAll}
use Rattle.pattern_extract.specs.Trims.{held, over_types, IsUsedBin, MeetDemands}
use Rattle.pattern_extract.specs.Extracts.{bin_of, bins_of_type, units_along, IsPackingOf}
use Rattle.pattern_extract.proofs.Weights.{weigh-one, weigh_arcs-weigh}
use Rattle.pattern_extract.proofs.Places.{place_weight, one_if}
use Rattle.pattern_extract.proofs.Steps.{bin-place}
use Rattle.pattern_extract.proofs.RunSums.{only, runs-of}
use Rattle.pattern_extract.proofs.Apart.{over-bin}
use Rattle.pattern_extract.proofs.Moves.{bin-inside}
use Rattle.pattern_extract.proofs.PathContents.{circuit-cost, circuit-carries, run-fits}
use Rattle.pattern_extract.proofs.Surplus.{value-most, value-small}

-- sums over runs by what lies along them
pub sum-same : (g : List TypeValue) (f : ℕ → ℕ) (h : PathRun → ℕ) (runs : List PathRun) → ((run : PathRun) → IsRun g run → weight_along f (circuit_of g run) ≡ h run) → All (IsRun g) runs → runs_weight g f runs ≡ sum_by (λ run. run.times * h run) runs
sum-same g f h [] same all = refl
sum-same g f h (run ∷ runs) same all =
    let rest = sum-same g f h runs same (All-tail (IsRun g) run runs all) in
    let first : run.times * weight_along f (circuit_of g run) ≡ run.times * h run = ap (λ (n : ℕ). run.times * n) (same run (All-head (IsRun g) run runs all)) in
    let one = sum_by-cons (λ (r : PathRun). r.times * weight_along f (circuit_of g r)) run runs in
    let two = sum_by-cons (λ (r : PathRun). r.times * h r) run runs in
    omega (arith, rest, first, one, two)

pub sum-most : (g : List TypeValue) (f : ℕ → ℕ) (h : PathRun → ℕ) (runs : List PathRun) → ((run : PathRun) → h run ≤ weight_along f (circuit_of g run)) → sum_by (λ run. run.times * h run) runs ≤ runs_weight g f runs
sum-most g f h [] most = omega arith
sum-most g f h (run ∷ runs) most =
    let rest = sum-most g f h runs most in
    let first : run.times * h run ≤ run.times * weight_along f (circuit_of g run) = mul-le-mul_left run.times (most run) in
    let one = sum_by-cons (λ (r : PathRun). r.times * weight_along f (circuit_of g r)) run runs in
    let two = sum_by-cons (λ (r : PathRun). r.times * h r) run runs in
    omega (arith, rest, first, one, two)

-- the bins of the runs cost what the flow costs
pub runs-cost : (I : InstanceValue) (g : List TypeValue) (values : List ℕ) (runs : List PathRun) → HoldAll g values runs → over_types (cost_at I) (map (bin_of g) runs) ≡ flow_cost I g values
runs-cost I g values runs all =
    let f : ℕ → ℕ = place_weight (arc_cost I) g in
    sum_by-map (λ (b : Alike). b.times * cost_at I b.bin_type) (bin_of g) runs ∙ sym (sum-same g f (λ run. cost_at I run.t) runs (circuit-cost I g) all.each) ∙ sym (all.sums f) ∙ sym (weigh_arcs-weigh (arc_cost I) (numbered g) values)

-- and hold what it carries
pub runs-carry : (g : List TypeValue) (values : List ℕ) (runs : List PathRun) (i : ℕ) → HoldAll g values runs → held i (map (bin_of g) runs) ≡ total_of (carries i) g values
runs-carry g values runs i all =
    let f : ℕ → ℕ = place_weight (one_if (carries i)) g in
    sum_by-map (λ (b : Alike). b.times * count_of_item i b.counts) (bin_of g) runs ∙ sym (sum-same g f (λ run. count_of_item i (units_along (numbered g) run.arcs)) runs (circuit-carries g i) all.each) ∙ sym (all.sums f) ∙ sym (weigh_arcs-weigh (one_if (carries i)) (numbered g) values)

-- the bin arc of type t is on each run of the type
pub along-bin : (g : List TypeValue) (t : ℕ) (run : PathRun) → cond (run.t == t) 1 0 ≤ weight_along (only (first_arc g t)) (circuit_of g run)
along-bin g t run =
    ⊎_elim
    (λ same.
    let b : ℕ = first_arc g t in
    let split = sum_by-cons (λ (a : ℕ). only b (a - 1)) (first_arc g run.t) run.arcs in
    let here : only b (first_arc g run.t - 1) ≡ 1 = ap (λ (c : Bool). cond {A = ℕ} c 1 0) (eq-eqb (first_arc g run.t - 1) (b - 1) (ap (λ (s : ℕ). first_arc g s - 1) same)) in
    let one : cond {A = ℕ} (run.t == t) 1 0 ≡ 1 = ap (λ (c : Bool). cond {A = ℕ} c 1 0) (eq-eqb run.t t same) in
    omega (arith, split, here, one))
    (λ other. let none : cond {A = ℕ} (run.t == t) 1 0 ≡ 0 = ap (λ (c : Bool). cond {A = ℕ} c 1 0) (ne_eqb run.t t other) in omega (arith, none))
    (cases_eq run.t t)

-- as many bins of a type are used as its bin arc says, or fewer
pub runs-used : (g : List TypeValue) (values : List ℕ) (runs : List PathRun) (t : ℕ) → HoldAll g values runs → over_types (λ s. cond (s == t) 1 0) (map (bin_of g) runs) ≤ get_or values (first_arc g t - 1) 0
runs-used g values runs t all =
    let mapped = sum_by-map (λ (b : Alike). b.times * cond (b.bin_type == t) 1 0) (bin_of g) runs in
    let most = sum-most g (only (first_arc g t)) (λ run. cond (run.t == t) 1 0) runs (along-bin g t) in
    let sums = all.sums (only (first_arc g t)) in
    let value = weigh-one values (first_arc g t - 1) in
    omega (arith, mapped, most, sums, value)

pub within-limit : (n units : ℕ) (limit : Option ℕ) → n ≤ limited units limit → IfSome limit (λ q. n ≤ q)
within-limit n units None most = tt
within-limit n units (Some q) most = omega (arith, most)

-- a run is used no more often than its bin arc has units
pub runs-small : (I : InstanceValue) (g : List TypeValue) (values : List ℕ) (runs : List PathRun) → IsInstance I → IsFlow I g values → HoldAll g values runs → All (λ run. run.times < 2 ^ 32) runs
runs-small I g values runs instance flow all k d within =
    let run : PathRun = get_or runs k d in
    let one : run.times * 1 ≤ run.times * weight_along (only (first_arc g run.t)) (circuit_of g run) =
    mul-le-mul_left run.times (let own = along-bin g run.t run in let here : cond {A = ℕ} (run.t == run.t) 1 0 ≡ 1 = ap (λ (c : Bool). cond {A = ℕ} c 1 0) (eq-eqb run.t run.t refl) in subst (λ (n : ℕ). n ≤ weight_along (only (first_arc g run.t)) (circuit_of g run)) here own) in
    let part = get_or-le-sum_by (λ (r : PathRun). r.times * weight_along (only (first_arc g run.t)) (circuit_of g r)) runs k d within in
    let sums = all.sums (only (first_arc g run.t)) in
    let value = weigh-one values (first_arc g run.t - 1) in
    let small = value-small I g values instance flow (first_arc g run.t - 1) in
    omega (arith, one, part, sums, value, small)

pub runs-fit : (I : InstanceValue) (g : List TypeValue) (runs : List PathRun) → IsFaithful I g → All (IsRun g) runs → All (IsUsedBin I) (map (bin_of g) runs)
runs-fit I g runs faithful all = All-map (IsUsedBin I) (bin_of g) runs (All-weaker (IsRun g) (λ run. IsUsedBin I (bin_of g run)) (λ run is. run-fits I g run faithful is) runs all)

pub scaled : (n : ℕ) (b : Bool) → n * cond b 1 0 ≡ cond b n 0
scaled n true = omega arith
scaled n false = omega arith

-- bins of one type, as a sum over types
pub types-of : (t : ℕ) (bins : List Alike) → bins_of_type t bins ≡ over_types (λ s. cond (s == t) 1 0) bins
types-of t [] = refl
types-of t (b ∷ bins) =
    let rest = types-of t bins in
    let first = scaled b.times (b.bin_type == t) in
    let one = sum_by-cons (λ (c : Alike). cond (c.bin_type == t) c.times 0) b bins in
    let two = sum_by-cons (λ (c : Alike). c.times * cond (c.bin_type == t) 1 0) b bins in
    omega (arith, rest, first, one, two)

-- the bins of the runs of a type are used as often as the runs go over its bin arc
pub runs-of-type : (g : List TypeValue) (t : ℕ) (runs : List PathRun) → IsFlowGraph g → IsAmong t (length g) → All (IsRun g) runs → over_types (λ s. cond (s == t) 1 0) (map (bin_of g) runs) ≡ times_over g runs (first_arc g t)
runs-of-type g t [] is among all = refl
runs-of-type g t (run ∷ runs) is among all =
    let rest = runs-of-type g t runs is among (All-tail (IsRun g) run runs all) in
    let over = over-bin g t run is among (All-head (IsRun g) run runs all) in
    let first : run.times * cond (run.t == t) 1 0 ≡ cond (goes_over g (first_arc g t) run) run.times 0 = scaled run.times (run.t == t) ∙ ap (λ (b : Bool). cond {A = ℕ} b run.times 0) (sym over) in
    let one = sum_by-cons (λ (c : Alike). c.times * cond (c.bin_type == t) 1 0) (bin_of g run) (map (bin_of g) runs) in
    let two = sum_by-cons (λ (r : PathRun). cond (goes_over g (first_arc g t) r) r.times 0) run runs in
    omega (arith, rest, first, one, two)

pub packing-made : (I : InstanceValue) (g : List TypeValue) (values : List ℕ) (runs : List PathRun) (bins : List Alike) → IsFlowGraph g → IsFaithful I g → IsFlow I g values → HoldAll g values runs → MeetDemands I (map (bin_of g) runs) bins → IsPackingOf I g values bins
packing-made I g values runs bins is faithful flow all met = record {
  flow = flow;
  packing = IsWrittenPacking-made I bins
      (All-weaker (IsUsedBin I) (λ b. Fits I b.bin_type b.counts) (λ b own. own.fits) bins met.each)
      (λ t among.
      let there : IsAmong t (length g) = (among.0, subst (λ (n : ℕ). t ≤ n) (sym faithful.graph.types) among.1) in
      let inside = bin-inside g t there in
      let bound = value-most I g values flow (first_arc g t - 1) (omega (arith, inside.0, inside.1)) in
      let kind : get_or (numbered g) (first_arc g t - 1) (Bin 0) ≡ Bin t = get_or_from_slice_get (numbered g) (first_arc g t - 1) (Bin t) (Bin 0) (bin-place g t there) in
      let most : get_or values (first_arc g t - 1) 0 ≤ limited (units_of I) (type_at I t).limit = subst (λ (k : ArcKind). get_or values (first_arc g t - 1) 0 ≤ upper_of I k) kind bound in
      let used = used_of-bins_of t bins in
      let same = met.types (λ s. cond (s == t) 1 0) in
      let few = runs-used g values runs t all in
      within-limit (used_of t (bins_of bins)) (units_of I) (type_at I t).limit (omega (arith, used, same, few, most)))
      (λ i among. count_of_item-bins_of i bins ∙ met.units i among);
  cost = cost_of-bins_of I bins ∙ met.types (cost_at I) ∙ runs-cost I g values runs all;
  types = λ t among. types-of t bins ∙ met.types (λ s. cond (s == t) 1 0) ∙ runs-of-type g t runs is among all.each ∙ (runs-of g values runs is all).sums (first_arc g t) (bin-inside g t among);
  runs = runs;
  are_runs = runs-of g values runs is all;
  parts = met.parts;
}

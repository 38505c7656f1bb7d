-- What stands at a place of the row of a joint graph, and sums over the row.
use Rattle.std.proofs.Common.{◌≡◌, ℕ, ◌+◌, ◌-◌, ◌*◌, ◌<◌, ◌≤◌, List, length, get_or, map, refl, sym, ap, ◌∙◌, ⊎_elim, arith}
use Rattle.std.specs.Prelude.{Some, slice_get, option_map, sum_by}
use Rattle.std.proofs.lemmas.Bool.{cases_lt}
use Rattle.std.proofs.lemmas.Option.{slice_get-map, slice_get-get_or, slice_get_within, get_or_from_slice_get}
use Rattle.std.proofs.lemmas.List.{length-map}
use Rattle.std.proofs.lemmas.List.Elements.{All-contains}
use Rattle.arc_num.specs.declared.TheConstants.{MAX_NUMBERED}
use Rattle.packing_laws.specs.declared.packings.Bin.{Bin as Alike}
use Rattle.packing_laws.specs.Instances.{IsAmong}
use Rattle.flow_graph.specs.declared.parts.TypeArc.{TypeArc}
use Rattle.flow_graph.specs.declared.parts.ArcKind.{ArcKind}
use Rattle.flow_graph.specs.declared.parts.ArcKind.TheVariants.{Bin}
use Rattle.flow_graph.specs.Arcs.{kind_of}
use Rattle.flow_graph.proofs.ArcKinds.{among_list, kind_cases, nothing, some_same}
use Rattle.flow_graph.proofs.Places.{slice_get-append-add, slice_get-append-left}
use Rattle.flow_model.specs.Flows.{up_to, weigh_arcs}
use Rattle.flow_model.proofs.Solutions.{length_up_to, up_to_at}
use Rattle.flow_model.specs.Sums.{weigh}
use Rattle.pattern_extract.proofs.Weights.{weigh_arcs-weigh}
use Rattle.joint_arcs.specs.Joined.{JointValue, Climbs, IsJoint, head_of, numbered, tail_of}
use Rattle.joint_arcs.proofs.Rows.{bin_row, numbered_length}
use Rattle.joint_extract.specs.inner.Circuits.{IsCircuit, IsTaken, row_weight, start_of, weight_along}

pub bin-there : (g : JointValue) (t : ℕ) → IsAmong t g.types → slice_get (numbered g) (t - 1) ≡ Some (Bin t)
bin-there g t among =
    let own : slice_get (bin_row g.types) (t - 1) ≡ Some (Bin t) = slice_get-map (λ s. Bin s) (up_to g.types) (t - 1) ∙ ap (option_map (λ s. Bin s)) (up_to_at g.types t among) in
    slice_get-append-left (bin_row g.types) (map (kind_of 1) g.arcs) (t - 1) (Bin t) own

pub arc-there : (g : JointValue) (j : ℕ) (e : TypeArc) → slice_get g.arcs j ≡ Some e → slice_get (numbered g) (g.types + j) ≡ Some (kind_of 1 e)
arc-there g j e at =
    let long : length (bin_row g.types) ≡ g.types = length-map (up_to g.types) (λ s. Bin s) ∙ length_up_to g.types in
    let own : slice_get (map (kind_of 1) g.arcs) j ≡ Some (kind_of 1 e) = slice_get-map (kind_of 1) g.arcs j ∙ ap (option_map (kind_of 1)) at in
    ap (λ (n : ℕ). slice_get (numbered g) (n + j)) (sym long) ∙ slice_get-append-add (bin_row g.types) (map (kind_of 1) g.arcs) j ∙ own

-- the bin arcs come first, and then the others
pub data IsPlaced (g : JointValue) (k : ℕ) (kind : ArcKind) : Type 0 where
  is_bin : k < g.types → kind ≡ Bin (k + 1) → IsPlaced g k kind
  is_arc : (j : ℕ) (e : TypeArc) → slice_get g.arcs j ≡ Some e → k ≡ g.types + j → kind ≡ kind_of 1 e → IsPlaced g k kind

pub placed : (g : JointValue) (k : ℕ) (kind : ArcKind) → slice_get (numbered g) k ≡ Some kind → IsPlaced g k kind
placed g k kind at =
    ⊎_elim
    (λ low.
    let place : k + 1 - 1 ≡ k = omega arith in
    let own : slice_get (numbered g) k ≡ Some (Bin (k + 1)) = ap (slice_get (numbered g)) (sym place) ∙ bin-there g (k + 1) (omega arith, omega (arith, low)) in
    is_bin low (some_same kind (Bin (k + 1)) (sym at ∙ own)))
    (λ high.
    let j : ℕ = k - g.types in
    let place : k ≡ g.types + j = omega (arith, high) in
    let within = slice_get_within (numbered g) k kind at in
    let long = numbered_length g in
    let e : TypeArc = get_or g.arcs j nothing in
    let own : slice_get g.arcs j ≡ Some e = slice_get-get_or g.arcs j nothing (omega (arith, place, within, long)) in
    is_arc j e own place (some_same kind (kind_of 1 e) (sym at ∙ ap (slice_get (numbered g)) place ∙ arc-there g j e own)))
    (cases_lt k g.types)

pub climbs-at : (g : JointValue) (j : ℕ) (e : TypeArc) → IsJoint g → slice_get g.arcs j ≡ Some e → Climbs g e
climbs-at g j e is at = All-contains (Climbs g) g.arcs e is.climbs (among_list g.arcs j e at)

pub head-kind : (e : TypeArc) → head_of (kind_of 1 e) ≡ e.head
head-kind e = kind_cases (λ kind. head_of kind ≡ e.head) 1 e refl refl

pub tail-kind : (g : JointValue) (e : TypeArc) → tail_of g (kind_of 1 e) ≡ e.tail
tail-kind g e = kind_cases (λ kind. tail_of g kind ≡ e.tail) 1 e refl refl

pub start-kind : (e : TypeArc) → start_of (kind_of 1 e) ≡ e.tail
start-kind e = kind_cases (λ kind. start_of kind ≡ e.tail) 1 e refl refl

-- a weight of what stands at a place
pub row_weight-at : (w : ArcKind → ℕ) (g : JointValue) (k : ℕ) (kind : ArcKind) → slice_get (numbered g) k ≡ Some kind → row_weight w g k ≡ w kind
row_weight-at w g k kind at = get_or_from_slice_get (map w (numbered g)) k (w kind) 0 (slice_get-map w (numbered g) k ∙ ap (option_map w) at)

pub row_sum : (w : ArcKind → ℕ) (g : JointValue) (left : List ℕ) → weigh_arcs w (numbered g) left ≡ weigh (row_weight w g) left
row_sum w g left = weigh_arcs-weigh w (numbered g) left

-- what a circuit takes off a sum over the row
pub taken-row : (w : ArcKind → ℕ) (g : JointValue) (old new : List ℕ) (bin : Alike) (arcs : List ℕ) → IsTaken old new bin.times arcs → (is : IsCircuit g bin arcs) → weigh_arcs w (numbered g) old ≡ weigh_arcs w (numbered g) new + bin.times * (w (Bin bin.bin_type) + sum_by (λ e. w (kind_of 1 e)) is.path)
taken-row w g old new bin arcs taken is =
    let all : weigh (row_weight w g) old ≡ weigh (row_weight w g) new + bin.times * weight_along (row_weight w g) arcs = taken (row_weight w g) in
    let before = row_sum w g old in
    let after = row_sum w g new in
    let along : bin.times * weight_along (row_weight w g) arcs ≡ bin.times * (w (Bin bin.bin_type) + sum_by (λ e. w (kind_of 1 e)) is.path) = ap (λ (n : ℕ). bin.times * n) (is.weights w) in
    omega (arith, all, before, after, along)

pub row-few : (g : JointValue) → IsJoint g → length (numbered g) ≤ MAX_NUMBERED
row-few g is =
    let long = numbered_length g in
    let types = is.few_types in
    let arcs = is.few_arcs in
    omega (arith, long, types, arcs)

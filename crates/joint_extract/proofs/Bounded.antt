-- What the values of a flow come to at most, and the items that its arcs carry.
use Rattle.std.proofs.Common.{◌≡◌, ℕ, ◌+◌, ◌-◌, ◌*◌, ◌^◌, ◌<◌, ◌≤◌, Bool, ◌==◌, List, length, get_or, refl, sym, subst, ⊎_elim, arith, All}
use Rattle.std.proofs.lemmas.Bool.{cases_lt}
use Rattle.std.proofs.lemmas.List.{get_or_past, get_or-map}
use Rattle.std.proofs.lemmas.List.Elements.{All-contains}
use Rattle.std.proofs.lemmas.Option.{slice_get-get_or}
use Rattle.std.proofs.Math.Nat.{mul-le-mul_right}
use Rattle.arc_num.specs.declared.TheConstants.{MAX_NUMBERED, MAX_UNITS}
use Rattle.packing_laws.specs.Instances.{InstanceValue, IsInstance}
use Rattle.packing_laws.specs.Packings.{Exists}
use Rattle.flow_graph.specs.declared.parts.TypeArc.{TypeArc}
use Rattle.flow_graph.specs.declared.parts.ArcKind.{ArcKind}
use Rattle.flow_graph.specs.declared.parts.ArcKind.TheVariants.{Bin}
use Rattle.flow_graph.specs.Faithful.{unit_of}
use Rattle.flow_graph.proofs.ArcKinds.{among_list}
use Rattle.flow_model.specs.Boxes.{root_range, upper_of}
use Rattle.flow_model.specs.Flows.{weigh_arcs}
use Rattle.pattern_extract.specs.Extracts.{NamesItem}
use Rattle.pattern_extract.proofs.Places.{one_if}
use Rattle.pattern_extract.proofs.Surplus.{either_names, place-most, units-small, upper-most, weigh-most}
use Rattle.joint_arcs.specs.Joined.{JointValue, IsJoint, numbered}
use Rattle.joint_arcs.specs.Faithful.{GraphOf}
use Rattle.joint_arcs.specs.Flows.{IsFlow, root_ranges}
use Rattle.joint_extract.specs.inner.Circuits.{row_weight}
use Rattle.joint_extract.proofs.RowPlaces.{IsPlaced, is_arc, is_bin, placed, row-few, row_sum}

-- the value of an arc is at most its upper bound
pub value-most : (I : InstanceValue) (g : JointValue) (values : List ℕ) → IsFlow I g values → (k : ℕ) → k < length (numbered g) → get_or values k 0 ≤ upper_of I (get_or (numbered g) k (Bin 0))
value-most I g values flow k within =
    let place : k + 1 - 1 ≡ k = omega arith in
    let bound = flow.bounds (k + 1) (omega arith, omega (arith, within)) in
    let here : get_or values k 0 ≤ (get_or (root_ranges I g) k (0, 0)).1 = subst (λ (i : ℕ). get_or values i 0 ≤ (get_or (root_ranges I g) i (0, 0)).1) place bound.1 in
    let range = get_or-map (root_range I) (numbered g) k (Bin 0) (0, 0) within in
    subst (λ (r : ℕ × ℕ). get_or values k 0 ≤ r.1) range here

pub value-small : (I : InstanceValue) (g : JointValue) (values : List ℕ) → IsInstance I → IsFlow I g values → (k : ℕ) → get_or values k 0 ≤ MAX_UNITS
value-small I g values is flow k =
    ⊎_elim
    (λ within.
    let most = value-most I g values flow k within in
    let upper = upper-most I (get_or (numbered g) k (Bin 0)) in
    let units = units-small I is in
    omega (arith, most, upper, units))
    (λ past. let none = get_or_past values k 0 (let size = flow.size in omega (arith, past, size)) in omega (arith, none))
    (cases_lt k (length (numbered g)))

pub total-small : (I : InstanceValue) (g : JointValue) (values : List ℕ) (test : ArcKind → Bool) → IsInstance I → IsJoint g → IsFlow I g values → weigh_arcs (one_if test) (numbered g) values < 2 ^ 64
total-small I g values test is joint flow =
    let same = row_sum (one_if test) g values in
    let most = weigh-most MAX_UNITS (row_weight (one_if test) g) values (place-most test (numbered g)) (value-small I g values is flow) in
    let few = row-few g joint in
    let size = flow.size in
    let short : length values ≤ MAX_NUMBERED = omega (arith, few, size) in
    let bound : length values * MAX_UNITS ≤ MAX_NUMBERED * MAX_UNITS = mul-le-mul_right MAX_UNITS short in
    omega (arith, same, most, bound)

-- the arcs carry items that exist
pub item-named : (I : InstanceValue) (g : JointValue) (k : ℕ) (kind : ArcKind) → GraphOf I g → IsPlaced g k kind → NamesItem (length I.items) kind
item-named I g k kind of (is_bin within same) = subst (NamesItem (length I.items)) (sym same) tt
item-named I g k kind of (is_arc j e at place same) =
    let exists : 1 ≤ e.item → Exists I (unit_of e) = All-contains (λ (f : TypeArc). 1 ≤ f.item → Exists I (unit_of f)) g.arcs e of.exists (among_list g.arcs j e at) in
    subst (NamesItem (length I.items)) (sym same) (either_names (length I.items) (e.item == 0) 1 e.tail e.head e.item e.form (λ some. (exists (omega (arith, some))).item) refl)

pub items-named : (I : InstanceValue) (g : JointValue) → GraphOf I g → All (NamesItem (length I.items)) (numbered g)
items-named I g of k d within = item-named I g k (get_or (numbered g) k d) of (placed g k (get_or (numbered g) k d) (slice_get-get_or (numbered g) k d within))

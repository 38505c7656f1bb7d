-- Which row stands at which place: those of the nodes, and then those of the items.
use Rattle.std.proofs.Common.{◌≡◌, ◌⊎◌, ℕ, ◌+◌, ◌-◌, List, length, map, ap, ◌∙◌, inl, inr, ⊎_elim, arith, Some, length-append}
use Rattle.std.specs.Prelude.{slice_get, option_map}
use Rattle.std.proofs.lemmas.Bool.{cases_lt}
use Rattle.std.proofs.lemmas.Option.{slice_get-map}
use Rattle.std.proofs.lemmas.List.{length-map}
use Rattle.packing_laws.specs.Instances.{InstanceValue, IsAmong}
use Rattle.flow_graph.proofs.Places.{slice_get-append-add, slice_get-append-left}
use Rattle.flow_model.specs.declared.programs.Row.{Row}
use Rattle.flow_model.specs.Flows.{up_to}
use Rattle.flow_model.specs.Models.{item_row}
use Rattle.flow_model.proofs.Solutions.{length_up_to, up_to_at}
use Rattle.joint_arcs.specs.Joined.{JointValue, node_count}
use Rattle.joint_model.specs.JointModels.{joint_rows, node_row}

abbrev pub node_rows : JointValue → List Row
node_rows g = map node_row (up_to (node_count g))

abbrev pub item_rows : InstanceValue → List Row
item_rows I = map (item_row I) (up_to (length I.items))

pub row_node : (I : InstanceValue) (g : JointValue) (v : ℕ) → IsAmong v (node_count g) → slice_get (joint_rows I g) (v - 1) ≡ Some (node_row v)
row_node I g v among = slice_get-append-left (node_rows g) (item_rows I) (v - 1) (node_row v) (slice_get-map node_row (up_to (node_count g)) (v - 1) ∙ ap (option_map node_row) (up_to_at (node_count g) v among))

nodes_long : (g : JointValue) → length (node_rows g) ≡ node_count g
nodes_long g = length-map (up_to (node_count g)) node_row ∙ length_up_to (node_count g)

pub row_item : (I : InstanceValue) (g : JointValue) (i : ℕ) → IsAmong i (length I.items) → slice_get (joint_rows I g) (node_count g + i - 1) ≡ Some (item_row I i)
row_item I g i among =
    let long = nodes_long g in
    let place : node_count g + i - 1 ≡ length (node_rows g) + (i - 1) = omega (arith, long, among.0) in
    ap (slice_get (joint_rows I g)) place ∙ slice_get-append-add (node_rows g) (item_rows I) (i - 1) ∙ slice_get-map (item_row I) (up_to (length I.items)) (i - 1) ∙ ap (option_map (item_row I)) (up_to_at (length I.items) i among)

pub rows_long : (I : InstanceValue) (g : JointValue) → length (joint_rows I g) ≡ node_count g + length I.items
rows_long I g =
    let long = nodes_long g in
    let joined = length-append (node_rows g) (item_rows I) in
    let many = length-map (up_to (length I.items)) (item_row I) in
    let up = length_up_to (length I.items) in
    omega (arith, long, joined, many, up)

-- each row is that of a node or of an item
pub row_cases : (I : InstanceValue) (g : JointValue) (r : ℕ) → IsAmong r (length (joint_rows I g)) → IsAmong r (node_count g) ⊎ ((i : ℕ) × IsAmong i (length I.items) × (r ≡ node_count g + i))
row_cases I g r among =
    let long = rows_long I g in
    ⊎_elim
    (λ before. inl (among.0, omega (arith, before)))
    (λ after. inr (r - node_count g, (omega (arith, after), omega (arith, among.1, long)), omega (arith, after)))
    (cases_lt r (node_count g + 1))

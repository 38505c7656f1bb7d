-- The solutions of the program of a joint graph are the flows.
use Rattle.std.proofs.Common.{◌≡◌, ℕ, ◌+◌, ◌-◌, ◌≤◌, Bool, true, false, cond, ◌==◌, List, [], ◌∷◌, length, get_or, refl, sym, ap, ◌∙◌, subst, ⊎_elim, arith, All, pos, ◌-ℤ◌, ◌≤ℤ◌}
use Rattle.std.specs.Prelude.{slice_get}
use Rattle.std.proofs.lemmas.Int.{ints}
use Rattle.std.proofs.lemmas.Bool.{ne_eqb, cond-false}
use Rattle.packing_laws.specs.Instances.{InstanceValue, IsAmong, item_at}
use Rattle.flow_graph.specs.declared.parts.ArcKind.{ArcKind}
use Rattle.flow_graph.specs.declared.parts.ArcKind.TheVariants.{Bin, Loss, Piece}
use Rattle.flow_graph.proofs.ArcKinds.{some_same}
use Rattle.flow_model.specs.declared.programs.Row.{Row}
use Rattle.flow_model.specs.declared.programs.Entry.{Entry}
use Rattle.flow_model.specs.Boxes.{IsInRange}
use Rattle.flow_model.specs.Flows.{arc_cost, carries, weigh_arcs}
use Rattle.flow_model.specs.Models.{item_row, moves}
use Rattle.flow_model.specs.Programs.{Meets, IsSolution, entry_in, objective_of, row_sum}
use Rattle.flow_model.proofs.Solutions.{entry_append, entry_moves, shift_test, weigh_none}
use Rattle.flow_model.proofs.Ways.{one_if}
use Rattle.joint_arcs.specs.Joined.{JointValue, node_count, numbered, target_at}
use Rattle.joint_arcs.specs.Flows.{IsFlow, comes_in, flow_cost, goes_out, root_ranges}
use Rattle.joint_model.specs.JointModels.{SolutionsAreFlows, entries_of, joint_rows, node_row, program_of_joint}
use Rattle.joint_model.specs.inner.Arcs.{IsArcOf}
use Rattle.joint_model.proofs.KnownArcs.{arcs_known}
use Rattle.joint_model.proofs.RowPlaces.{row_cases, row_item, row_node, rows_long}
use Rattle.joint_model.proofs.ColumnSums.{bounds_from, bounds_to, weigh_columns}

-- what a unit on an arc adds in the row of a node
entries_node : (g : JointValue) (n v : ℕ) → IsAmong v (node_count g) → (kind : ArcKind) → IsArcOf n g kind → entry_in v (entries_of g kind) ≡ pos (one_if (comes_in v) kind) -ℤ pos (one_if (goes_out g v) kind)
entries_node g n v node (Bin t) own = entry_moves v (target_at g t) 1
entries_node g n v node (Loss t tail head) own = entry_moves v tail head
entries_node g n v node (Piece t tail head item form) own =
    let last : Entry = record { row = node_count g + item; value = pos 1 } in
    let first = entry_moves v tail head in
    let joined = entry_append v (moves tail head) (last ∷ []) in
    let none : cond (node_count g + item == v) (pos 1) (pos 0) ≡ pos 0 = cond-false (node_count g + item == v) (pos 1) (pos 0) (ne_eqb (node_count g + item) v (λ e. omega (arith, e, node.1, own.1.0))) in
    omega (arith, ints, first, joined, none)

as_pos : (b : Bool) → cond b (pos 1) (pos 0) ≡ pos (cond b 1 0)
as_pos true = refl
as_pos false = refl

-- a unit from one node to another adds nothing in the row of an item
moves_item : (g : JointValue) (i tail head : ℕ) → 1 ≤ i → tail ≤ node_count g → head ≤ node_count g → entry_in (node_count g + i) (moves tail head) ≡ pos 0
moves_item g i tail head low out come =
    let first : cond {A = ℕ} (tail == node_count g + i) 1 0 ≡ 0 = cond-false (tail == node_count g + i) 1 0 (ne_eqb tail (node_count g + i) (λ e. omega (arith, e, out, low))) in
    let second : cond {A = ℕ} (head == node_count g + i) 1 0 ≡ 0 = cond-false (head == node_count g + i) 1 0 (ne_eqb head (node_count g + i) (λ e. omega (arith, e, come, low))) in
    let sum = entry_moves (node_count g + i) tail head in
    omega (arith, ints, sum, first, second)

-- what a unit on an arc adds in the row of an item
entries_item : (g : JointValue) (n i : ℕ) → 1 ≤ i → (kind : ArcKind) → IsArcOf n g kind → entry_in (node_count g + i) (entries_of g kind) ≡ pos (one_if (carries i) kind) -ℤ pos 0
entries_item g n i low (Bin t) own =
    let none = moves_item g i (target_at g t) 1 low (omega (arith, own.1)) (omega (arith, own.0, own.1)) in
    omega (arith, ints, none)
entries_item g n i low (Loss t tail head) own =
    let rises = own.rises in
    let high = own.high in
    let none = moves_item g i tail head low (omega (arith, rises, high)) high in
    omega (arith, ints, none)
entries_item g n i low (Piece t tail head item form) own =
    let rises = own.0.rises in
    let high = own.0.high in
    let last : Entry = record { row = node_count g + item; value = pos 1 } in
    let none = moves_item g i tail head low (omega (arith, rises, high)) high in
    let joined = entry_append (node_count g + i) (moves tail head) (last ∷ []) in
    let test : (node_count g + item == node_count g + i) ≡ (item == i) = shift_test (node_count g) item i in
    let one : cond (node_count g + item == node_count g + i) (pos 1) (pos 0) ≡ pos (cond (item == i) 1 0) = ap (λ (b : Bool). cond b (pos 1) (pos 0)) test ∙ as_pos (item == i) in
    omega (arith, ints, none, joined, one)

module _ (I : InstanceValue) (g : JointValue) (values : List ℕ) where
  pub objective_is : objective_of (program_of_joint I g) values ≡ pos (flow_cost I g values)
  objective_is =
      let sum = weigh_columns I g (λ kind. Unit {0}) (λ c. c.cost) (arc_cost I) (λ kind. 0) (λ n kind any. omega (arith, ints)) 1 (numbered g) values (λ k d within. tt) in
      let none = weigh_none (numbered g) values in
      omega (arith, ints, sum, none)

  module _ (arcs : All (IsArcOf (length I.items) g) (numbered g)) where
    node_sum : (v : ℕ) → IsAmong v (node_count g) → row_sum (program_of_joint I g) values v ≡ pos (weigh_arcs (one_if (comes_in v)) (numbered g) values) -ℤ pos (weigh_arcs (one_if (goes_out g v)) (numbered g) values)
    node_sum v node = weigh_columns I g (IsArcOf (length I.items) g) (λ c. entry_in v c.entries) (one_if (comes_in v)) (one_if (goes_out g v)) (λ n kind own. entries_node g (length I.items) v node kind own) 1 (numbered g) values arcs

    item_sum : (i : ℕ) → 1 ≤ i → row_sum (program_of_joint I g) values (node_count g + i) ≡ pos (weigh_arcs (one_if (carries i)) (numbered g) values)
    item_sum i low =
        let sum = weigh_columns I g (IsArcOf (length I.items) g) (λ c. entry_in (node_count g + i) c.entries) (one_if (carries i)) (λ kind. 0) (λ n kind own. entries_item g (length I.items) i low kind own) 1 (numbered g) values arcs in
        let none = weigh_none (numbered g) values in
        omega (arith, ints, sum, none)

    flow_from : IsSolution (program_of_joint I g) values → IsFlow I g values
    flow_from is =
        let within = bounds_to I g 1 (numbered g) values is.bounds in
        let long = rows_long I g in
        record {
          size = within.0;
          nodes = λ v node.
              let met : row_sum (program_of_joint I g) values v ≡ pos 0 = is.rows v (node_row v) (node.0, omega (arith, node.1, long)) (row_node I g v node) in
              let sum = node_sum v node in
              omega (arith, ints, met, sum);
          demands = λ i among.
              let met : pos (item_at I i).demand ≤ℤ row_sum (program_of_joint I g) values (node_count g + i) = is.rows (node_count g + i) (item_row I i) (omega (arith, among.0), omega (arith, among.1, long)) (row_item I g i among) in
              let sum = item_sum i among.0 in
              omega (arith, ints, met, sum);
          bounds = λ a among. within.1 (a - 1) (omega (arith, among.0, among.1));
        }

    solution_from : IsFlow I g values → IsSolution (program_of_joint I g) values
    solution_from is = record {
      bounds = bounds_from I g 1 (numbered g) values (
        is.size,
        λ i within.
            let e : i + 1 - 1 ≡ i = omega arith in
            subst (λ (k : ℕ). IsInRange (get_or (root_ranges I g) k (0, 0)) (get_or values k 0)) e (is.bounds (i + 1) (omega arith, omega (arith, within))),
      );
      rows = λ r row among at. ⊎_elim
          (λ node.
          let same : node_row r ≡ row = some_same (node_row r) row (sym (row_node I g r node) ∙ at) in
          let sum = node_sum r node in
          let even = is.nodes r node in
          let met : row_sum (program_of_joint I g) values r ≡ pos 0 = omega (arith, ints, sum, even) in
          subst (λ (row : Row). Meets row.kind (row_sum (program_of_joint I g) values r) row.right) same met)
          (λ found.
          let i : ℕ = found.0 in
          let same : item_row I i ≡ row = some_same (item_row I i) row (sym (row_item I g i found.1) ∙ ap (λ (k : ℕ). slice_get (joint_rows I g) (k - 1)) (sym found.2) ∙ at) in
          let sum = item_sum i found.1.0 in
          let served = is.demands i found.1 in
          let met : pos (item_at I i).demand ≤ℤ row_sum (program_of_joint I g) values (node_count g + i) = omega (arith, ints, sum, served) in
          subst (λ (row : Row). Meets row.kind (row_sum (program_of_joint I g) values r) row.right) same (subst (λ (k : ℕ). pos (item_at I i).demand ≤ℤ row_sum (program_of_joint I g) values k) (sym found.2) met))
          (row_cases I g r among);
    }

pub solutions_are_flows : SolutionsAreFlows
solutions_are_flows I g instance graph of = record {
  solutions = λ values. (flow_from I g values (arcs_known I g graph of), solution_from I g values (arcs_known I g graph of));
  objective = λ values. objective_is I g values;
}

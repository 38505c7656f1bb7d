-- The program of a joint graph keeps the rules of programs.
use Rattle.std.proofs.Common.{◌≡◌, ◌≢◌, ◌⊎◌, ℕ, suc, ◌+◌, ◌-◌, ◌^◌, ◌<◌, ◌≤◌, List, [], ◌∷◌, ◌++◌, length, map, get_or, drop, sym, ap, ◌∙◌, subst, inl, inr, ⊎_elim, arith, All, Some, pos}
use Rattle.std.specs.Prelude.{AllPairs, slice_get, codes}
use Rattle.std.specs.List.{enumerate_from}
use Rattle.std.proofs.lemmas.Fmt.{decimal_injective}
use Rattle.std.proofs.lemmas.Option.{slice_get-get_or}
use Rattle.std.proofs.lemmas.List.{append-nil, length-map, get_or_default}
use Rattle.std.proofs.lemmas.List.FromFn.{length-enumerate_from, get_or-enumerate_from}
use Rattle.std.proofs.lemmas.List.Elements.{All-cons, All-nil, All-weaker}
use Rattle.std.proofs.lemmas.List.Kept.{AllPairs-cons}
use Rattle.packing_laws.specs.Instances.{InstanceValue, IsInstance, IsAmong, item_at}
use Rattle.flow_graph.specs.declared.parts.ArcKind.{ArcKind}
use Rattle.flow_graph.specs.declared.parts.ArcKind.TheVariants.{Bin, Loss, Piece}
use Rattle.flow_graph.proofs.ArcKinds.{some_same}
use Rattle.flow_model.specs.declared.programs.Row.{Row}
use Rattle.flow_model.specs.declared.programs.Entry.{Entry}
use Rattle.flow_model.specs.declared.programs.Column.{Column}
use Rattle.flow_model.specs.Models.{arc_name, item_name, item_row, moves}
use Rattle.flow_model.specs.Programs.{IsName, IsRow, IsColumn, row_names, column_names}
use Rattle.flow_model.proofs.Lawful.{arc_cost_few, get_or-map, unit_entry, upper_few}
use Rattle.flow_model.proofs.Names.{arc_named, arc_names, item_named, item_names, item_not_objective, letter_named, objective_named}
use Rattle.joint_arcs.specs.Joined.{JointValue, IsJoint, node_count, numbered, target_at}
use Rattle.joint_arcs.specs.Faithful.{GraphOf}
use Rattle.joint_model.specs.JointModels.{JointModelsArePrograms, arc_column, entries_of, joint_columns, joint_rows, node_row, program_of_joint}
use Rattle.joint_model.specs.inner.Arcs.{IsArcOf, IsBetween, IsKnownGraph}
use Rattle.joint_model.proofs.KnownArcs.{arcs_known, known_graph}
use Rattle.joint_model.proofs.EntryOrder.{StandInOrder, first_stands, moves_stand, none_stand}
use Rattle.joint_model.proofs.RowPlaces.{row_cases, row_item, row_node, rows_long}

-- the name of a node: `N` and digits
node_named : (v : ℕ) → v < 2 ^ 32 → IsName (node_row v).name
node_named v small = letter_named 78 v (omega arith, omega arith) (λ e. omega (arith, e)) small

node_names : (v u : ℕ) → v < 2 ^ 32 → u < 2 ^ 32 → (node_row v).name ≡ (node_row u).name → v ≡ u
node_names v u one two same = decimal_injective v u (omega (arith, one)) (omega (arith, two)) (ap (drop 1) same)

node_not_item : (v i : ℕ) → (node_row v).name ≡ item_name i → ⊥
node_not_item v i same = let first : 78 ≡ 68 = ap (λ (l : List ℕ). get_or l 0 0) same in omega (arith, first)

node_not_objective : (v : ℕ) → codes "COST" ≡ (node_row v).name → ⊥
node_not_objective v same = let first : 67 ≡ 78 = ap (λ (l : List ℕ). get_or l 0 0) same in omega (arith, first)

module _ (I : InstanceValue) (g : JointValue) (instance : IsInstance I) (graph : IsJoint g) (of : GraphOf I g) where
  known : IsKnownGraph I g
  known = known_graph I g instance graph of

  abbrev count : ℕ
  count = length (joint_rows I g)

  node_among : (v : ℕ) → IsAmong v (node_count g) → IsAmong v count
  node_among v node = let long = rows_long I g in (node.0, omega (arith, node.1, long))

  -- the entries of an arc from one node to another, with others in later rows
  between_with : (tail head : ℕ) → IsAmong tail (node_count g) → IsAmong head (node_count g) → (rest : List Entry) → All (λ f. node_count g < f.row) rest → StandInOrder count rest → StandInOrder count (moves tail head ++ rest)
  between_with tail head out come rest later are = moves_stand count tail head rest (node_among tail out) (node_among head come) (All-weaker (λ (f : Entry). node_count g < f.row) (λ f. tail < f.row) (λ f after. omega (arith, after, out.1)) rest later) (All-weaker (λ (f : Entry). node_count g < f.row) (λ f. head < f.row) (λ f after. omega (arith, after, come.1)) rest later) are

  plain : (tail head : ℕ) → IsAmong tail (node_count g) → IsAmong head (node_count g) → StandInOrder count (moves tail head)
  plain tail head out come = subst (StandInOrder count) (append-nil (moves tail head)) (between_with tail head out come [] (All-nil (λ (f : Entry). node_count g < f.row)) (none_stand count))

  low_node : (tail head : ℕ) → IsBetween g tail head → IsAmong tail (node_count g)
  low_node tail head own = (own.low, let rises = own.rises in let high = own.high in omega (arith, rises, high))

  high_node : (tail head : ℕ) → IsBetween g tail head → IsAmong head (node_count g)
  high_node tail head own = (let low = own.low in let rises = own.rises in omega (arith, low, rises), own.high)

  entries_are : (kind : ArcKind) → IsArcOf (length I.items) g kind → StandInOrder count (entries_of g kind)
  entries_are (Bin t) own = plain (target_at g t) 1 (omega (arith, own.0), omega (arith, own.1)) (omega arith, omega (arith, own.0, own.1))
  entries_are (Loss t tail head) own = plain tail head (low_node tail head own) (high_node tail head own)
  entries_are (Piece t tail head item form) own =
      let last : Entry = record { row = node_count g + item; value = pos 1 } in
      let long = rows_long I g in
      let among : IsAmong (node_count g + item) count = (omega (arith, own.1.0), omega (arith, own.1.1, long)) in
      let end : StandInOrder count (last ∷ []) = first_stands count last [] (unit_entry count (node_count g + item) among) (All-nil (λ (f : Entry). last.row < f.row)) (none_stand count) in
      between_with tail head (low_node tail head own.0) (high_node tail head own.0) (last ∷ []) (All-cons (λ (f : Entry). node_count g < f.row) last [] (omega (arith, own.1.0)) (All-nil (λ (f : Entry). node_count g < f.row))) end

  column_is : (a : ℕ) (kind : ArcKind) → a < 2 ^ 32 → IsArcOf (length I.items) g kind → IsColumn count (arc_column I g (a, kind))
  column_is a kind small own =
      let are = entries_are kind own in
      record {
        name = arc_named a kind small;
        cost = arc_cost_few I instance kind;
        entries = are.each;
        order = are.order;
        bounds = omega arith;
        upper = upper_few I instance kind;
      }

  -- the column at a place is that of the arc there
  column_at : (k : ℕ) (d : Column) → k < length (numbered g) → get_or (joint_columns I g) k d ≡ arc_column I g (1 + k, get_or (numbered g) k (Bin 0))
  column_at k d within =
      let arcs : List (ℕ × ArcKind) = enumerate_from 1 (numbered g) in
      let many = length-enumerate_from 1 (numbered g) in
      let long = length-map arcs (arc_column I g) in
      get_or_default (joint_columns I g) k d (arc_column I g (0, Bin 0)) (omega (arith, many, long, within)) ∙ get_or-map (arc_column I g) arcs k (0, Bin 0) ∙ ap (arc_column I g) (get_or-enumerate_from 1 (numbered g) k (0, Bin 0) within)

  columns_long : length (joint_columns I g) ≡ length (numbered g)
  columns_long = length-map (enumerate_from 1 (numbered g)) (arc_column I g) ∙ length-enumerate_from 1 (numbered g)

  columns_are : All (IsColumn count) (joint_columns I g)
  columns_are k d within =
      let long = columns_long in
      let here : k < length (numbered g) = omega (arith, within, long) in
      let row = known.row in
      subst (IsColumn count) (sym (column_at k d here)) (column_is (1 + k) (get_or (numbered g) k (Bin 0)) (omega (arith, here, row)) (arcs_known I g graph of k (Bin 0) here))

  column_names_apart : AllPairs (λ x y. x ≢ y) (column_names (program_of_joint I g))
  column_names_apart i j d before within =
      let columns : List Column = joint_columns I g in
      let none : Column = arc_column I g (0, Bin 0) in
      let named = length-map columns (λ (c : Column). c.name) in
      let long = columns_long in
      let row = known.row in
      let one : i < length (numbered g) = omega (arith, before, within, named, long) in
      let two : j < length (numbered g) = omega (arith, within, named, long) in
      let first : get_or (map (λ (c : Column). c.name) columns) i d ≡ arc_name (1 + i) (get_or (numbered g) i (Bin 0)) = get_or_default (map (λ (c : Column). c.name) columns) i d none.name (omega (arith, before, within)) ∙ get_or-map (λ (c : Column). c.name) columns i none ∙ ap (λ (c : Column). c.name) (column_at i none one) in
      let second : get_or (map (λ (c : Column). c.name) columns) j d ≡ arc_name (1 + j) (get_or (numbered g) j (Bin 0)) = get_or_default (map (λ (c : Column). c.name) columns) j d none.name within ∙ get_or-map (λ (c : Column). c.name) columns j none ∙ ap (λ (c : Column). c.name) (column_at j none two) in
      λ same. let equal = arc_names (1 + i) (1 + j) (get_or (numbered g) i (Bin 0)) (get_or (numbered g) j (Bin 0)) (omega (arith, one, row)) (omega (arith, two, row)) (sym first ∙ same ∙ second) in omega (arith, equal, before)

  -- the row at a place is that of a node or of an item
  abbrev IsNodeRow : ℕ → Row → Type 0
  IsNodeRow k row = (suc k < 2 ^ 32) × (suc k ≤ node_count g) × (row ≡ node_row (suc k))

  abbrev IsItemRow : ℕ → Row → Type 0
  IsItemRow k row = (i : ℕ) × (i < 2 ^ 32) × IsAmong i (length I.items) × (suc k ≡ node_count g + i) × (row ≡ item_row I i)

  row_at : (k : ℕ) (d : Row) → k < count → IsNodeRow k (get_or (joint_rows I g) k d) ⊎ IsItemRow k (get_or (joint_rows I g) k d)
  row_at k d within =
      let e : suc k - 1 ≡ k = omega arith in
      let here : slice_get (joint_rows I g) (suc k - 1) ≡ Some (get_or (joint_rows I g) k d) = ap (slice_get (joint_rows I g)) e ∙ slice_get-get_or (joint_rows I g) k d within in
      ⊎_elim
      (λ node.
      let few = graph.few_nodes in
      inl (omega (arith, node.1, few), node.1, some_same (get_or (joint_rows I g) k d) (node_row (suc k)) (sym here ∙ row_node I g (suc k) node)))
      (λ found.
      let i : ℕ = found.0 in
      let few = instance.item_count in
      inr (i, omega (arith, found.1.1, few), found.1, found.2, some_same (get_or (joint_rows I g) k d) (item_row I i) (sym here ∙ ap (λ (r : ℕ). slice_get (joint_rows I g) (r - 1)) found.2 ∙ row_item I g i found.1)))
      (row_cases I g (suc k) (omega arith, omega (arith, within)))

  demand_few : (i : ℕ) → IsAmong i (length I.items) → (item_at I i).demand ≤ 2 ^ 62
  demand_few i among = let own = (instance.items (i - 1) (record { demand = 0; forms = [] }) (omega (arith, among.0, among.1))).demand in omega (arith, own)

  rows_are : All IsRow (joint_rows I g)
  rows_are k d within = ⊎_elim
      (λ node. subst IsRow (sym node.2) (record { name = node_named (suc k) node.0; right = omega arith }))
      (λ item. subst IsRow (sym item.4) (record { name = item_named item.0 item.1; right = demand_few item.0 item.2 }))
      (row_at k d within)

  -- rows of one name have one place
  same_place : (i j : ℕ) (x y : Row) → IsNodeRow i x ⊎ IsItemRow i x → IsNodeRow j y ⊎ IsItemRow j y → x.name ≡ y.name → i ≡ j
  same_place i j x y (inl a) (inl b) same =
      let equal = node_names (suc i) (suc j) a.0 b.0 (sym (ap (λ (r : Row). r.name) a.2) ∙ same ∙ ap (λ (r : Row). r.name) b.2) in
      omega (arith, equal)
  same_place i j x y (inl a) (inr b) same = absurd (node_not_item (suc i) b.0 (sym (ap (λ (r : Row). r.name) a.2) ∙ same ∙ ap (λ (r : Row). r.name) b.4))
  same_place i j x y (inr a) (inl b) same = absurd (node_not_item (suc j) a.0 (sym (ap (λ (r : Row). r.name) b.2) ∙ sym same ∙ ap (λ (r : Row). r.name) a.4))
  same_place i j x y (inr a) (inr b) same =
      let equal = item_names a.0 b.0 a.1 b.1 (sym (ap (λ (r : Row). r.name) a.4) ∙ same ∙ ap (λ (r : Row). r.name) b.4) in
      let one = a.3 in
      let two = b.3 in
      omega (arith, equal, one, two)

  name_at : (k : ℕ) (d : List ℕ) → k < count → get_or (map (λ (r : Row). r.name) (joint_rows I g)) k d ≡ (get_or (joint_rows I g) k (node_row 0)).name
  name_at k d within =
      let named = length-map (joint_rows I g) (λ (r : Row). r.name) in
      get_or_default (map (λ (r : Row). r.name) (joint_rows I g)) k d (node_row 0).name (omega (arith, named, within)) ∙ get_or-map (λ (r : Row). r.name) (joint_rows I g) k (node_row 0)

  row_names_apart : AllPairs (λ x y. x ≢ y) (row_names (program_of_joint I g))
  row_names_apart =
      let rows : List Row = joint_rows I g in
      let none : Row = node_row 0 in
      let named = length-map rows (λ (r : Row). r.name) in
      AllPairs-cons (λ x y. x ≢ y) (codes "COST") (map (λ (r : Row). r.name) rows)
      (λ k d within same.
      let here : k < count = omega (arith, within, named) in
      ⊎_elim
      (λ node. node_not_objective (suc k) (same ∙ name_at k d here ∙ ap (λ (r : Row). r.name) node.2))
      (λ item. item_not_objective item.0 (same ∙ name_at k d here ∙ ap (λ (r : Row). r.name) item.4))
      (row_at k none here))
      (λ i j d before within same.
      let one : i < count = omega (arith, before, within, named) in
      let two : j < count = omega (arith, within, named) in
      let equal = same_place i j (get_or rows i none) (get_or rows j none) (row_at i none one) (row_at j none two) (sym (name_at i d one) ∙ same ∙ name_at j d two) in
      omega (arith, equal, before))

pub models_are_programs : JointModelsArePrograms
models_are_programs I g instance graph of = record {
  objective = objective_named;
  rows = rows_are I g instance graph of;
  columns = columns_are I g instance graph of;
  rows_apart = row_names_apart I g instance graph of;
  columns_apart = column_names_apart I g instance graph of;
}

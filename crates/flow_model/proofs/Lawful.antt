-- The program of a model keeps the rules of programs.
use Rattle.std.proofs.Common.{◌≡◌, ◌≢◌, ◌⊎◌, ℕ, zero, suc, ◌+◌, ◌-◌, ◌*◌, ◌^◌, ◌<◌, ◌≤◌, cond, ◌==◌, ltb, List, [], ◌∷◌, ◌++◌, length, map, get_or, refl, sym, ap, ◌∙◌, subst, inl, inr, ⊎_elim, arith, All, sum_by, Option, None, Some, pos, negsuc}
use Rattle.std.specs.Prelude.{AllPairs, slice_get, codes}
use Rattle.std.specs.List.{enumerate_from}
use Rattle.std.proofs.lemmas.Int.{ints}
use Rattle.std.proofs.Math.Nat.{mul-le-mul_right}
use Rattle.std.proofs.lemmas.Bool.{cases_lt, cases_eq, eq-eqb, ne_eqb, cond-true, cond-false, lt-ltb, le-ltb}
use Rattle.std.proofs.lemmas.Option.{slice_get-get_or}
use Rattle.std.proofs.lemmas.List.{append-nil, length-map, get_or_default, get_or_past}
use Rattle.std.proofs.lemmas.List.Sums.{sum_by-le}
use Rattle.std.proofs.lemmas.List.FromFn.{length-enumerate_from, get_or-enumerate_from}
use Rattle.std.proofs.lemmas.List.Elements.{All-cons, All-nil, All-weaker}
use Rattle.std.proofs.lemmas.List.Kept.{AllPairs-cons}
use Rattle.arc_num.specs.declared.TheConstants.{MAX_DEMAND, MAX_ITEMS, MAX_UNITS}
use Rattle.packing_laws.specs.declared.instances.Item.{Item}
use Rattle.packing_laws.specs.Instances.{InstanceValue, IsInstance, IsAmong, type_at, item_at, units_of}
use Rattle.packing_laws.specs.Packings.{cost_at}
use Rattle.flow_graph.specs.declared.parts.ArcKind.{ArcKind}
use Rattle.flow_graph.specs.declared.parts.ArcKind.TheVariants.{Bin, Loss, Piece}
use Rattle.flow_graph.specs.Arcs.{TypeValue, IsFlowGraph, flow_type, numbered}
use Rattle.flow_graph.specs.Faithful.{GraphOf}
use Rattle.flow_model.specs.declared.programs.Row.{Row}
use Rattle.flow_model.specs.declared.programs.Entry.{Entry}
use Rattle.flow_model.specs.declared.programs.Column.{Column}
use Rattle.flow_model.specs.Boxes.{limited, upper_of}
use Rattle.flow_model.specs.Flows.{arc_cost}
use Rattle.flow_model.specs.Models.{node_place, item_place, node_row, item_row, model_rows, model_columns, moves, entries_of, arc_name, arc_column, program_of_model, ModelsArePrograms}
use Rattle.flow_model.specs.Programs.{IsRow, IsEntry, IsColumn, row_names, column_names}
use Rattle.flow_graph.proofs.ArcKinds.{some_same}
use Rattle.flow_model.specs.inner.Known.{IsArcOf, IsKnownGraph}
use Rattle.flow_model.proofs.ArcsKnown.{known_graph, arcs_known}
use Rattle.flow_model.proofs.NodePlaces.{place_fits}
use Rattle.flow_model.proofs.Solutions.{row_node, row_item, row_cases, rows_long, source, low_node, high_node}
use Rattle.flow_model.proofs.Names.{objective_named, item_named, arc_named, node_named, node_names, item_names, arc_names, node_not_item, node_not_objective, item_not_objective}

pub get_or-map : {X Y : Type 0} (f : X → Y) (xs : List X) (i : ℕ) (d : X) → get_or (map f xs) i (f d) ≡ f (get_or xs i d)
get_or-map f [] i d = refl
get_or-map f (x ∷ xs) zero d = refl
get_or-map f (x ∷ xs) (suc i) d = get_or-map f xs i d

pub units_few : (I : InstanceValue) → IsInstance I → units_of I ≤ MAX_UNITS
units_few I is =
    let most : units_of I ≤ length I.items * MAX_DEMAND = sum_by-le (λ (x : Item). x.demand) MAX_DEMAND I.items (λ k d within. (is.items k d within).demand) in
    let few : length I.items ≤ MAX_ITEMS = is.item_count in
    let bound : length I.items * MAX_DEMAND ≤ MAX_ITEMS * MAX_DEMAND = mul-le-mul_right MAX_DEMAND few in
    let limit : MAX_ITEMS * MAX_DEMAND ≤ MAX_UNITS = omega arith in
    omega (arith, most, bound, limit)

pub limited_few : (n : ℕ) (limit : Option ℕ) → limited n limit ≤ n
limited_few n None = omega arith
limited_few n (Some q) = omega arith

pub upper_few : (I : InstanceValue) → IsInstance I → (kind : ArcKind) → upper_of I kind ≤ 2 ^ 62
upper_few I is (Bin t) = let few = units_few I is in let part = limited_few (units_of I) (type_at I t).limit in omega (arith, few, part)
upper_few I is (Loss t tail head) = let few = units_few I is in omega (arith, few)
upper_few I is (Piece t tail head item form) = let few = units_few I is in omega (arith, few)

pub type_cost : (I : InstanceValue) → IsInstance I → (t : ℕ) → cost_at I t ≤ 2 ^ 62
type_cost I is t = ⊎_elim
    (λ none. rw (eq-eqb t 0 none) (omega arith))
    (λ some. rw (ne_eqb t 0 some) (⊎_elim
    (λ within. let own = (is.types (t - 1) (record { cap = []; cost = 0; limit = None }) within).cost in omega (arith, own))
    (λ past. let none : type_at I t ≡ record { cap = []; cost = 0; limit = None } = get_or_past I.types (t - 1) (record { cap = []; cost = 0; limit = None }) past in rw none (omega arith))
    (cases_lt (t - 1) (length I.types))))
    (cases_eq t 0)

pub arc_cost_few : (I : InstanceValue) → IsInstance I → (kind : ArcKind) → arc_cost I kind ≤ 2 ^ 62
arc_cost_few I is (Bin t) = type_cost I is t
arc_cost_few I is (Loss t tail head) = omega arith
arc_cost_few I is (Piece t tail head item form) = omega arith

-- entries that stand in order by row, in n rows
pub record AreEntries (n : ℕ) (entries : List Entry) : Type 0 where
  each : All (IsEntry n) entries
  order : AllPairs (λ d e. d.row < e.row) entries

pub no_entries : (n : ℕ) → AreEntries n []
no_entries n = record { each = All-nil (IsEntry n); order = λ i j d before within. absurd (omega (arith, before, within)) }

-- one more entry in front
pub entry_first : (n : ℕ) (e : Entry) (entries : List Entry) → IsEntry n e → All (λ f. e.row < f.row) entries → AreEntries n entries → AreEntries n (e ∷ entries)
entry_first n e entries is before rest = record {
  each = All-cons (IsEntry n) e entries is rest.each;
  order = AllPairs-cons (λ (d e : Entry). d.row < e.row) e entries before rest.order;
}

pub unit_entry : (n r : ℕ) → IsAmong r n → IsEntry n (record { row = r; value = pos 1 })
unit_entry n r among = record { row = among; filled = λ h. omega (arith, ints, h); value = omega arith }

pub less_entry : (n r : ℕ) → IsAmong r n → IsEntry n (record { row = r; value = negsuc 0 })
less_entry n r among = record { row = among; filled = λ h. omega (arith, ints, h); value = omega arith }

-- the entries of a unit that leaves one row and enters another, with others in later rows
pub moves_with : (n p q : ℕ) (rest : List Entry) → IsAmong p n → IsAmong q n → All (λ f. p < f.row) rest → All (λ f. q < f.row) rest → AreEntries n rest → AreEntries n (moves p q ++ rest)
moves_with n p q rest low high after_p after_q are = ⊎_elim
    (λ same. subst (λ (entries : List Entry). AreEntries n (entries ++ rest)) (sym (cond-true (p == q) [] (cond (ltb p q) (leaves ∷ enters ∷ []) (enters ∷ leaves ∷ [])) (eq-eqb p q same))) are)
    (λ apart. subst (λ (entries : List Entry). AreEntries n (entries ++ rest)) (sym (cond-false (p == q) [] (cond (ltb p q) (leaves ∷ enters ∷ []) (enters ∷ leaves ∷ [])) (ne_eqb p q apart))) (⊎_elim
    (λ before. subst (λ (entries : List Entry). AreEntries n (entries ++ rest)) (sym (cond-true (ltb p q) (leaves ∷ enters ∷ []) (enters ∷ leaves ∷ []) (lt-ltb p q before)))
    (entry_first n leaves (enters ∷ rest) (less_entry n p low) (All-cons (λ f. p < f.row) enters rest before after_p) (entry_first n enters rest (unit_entry n q high) after_q are)))
    (λ after. subst (λ (entries : List Entry). AreEntries n (entries ++ rest)) (sym (cond-false (ltb p q) (leaves ∷ enters ∷ []) (enters ∷ leaves ∷ []) (le-ltb p q after)))
    (entry_first n enters (leaves ∷ rest) (unit_entry n q high) (All-cons (λ f. q < f.row) leaves rest (omega (arith, after, apart)) after_q) (entry_first n leaves rest (less_entry n p low) after_p are)))
    (cases_lt p q)))
    (cases_eq p q) where
      leaves : Entry
      leaves = record { row = p; value = negsuc 0 }

      enters : Entry
      enters = record { row = q; value = pos 1 }

module _ (I : InstanceValue) (g : List TypeValue) (instance : IsInstance I) (graph : IsFlowGraph g) (of : GraphOf I g) where
  known : IsKnownGraph I g
  known = known_graph I g instance graph of

  abbrev count : ℕ
  count = length (model_rows I g)

  abbrev total : ℕ
  total = sum_by (λ x. x.nodes) g

  node_among : (t v : ℕ) → IsAmong t (length g) → IsAmong v (flow_type g t).nodes → IsAmong (node_place g t v) count
  node_among t v among node = let fits = place_fits g t v among node in let long = rows_long I g in (fits.0, omega (arith, fits.1, long))

  -- the entries of an arc from one node to another, with others in later rows
  between_with : (t u v : ℕ) → IsAmong t (length g) → IsAmong u (flow_type g t).nodes → IsAmong v (flow_type g t).nodes → (rest : List Entry) → All (λ f. total < f.row) rest → AreEntries count rest → AreEntries count (moves (node_place g t u) (node_place g t v) ++ rest)
  between_with t u v among one two rest later are =
      let p = place_fits g t u among one in
      let q = place_fits g t v among two in
      moves_with count (node_place g t u) (node_place g t v) rest (node_among t u among one) (node_among t v among two) (All-weaker (λ (f : Entry). total < f.row) (λ f. node_place g t u < f.row) (λ f after. omega (arith, after, p.1)) rest later) (All-weaker (λ (f : Entry). total < f.row) (λ f. node_place g t v < f.row) (λ f after. omega (arith, after, q.1)) rest later) are

  plain : (t u v : ℕ) → IsAmong t (length g) → IsAmong u (flow_type g t).nodes → IsAmong v (flow_type g t).nodes → AreEntries count (moves (node_place g t u) (node_place g t v))
  plain t u v among one two = subst (AreEntries count) (append-nil (moves (node_place g t u) (node_place g t v))) (between_with t u v among one two [] (All-nil (λ (f : Entry). total < f.row)) (no_entries count))

  entries_are : (kind : ArcKind) → IsArcOf (length I.items) g kind → AreEntries count (entries_of g kind)
  entries_are (Bin s) among = let low = source I g (length I.items) known.sources s among in plain s (flow_type g s).nodes 1 among (low, omega arith) (omega arith, low)
  entries_are (Loss s tail head) own = plain s tail head own.of_type (low_node I g (length I.items) known.sources s tail head own) (high_node I g (length I.items) known.sources s tail head own)
  entries_are (Piece s tail head item form) own =
      let last : Entry = record { row = item_place g item; value = pos 1 } in
      let long = rows_long I g in
      let among : IsAmong (item_place g item) count = (omega (arith, own.1.0), omega (arith, own.1.1, long)) in
      let end : AreEntries count (last ∷ []) = entry_first count last [] (unit_entry count (item_place g item) among) (All-nil (λ (f : Entry). last.row < f.row)) (no_entries count) in
      between_with s tail head own.0.of_type (low_node I g (length I.items) known.sources s tail head own.0) (high_node I g (length I.items) known.sources s tail head own.0) (last ∷ []) (All-cons (λ (f : Entry). total < f.row) last [] (omega (arith, own.1.0)) (All-nil (λ (f : Entry). total < f.row))) end

  column_is : (a : ℕ) (kind : ArcKind) → a < 2 ^ 32 → IsArcOf (length I.items) g kind → IsColumn count (arc_column I g (a, kind))
  column_is a kind small own =
      let are = entries_are kind own in
      record {
        name = arc_named a kind small;
        cost = arc_cost_few I instance kind;
        entries = are.each;
        order = are.order;
        bounds = omega arith;
        upper = upper_few I instance kind;
      }

  -- the column at a place is that of the arc there
  column_at : (k : ℕ) (d : Column) → k < length (numbered g) → get_or (model_columns I g) k d ≡ arc_column I g (1 + k, get_or (numbered g) k (Bin 0))
  column_at k d within =
      let arcs : List (ℕ × ArcKind) = enumerate_from 1 (numbered g) in
      let many = length-enumerate_from 1 (numbered g) in
      let long = length-map arcs (arc_column I g) in
      get_or_default (model_columns I g) k d (arc_column I g (0, Bin 0)) (omega (arith, many, long, within)) ∙ get_or-map (arc_column I g) arcs k (0, Bin 0) ∙ ap (arc_column I g) (get_or-enumerate_from 1 (numbered g) k (0, Bin 0) within)

  columns_long : length (model_columns I g) ≡ length (numbered g)
  columns_long = length-map (enumerate_from 1 (numbered g)) (arc_column I g) ∙ length-enumerate_from 1 (numbered g)

  columns_are : All (IsColumn count) (model_columns I g)
  columns_are k d within =
      let long = columns_long in
      let here : k < length (numbered g) = omega (arith, within, long) in
      let row = known.row in
      subst (IsColumn count) (sym (column_at k d here)) (column_is (1 + k) (get_or (numbered g) k (Bin 0)) (omega (arith, here, row)) (arcs_known I g graph of k (Bin 0) here))

  column_names_apart : AllPairs (λ x y. x ≢ y) (column_names (program_of_model I g))
  column_names_apart i j d before within =
      let columns : List Column = model_columns I g in
      let none : Column = arc_column I g (0, Bin 0) in
      let named = length-map columns (λ (c : Column). c.name) in
      let long = columns_long in
      let row = known.row in
      let one : i < length (numbered g) = omega (arith, before, within, named, long) in
      let two : j < length (numbered g) = omega (arith, within, named, long) in
      let first : get_or (map (λ (c : Column). c.name) columns) i d ≡ arc_name (1 + i) (get_or (numbered g) i (Bin 0)) = get_or_default (map (λ (c : Column). c.name) columns) i d none.name (omega (arith, before, within)) ∙ get_or-map (λ (c : Column). c.name) columns i none ∙ ap (λ (c : Column). c.name) (column_at i none one) in
      let second : get_or (map (λ (c : Column). c.name) columns) j d ≡ arc_name (1 + j) (get_or (numbered g) j (Bin 0)) = get_or_default (map (λ (c : Column). c.name) columns) j d none.name within ∙ get_or-map (λ (c : Column). c.name) columns j none ∙ ap (λ (c : Column). c.name) (column_at j none two) in
      λ same. let equal = arc_names (1 + i) (1 + j) (get_or (numbered g) i (Bin 0)) (get_or (numbered g) j (Bin 0)) (omega (arith, one, row)) (omega (arith, two, row)) (sym first ∙ same ∙ second) in omega (arith, equal, before)

  -- the row at a place is that of a node or of an item
  abbrev IsNodeRow : ℕ → Row → Type 0
  IsNodeRow k row = (t : ℕ) × (v : ℕ) × (t < 2 ^ 32) × (v < 2 ^ 32) × (suc k ≡ node_place g t v) × (row ≡ node_row t v)

  abbrev IsItemRow : ℕ → Row → Type 0
  IsItemRow k row = (i : ℕ) × (i < 2 ^ 32) × IsAmong i (length I.items) × (suc k ≡ item_place g i) × (row ≡ item_row I i)

  row_at : (k : ℕ) (d : Row) → k < count → IsNodeRow k (get_or (model_rows I g) k d) ⊎ IsItemRow k (get_or (model_rows I g) k d)
  row_at k d within =
      let e : suc k - 1 ≡ k = omega arith in
      let here : slice_get (model_rows I g) (suc k - 1) ≡ Some (get_or (model_rows I g) k d) = ap (slice_get (model_rows I g)) e ∙ slice_get-get_or (model_rows I g) k d within in
      ⊎_elim
      (λ found.
      let t : ℕ = found.0 in
      let v : ℕ = found.1 in
      let fits = place_fits g t v found.2 found.3 in
      let few = graph.few in
      let nodes = known.nodes in
      inl (t, v, omega (arith, found.2.1, few), omega (arith, fits.1, nodes), found.4, some_same (get_or (model_rows I g) k d) (node_row t v) (sym here ∙ ap (λ (r : ℕ). slice_get (model_rows I g) (r - 1)) found.4 ∙ row_node I g t v found.2 found.3)))
      (λ found.
      let i : ℕ = found.0 in
      let few = instance.item_count in
      inr (i, omega (arith, found.1.1, few), found.1, found.2, some_same (get_or (model_rows I g) k d) (item_row I i) (sym here ∙ ap (λ (r : ℕ). slice_get (model_rows I g) (r - 1)) found.2 ∙ row_item I g i found.1)))
      (row_cases I g (suc k) (omega arith, omega (arith, within)))

  demand_few : (i : ℕ) → IsAmong i (length I.items) → (item_at I i).demand ≤ 2 ^ 62
  demand_few i among = let own = (instance.items (i - 1) (record { demand = 0; forms = [] }) (omega (arith, among.0, among.1))).demand in omega (arith, own)

  rows_are : All IsRow (model_rows I g)
  rows_are k d within = ⊎_elim
      (λ node. subst IsRow (sym node.5) (record { name = node_named node.0 node.1 node.2 node.3; right = omega arith }))
      (λ item. subst IsRow (sym item.4) (record { name = item_named item.0 item.1; right = demand_few item.0 item.2 }))
      (row_at k d within)

  -- rows of one name have one place
  same_place : (i j : ℕ) (x y : Row) → IsNodeRow i x ⊎ IsItemRow i x → IsNodeRow j y ⊎ IsItemRow j y → x.name ≡ y.name → i ≡ j
  same_place i j x y (inl a) (inl b) same =
      let both = node_names a.0 a.1 b.0 b.1 a.2 a.3 b.2 b.3 (sym (ap (λ (r : Row). r.name) a.5) ∙ same ∙ ap (λ (r : Row). r.name) b.5) in
      let place : node_place g a.0 a.1 ≡ node_place g b.0 b.1 = λ k. node_place g (both.0 k) (both.1 k) in
      let one = a.4 in
      let two = b.4 in
      omega (arith, place, one, two)
  same_place i j x y (inl a) (inr b) same = absurd (node_not_item a.0 a.1 b.0 (sym (ap (λ (r : Row). r.name) a.5) ∙ same ∙ ap (λ (r : Row). r.name) b.4))
  same_place i j x y (inr a) (inl b) same = absurd (node_not_item b.0 b.1 a.0 (sym (ap (λ (r : Row). r.name) b.5) ∙ sym same ∙ ap (λ (r : Row). r.name) a.4))
  same_place i j x y (inr a) (inr b) same =
      let equal = item_names a.0 b.0 a.1 b.1 (sym (ap (λ (r : Row). r.name) a.4) ∙ same ∙ ap (λ (r : Row). r.name) b.4) in
      let one = a.3 in
      let two = b.3 in
      omega (arith, equal, one, two)

  abbrev none : Row
  none = node_row 0 0

  name_at : (k : ℕ) (d : List ℕ) → k < count → get_or (map (λ (r : Row). r.name) (model_rows I g)) k d ≡ (get_or (model_rows I g) k none).name
  name_at k d within =
      let named = length-map (model_rows I g) (λ (r : Row). r.name) in
      get_or_default (map (λ (r : Row). r.name) (model_rows I g)) k d none.name (omega (arith, named, within)) ∙ get_or-map (λ (r : Row). r.name) (model_rows I g) k none

  row_names_apart : AllPairs (λ x y. x ≢ y) (row_names (program_of_model I g))
  row_names_apart =
      let rows : List Row = model_rows I g in
      let named = length-map rows (λ (r : Row). r.name) in
      AllPairs-cons (λ x y. x ≢ y) (codes "COST") (map (λ (r : Row). r.name) rows)
      (λ k d within same.
      let here : k < count = omega (arith, within, named) in
      ⊎_elim
      (λ node. node_not_objective node.0 node.1 (same ∙ name_at k d here ∙ ap (λ (r : Row). r.name) node.5))
      (λ item. item_not_objective item.0 (same ∙ name_at k d here ∙ ap (λ (r : Row). r.name) item.4))
      (row_at k none here))
      (λ i j d before within same.
      let one : i < count = omega (arith, before, within, named) in
      let two : j < count = omega (arith, within, named) in
      let equal = same_place i j (get_or rows i none) (get_or rows j none) (row_at i none one) (row_at j none two) (sym (name_at i d one) ∙ same ∙ name_at j d two) in
      omega (arith, equal, before))

pub models_are_programs : ModelsArePrograms
models_are_programs I g instance graph of = record {
  objective = objective_named;
  rows = rows_are I g instance graph of;
  columns = columns_are I g instance graph of;
  rows_apart = row_names_apart I g instance graph of;
  columns_apart = column_names_apart I g instance graph of;
}

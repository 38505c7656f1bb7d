-- The solutions of the program of a model are the flows.
use Rattle.std.proofs.Common.{◌≡◌, ◌⊎◌, ℕ, zero, suc, ◌+◌, ◌-◌, ◌*◌, ◌<◌, ◌≤◌, Bool, true, false, cond, ◌==◌, ◌&&◌, ltb, List, [], ◌∷◌, ◌++◌, length, map, get_or, take, drop, refl, sym, ap, ◌∙◌, subst, inl, inr, ⊎_elim, arith, All, sum_by, Some, length-append, ℤ, pos, negsuc, ◌+ℤ◌, ◌-ℤ◌, ◌*ℤ◌, neg_ℤ, ◌≤ℤ◌}
use Rattle.std.specs.Prelude.{slice_get, option_map}
use Rattle.std.specs.List.{enumerate_from}
use Rattle.std.proofs.Math.Nat.{add-mul}
use Rattle.std.proofs.lemmas.Int.{ints}
use Rattle.std.proofs.lemmas.Bool.{cases_lt, cases_eq, eq-eqb, ne_eqb, cond-true, cond-false, lt-ltb, le-ltb}
use Rattle.std.proofs.lemmas.Option.{slice_get-map}
use Rattle.std.proofs.lemmas.List.{length-map, take_all, take-append-drop}
use Rattle.std.proofs.lemmas.List.Sums.{sum_by-cons}
use Rattle.std.proofs.lemmas.List.Elements.{All-head, All-tail}
use Rattle.packing_laws.specs.Instances.{InstanceValue, IsInstance, IsAmong, item_at}
use Rattle.flow_graph.specs.declared.parts.ArcKind.{ArcKind}
use Rattle.flow_graph.specs.declared.parts.ArcKind.TheVariants.{Bin, Loss, Piece}
use Rattle.flow_graph.specs.Arcs.{TypeValue, IsFlowGraph, flow_type, numbered}
use Rattle.flow_graph.specs.Faithful.{GraphOf}
use Rattle.flow_graph.proofs.ArcKinds.{some_same}
use Rattle.flow_graph.proofs.Places.{slice_get-append-add, slice_get-append-left}
use Rattle.flow_model.specs.declared.programs.Row.{Row}
use Rattle.flow_model.specs.declared.programs.Entry.{Entry}
use Rattle.flow_model.specs.declared.programs.Column.{Column}
use Rattle.flow_model.specs.Boxes.{upper_of}
use Rattle.flow_graph.specs.Ends.{comes_in, goes_out}
use Rattle.flow_model.specs.Flows.{IsFlow, weigh_arcs, carries, arc_cost, flow_cost, up_to, nodes_from, all_nodes}
use Rattle.flow_model.specs.Models.{node_place, item_place, node_row, item_row, model_rows, moves, entries_of, arc_column, program_of_model, SolutionsAreFlows}
use Rattle.flow_model.specs.Programs.{entry_in, weigh, row_sum, objective_of, Meets, AreWithin, IsSolution}
use Rattle.flow_model.specs.inner.Known.{IsBetween, IsArcOf, IsKnownGraph}
use Rattle.flow_model.proofs.ArcsKnown.{known_graph, arcs_known}
use Rattle.flow_model.proofs.NodePlaces.{place_test, place_fits}
use Rattle.flow_model.proofs.RowLists.{nodes_from_more, nodes_from-append, starts_more}
use Rattle.flow_model.proofs.BrokenRows.{bounded_at}
use Rattle.flow_model.proofs.Ways.{one_if}

-- the product of a difference
pub scale : (a b x : ℕ) → (pos a -ℤ pos b) *ℤ pos x ≡ pos (a * x) -ℤ pos (b * x)
scale a b x = ⊎_elim
    (λ less.
    let m : ℕ = b - a - 1 in
    let e : pos a -ℤ pos b ≡ negsuc m = omega (arith, ints, less) in
    let whole : b ≡ suc m + a = omega (arith, less) in
    let product : b * x ≡ suc m * x + a * x = ap (λ n. n * x) whole ∙ add-mul (suc m) a x in
    let left : negsuc m *ℤ pos x ≡ neg_ℤ (pos (suc m * x)) = refl in
    ap (λ z. z *ℤ pos x) e ∙ left ∙ omega (arith, ints, product))
    (λ more.
    let m : ℕ = a - b in
    let e : pos a -ℤ pos b ≡ pos m = omega (arith, ints, more) in
    let whole : a ≡ m + b = omega (arith, more) in
    let product : a * x ≡ m * x + b * x = ap (λ n. n * x) whole ∙ add-mul m b x in
    let left : pos m *ℤ pos x ≡ pos (m * x) = refl in
    ap (λ z. z *ℤ pos x) e ∙ left ∙ omega (arith, ints, product))
    (cases_lt a b)

-- a sum over the columns of the arcs, where what is summed is a difference
pub weigh_columns : (I : InstanceValue) (g : List TypeValue) (Q : ArcKind → Type 0) (f : Column → ℤ) (p q : ArcKind → ℕ) → ((n : ℕ) (kind : ArcKind) → Q kind → f (arc_column I g (n, kind)) ≡ pos (p kind) -ℤ pos (q kind)) → (n : ℕ) (kinds : List ArcKind) (values : List ℕ) → All Q kinds → weigh f (map (arc_column I g) (enumerate_from n kinds)) values ≡ pos (weigh_arcs p kinds values) -ℤ pos (weigh_arcs q kinds values)
weigh_columns I g Q f p q each n [] values all = omega (arith, ints)
weigh_columns I g Q f p q each n (kind ∷ kinds) [] all = omega (arith, ints)
weigh_columns I g Q f p q each n (kind ∷ kinds) (x ∷ values) all =
    let rest = weigh_columns I g Q f p q each (n + 1) kinds values (All-tail Q kind kinds all) in
    let first : f (arc_column I g (n, kind)) *ℤ pos x ≡ pos (p kind * x) -ℤ pos (q kind * x) = ap (λ z. z *ℤ pos x) (each n kind (All-head Q kind kinds all)) ∙ scale (p kind) (q kind) x in
    omega (arith, ints, rest, first)

pub weigh_none : (kinds : List ArcKind) (values : List ℕ) → weigh_arcs (λ kind. 0) kinds values ≡ 0
weigh_none [] values = refl
weigh_none (kind ∷ kinds) [] = refl
weigh_none (kind ∷ kinds) (x ∷ values) = let rest = weigh_none kinds values in omega (arith, rest)

pub objective_is : (I : InstanceValue) (g : List TypeValue) (values : List ℕ) → objective_of (program_of_model I g) values ≡ pos (flow_cost I g values)
objective_is I g values =
    let sum = weigh_columns I g (λ kind. Unit {0}) (λ c. c.cost) (arc_cost I) (λ kind. 0) (λ n kind any. omega (arith, ints)) 1 (numbered g) values (λ k d within. tt) in
    let none = weigh_none (numbered g) values in
    omega (arith, ints, sum, none)

pub entry_append : (r : ℕ) (xs ys : List Entry) → entry_in r (xs ++ ys) ≡ entry_in r xs +ℤ entry_in r ys
entry_append r [] ys = omega (arith, ints)
entry_append r (e ∷ xs) ys = let rest = entry_append r xs ys in omega (arith, ints, rest)

-- what a unit that leaves one row and enters another adds in a row
pub entry_moves : (r p q : ℕ) → entry_in r (moves p q) ≡ pos (cond (q == r) 1 0) -ℤ pos (cond (p == r) 1 0)
entry_moves r p q = ⊎_elim
    (λ same.
    let none : moves p q ≡ [] = cond-true (p == q) [] (cond (ltb p q) (record { row = p; value = negsuc 0 } ∷ record { row = q; value = pos 1 } ∷ []) (record { row = q; value = pos 1 } ∷ record { row = p; value = negsuc 0 } ∷ [])) (eq-eqb p q same) in
    ap (entry_in r) none ∙ subst (λ (m : ℕ). pos 0 ≡ pos (cond (m == r) 1 0) -ℤ pos (cond (p == r) 1 0)) same (omega (arith, ints)))
    (λ apart.
    let leaves : Entry = record { row = p; value = negsuc 0 } in
    let enters : Entry = record { row = q; value = pos 1 } in
    let some : moves p q ≡ cond (ltb p q) (leaves ∷ enters ∷ []) (enters ∷ leaves ∷ []) = cond-false (p == q) [] (cond (ltb p q) (leaves ∷ enters ∷ []) (enters ∷ leaves ∷ [])) (ne_eqb p q apart) in
    let one : (b : Bool) → cond b (pos 1) (pos 0) ≡ pos (cond b 1 0) = one_or in
    let less : (b : Bool) → cond b (negsuc 0) (pos 0) ≡ pos 0 -ℤ pos (cond b 1 0) = less_or in
    ap (entry_in r) some ∙ ⊎_elim
    (λ before. ap (entry_in r) (cond-true (ltb p q) (leaves ∷ enters ∷ []) (enters ∷ leaves ∷ []) (lt-ltb p q before)) ∙ (let a = one (q == r) in let b = less (p == r) in omega (arith, ints, a, b)))
    (λ after. ap (entry_in r) (cond-false (ltb p q) (leaves ∷ enters ∷ []) (enters ∷ leaves ∷ []) (le-ltb p q after)) ∙ (let a = one (q == r) in let b = less (p == r) in omega (arith, ints, a, b)))
    (cases_lt p q))
    (cases_eq p q) where
      one_or : (b : Bool) → cond b (pos 1) (pos 0) ≡ pos (cond b 1 0)
      one_or true = refl
      one_or false = refl

      less_or : (b : Bool) → cond b (negsuc 0) (pos 0) ≡ pos 0 -ℤ pos (cond b 1 0)
      less_or true = omega (arith, ints)
      less_or false = omega (arith, ints)

pub shift_test : (a b c : ℕ) → (a + b == a + c) ≡ (b == c)
shift_test a b c = ⊎_elim
    (λ same. eq-eqb (a + b) (a + c) (omega (arith, same)) ∙ sym (eq-eqb b c same))
    (λ other. ne_eqb (a + b) (a + c) (λ e. other (omega (arith, e))) ∙ sym (ne_eqb b c other))
    (cases_eq b c)

-- the places of rows
abbrev pub first_nodes : List TypeValue → ℕ → ℕ
first_nodes g k = sum_by (λ x. x.nodes) (take k g)

pub length_up_to : (n : ℕ) → length (up_to n) ≡ n
length_up_to zero = refl
length_up_to (suc n) = let rest = length_up_to n in let long = length-append (up_to n) (suc n ∷ []) in omega (arith, rest, long)

pub length_nodes : (t : ℕ) (g : List TypeValue) → length (nodes_from t g) ≡ sum_by (λ x. x.nodes) g
length_nodes t [] = refl
length_nodes t (x ∷ g) =
    let rest = length_nodes (t + 1) g in
    let own = length-map {B = ℕ × ℕ} (up_to x.nodes) (λ v. (t, v)) in
    let many = length_up_to x.nodes in
    let joined = length-append (map (λ v. (t, v)) (up_to x.nodes)) (nodes_from (t + 1) g) in
    rw (sum_by-cons (λ (y : TypeValue). y.nodes) x g) (omega (arith, rest, own, many, joined))

pub up_to_at : (n v : ℕ) → IsAmong v n → slice_get (up_to n) (v - 1) ≡ Some v
up_to_at zero v among = absurd (omega (arith, among.0, among.1))
up_to_at (suc n) v among = ⊎_elim
    (λ same.
    let place : v - 1 ≡ length (up_to n) + 0 = let long = length_up_to n in omega (arith, same, long) in
    ap (slice_get (up_to n ++ suc n ∷ [])) place ∙ slice_get-append-add (up_to n) (suc n ∷ []) 0 ∙ ap Some (sym same))
    (λ other. slice_get-append-left (up_to n) (suc n ∷ []) (v - 1) v (up_to_at n v (among.0, omega (arith, among.1, other))))
    (cases_eq v (suc n))

pub node_at : (g : List TypeValue) (t v : ℕ) → IsAmong t (length g) → IsAmong v (flow_type g t).nodes → slice_get (all_nodes g) (node_place g t v - 1) ≡ Some (t, v)
node_at g t v among node =
    let e : t - 1 + 1 ≡ t = omega (arith, among.0) in
    let front : List (ℕ × ℕ) = nodes_from 1 (take (t - 1) g) in
    let own : List (ℕ × ℕ) = map (λ v. (t, v)) (up_to (flow_type g t).nodes) in
    let after : List (ℕ × ℕ) = nodes_from (1 + length (take t g)) (drop t g) in
    let part : nodes_from 1 (take t g) ≡ front ++ own = subst (λ (s : ℕ). nodes_from 1 (take s g) ≡ front ++ map (λ v. (s, v)) (up_to (flow_type g s).nodes)) e (nodes_from_more g (t - 1) (omega (arith, among.0, among.1))) in
    let whole : all_nodes g ≡ front ++ own ++ after = ap (nodes_from 1) (sym (take-append-drop t g)) ∙ nodes_from-append 1 (take t g) (drop t g) ∙ ap (λ xs. xs ++ after) part in
    let long : length front ≡ first_nodes g (t - 1) = length_nodes 1 (take (t - 1) g) in
    let place : node_place g t v - 1 ≡ length front + (v - 1) = omega (arith, long, node.0) in
    let here : slice_get own (v - 1) ≡ Some (t, v) = slice_get-map (λ v. (t, v)) (up_to (flow_type g t).nodes) (v - 1) ∙ ap (option_map (λ v. (t, v))) (up_to_at (flow_type g t).nodes v node) in
    ap (λ xs. slice_get xs (node_place g t v - 1)) whole ∙ slice_get-append-left (front ++ own) after (node_place g t v - 1) (t, v) (ap (slice_get (front ++ own)) place ∙ slice_get-append-add front own (v - 1) ∙ here)

-- each place up to the number of nodes of the first types is that of a node
pub find_node : (g : List TypeValue) (n r : ℕ) → n ≤ length g → 1 ≤ r → r ≤ first_nodes g n → (t : ℕ) × (v : ℕ) × IsAmong t (length g) × IsAmong v (flow_type g t).nodes × (r ≡ node_place g t v)
find_node g zero r within low high = absurd (omega (arith, low, high))
find_node g (suc n) r within low high = ⊎_elim
    (λ before. find_node g n r (omega (arith, within)) low (omega (arith, before)))
    (λ after.
    let e : n + 1 ≡ suc n = omega arith in
    let f : suc n - 1 ≡ n = omega arith in
    let more : first_nodes g (suc n) ≡ first_nodes g n + (flow_type g (suc n)).nodes = rw e at (starts_more g n (omega (arith, within))) in
    let start : first_nodes g (suc n - 1) ≡ first_nodes g n = ap (first_nodes g) f in
    (suc n, r - first_nodes g n, (omega arith, within), (omega (arith, after), omega (arith, high, more)), omega (arith, after, start)))
    (cases_lt r (first_nodes g n + 1))

module _ (I : InstanceValue) (g : List TypeValue) where
  abbrev total : ℕ
  total = sum_by (λ x. x.nodes) g

  abbrev row_of_node : ℕ × ℕ → Row
  row_of_node node = node_row node.0 node.1

  pub row_node : (t v : ℕ) → IsAmong t (length g) → IsAmong v (flow_type g t).nodes → slice_get (model_rows I g) (node_place g t v - 1) ≡ Some (node_row t v)
  row_node t v among node = slice_get-append-left (map row_of_node (all_nodes g)) (map (item_row I) (up_to (length I.items))) (node_place g t v - 1) (node_row t v) (slice_get-map row_of_node (all_nodes g) (node_place g t v - 1) ∙ ap (option_map row_of_node) (node_at g t v among node))

  nodes_long : length (map row_of_node (all_nodes g)) ≡ total
  nodes_long = length-map (all_nodes g) row_of_node ∙ length_nodes 1 g

  pub row_item : (i : ℕ) → IsAmong i (length I.items) → slice_get (model_rows I g) (item_place g i - 1) ≡ Some (item_row I i)
  row_item i among =
      let nodes : List Row = map row_of_node (all_nodes g) in
      let items : List Row = map (item_row I) (up_to (length I.items)) in
      let long = nodes_long in
      let place : item_place g i - 1 ≡ length nodes + (i - 1) = omega (arith, long, among.0) in
      ap (slice_get (nodes ++ items)) place ∙ slice_get-append-add nodes items (i - 1) ∙ slice_get-map (item_row I) (up_to (length I.items)) (i - 1) ∙ ap (option_map (item_row I)) (up_to_at (length I.items) i among)

  pub rows_long : length (model_rows I g) ≡ total + length I.items
  rows_long =
      let nodes : List Row = map row_of_node (all_nodes g) in
      let items : List Row = map (item_row I) (up_to (length I.items)) in
      let long = nodes_long in
      let joined = length-append nodes items in
      let many = length-map (up_to (length I.items)) (item_row I) in
      let up = length_up_to (length I.items) in
      omega (arith, long, joined, many, up)

  -- each row is that of a node or of an item
  pub row_cases : (r : ℕ) → IsAmong r (length (model_rows I g)) → ((t : ℕ) × (v : ℕ) × IsAmong t (length g) × IsAmong v (flow_type g t).nodes × (r ≡ node_place g t v)) ⊎ ((i : ℕ) × IsAmong i (length I.items) × (r ≡ item_place g i))
  row_cases r among =
      let long = rows_long in
      ⊎_elim
      (λ before.
      let whole : take (length g) g ≡ g = take_all (length g) g (omega arith) in
      let all : first_nodes g (length g) ≡ total = ap (sum_by (λ (x : TypeValue). x.nodes)) whole in
      inl (find_node g (length g) r (omega arith) among.0 (omega (arith, before, all))))
      (λ after. inr (r - total, (omega (arith, after), omega (arith, among.1, long)), omega (arith, after)))
      (cases_lt r (total + 1))

module _ (I : InstanceValue) (g : List TypeValue) (n : ℕ) (sources : All (λ x. 1 ≤ x.nodes) g) where
  pub source : (s : ℕ) → IsAmong s (length g) → 1 ≤ (flow_type g s).nodes
  source s among = sources (s - 1) (record { nodes = 1; arcs = [] }) (omega (arith, among.0, among.1))

  pub low_node : (s tail head : ℕ) → IsBetween g s tail head → IsAmong tail (flow_type g s).nodes
  low_node s tail head own = (own.low, let high = own.high in let rises = own.rises in omega (arith, high, rises))

  pub high_node : (s tail head : ℕ) → IsBetween g s tail head → IsAmong head (flow_type g s).nodes
  high_node s tail head own = (let low = own.low in let rises = own.rises in omega (arith, low, rises), own.high)

  module _ (t v : ℕ) (two : IsAmong t (length g)) (other : IsAmong v (flow_type g t).nodes) where
    move_node : (s u w : ℕ) → IsAmong s (length g) → IsAmong u (flow_type g s).nodes → IsAmong w (flow_type g s).nodes → entry_in (node_place g t v) (moves (node_place g s u) (node_place g s w)) ≡ pos (cond ((s == t) && (w == v)) 1 0) -ℤ pos (cond ((s == t) && (u == v)) 1 0)
    move_node s u w among one next =
        let p = place_test g s u t v among one two other in
        let q = place_test g s w t v among next two other in
        entry_moves (node_place g t v) (node_place g s u) (node_place g s w) ∙ (λ k. pos (cond (q k) 1 0) -ℤ pos (cond (p k) 1 0))

    entries_node : (kind : ArcKind) → IsArcOf n g kind → entry_in (node_place g t v) (entries_of g kind) ≡ pos (one_if (comes_in t v) kind) -ℤ pos (one_if (goes_out g t v) kind)
    entries_node (Bin s) among = move_node s (flow_type g s).nodes 1 among (source s among, omega arith) (omega arith, source s among)
    entries_node (Loss s tail head) own = move_node s tail head own.of_type (low_node s tail head own) (high_node s tail head own)
    entries_node (Piece s tail head item form) own =
        let first = move_node s tail head own.0.of_type (low_node s tail head own.0) (high_node s tail head own.0) in
        let last : Entry = record { row = item_place g item; value = pos 1 } in
        let joined = entry_append (node_place g t v) (moves (node_place g s tail) (node_place g s head)) (last ∷ []) in
        let fits = place_fits g t v two other in
        let none : cond (item_place g item == node_place g t v) (pos 1) (pos 0) ≡ pos 0 = cond-false (item_place g item == node_place g t v) (pos 1) (pos 0) (ne_eqb (item_place g item) (node_place g t v) (λ e. omega (arith, e, fits.1, own.1.0))) in
        omega (arith, ints, first, joined, none)

  module _ (i : ℕ) (low : 1 ≤ i) where
    move_item : (s u w : ℕ) → IsAmong s (length g) → IsAmong u (flow_type g s).nodes → IsAmong w (flow_type g s).nodes → entry_in (item_place g i) (moves (node_place g s u) (node_place g s w)) ≡ pos 0
    move_item s u w among one next =
        let p = place_fits g s u among one in
        let q = place_fits g s w among next in
        let first : cond {A = ℕ} (node_place g s u == item_place g i) 1 0 ≡ 0 = cond-false (node_place g s u == item_place g i) 1 0 (ne_eqb (node_place g s u) (item_place g i) (λ e. omega (arith, e, p.1, low))) in
        let second : cond {A = ℕ} (node_place g s w == item_place g i) 1 0 ≡ 0 = cond-false (node_place g s w == item_place g i) 1 0 (ne_eqb (node_place g s w) (item_place g i) (λ e. omega (arith, e, q.1, low))) in
        let sum = entry_moves (item_place g i) (node_place g s u) (node_place g s w) in
        omega (arith, ints, sum, first, second)

    entries_item : (kind : ArcKind) → IsArcOf n g kind → entry_in (item_place g i) (entries_of g kind) ≡ pos (one_if (carries i) kind) -ℤ pos 0
    entries_item (Bin s) among = let sum = move_item s (flow_type g s).nodes 1 among (source s among, omega arith) (omega arith, source s among) in omega (arith, ints, sum)
    entries_item (Loss s tail head) own = let sum = move_item s tail head own.of_type (low_node s tail head own) (high_node s tail head own) in omega (arith, ints, sum)
    entries_item (Piece s tail head item form) own =
        let first = move_item s tail head own.0.of_type (low_node s tail head own.0) (high_node s tail head own.0) in
        let last : Entry = record { row = item_place g item; value = pos 1 } in
        let joined = entry_append (item_place g i) (moves (node_place g s tail) (node_place g s head)) (last ∷ []) in
        let test : (item_place g item == item_place g i) ≡ (item == i) = shift_test (sum_by (λ (x : TypeValue). x.nodes) g) item i in
        let own : cond (item_place g item == item_place g i) (pos 1) (pos 0) ≡ pos (cond (item == i) 1 0) = ap (λ (b : Bool). cond b (pos 1) (pos 0)) test ∙ as_pos (item == i) in
        omega (arith, ints, first, joined, own) where
          as_pos : (b : Bool) → cond b (pos 1) (pos 0) ≡ pos (cond b 1 0)
          as_pos true = refl
          as_pos false = refl

-- the bounds of the columns of the arcs
abbrev pub AreBounded : InstanceValue → List ArcKind → List ℕ → Type 0
AreBounded I kinds values = (length values ≡ length kinds) × ((i : ℕ) (d : ArcKind) → i < length kinds → get_or values i 0 ≤ upper_of I (get_or kinds i d))

pub bounds_to : (I : InstanceValue) (g : List TypeValue) (n : ℕ) (kinds : List ArcKind) (values : List ℕ) → AreWithin (map (arc_column I g) (enumerate_from n kinds)) values → AreBounded I kinds values
bounds_to I g n [] [] h = (refl, λ i d within. absurd (omega (arith, within)))
bounds_to I g n [] (x ∷ values) h = absurd h
bounds_to I g n (kind ∷ kinds) [] h = absurd h
bounds_to I g n (kind ∷ kinds) (x ∷ values) h =
    let rest = bounds_to I g (n + 1) kinds values h.2 in
    (ap suc rest.0, each h.1 rest.1) where
      each : x ≤ upper_of I kind → ((i : ℕ) (d : ArcKind) → i < length kinds → get_or values i 0 ≤ upper_of I (get_or kinds i d)) → (i : ℕ) (d : ArcKind) → i < length (kind ∷ kinds) → get_or (x ∷ values) i 0 ≤ upper_of I (get_or (kind ∷ kinds) i d)
      each first rest zero d within = first
      each first rest (suc i) d within = rest i d (omega (arith, within))

pub bounds_from : (I : InstanceValue) (g : List TypeValue) (n : ℕ) (kinds : List ArcKind) (values : List ℕ) → AreBounded I kinds values → AreWithin (map (arc_column I g) (enumerate_from n kinds)) values
bounds_from I g n [] [] h = tt
bounds_from I g n [] (x ∷ values) h = let size = h.0 in absurd (omega (arith, size))
bounds_from I g n (kind ∷ kinds) [] h = let size = h.0 in absurd (omega (arith, size))
bounds_from I g n (kind ∷ kinds) (x ∷ values) h = (omega arith, h.1 0 kind (omega arith), bounds_from I g (n + 1) kinds values (let size = h.0 in omega (arith, size), λ i d within. h.1 (suc i) d (omega (arith, within))))

module _ (I : InstanceValue) (g : List TypeValue) (values : List ℕ) (instance : IsInstance I) (graph : IsFlowGraph g) (of : GraphOf I g) where
  known : IsKnownGraph I g
  known = known_graph I g instance graph of

  arcs : All (IsArcOf (length I.items) g) (numbered g)
  arcs = arcs_known I g graph of

  node_sum : (t v : ℕ) → IsAmong t (length g) → IsAmong v (flow_type g t).nodes → row_sum (program_of_model I g) values (node_place g t v) ≡ pos (weigh_arcs (one_if (comes_in t v)) (numbered g) values) -ℤ pos (weigh_arcs (one_if (goes_out g t v)) (numbered g) values)
  node_sum t v among node = weigh_columns I g (IsArcOf (length I.items) g) (λ c. entry_in (node_place g t v) c.entries) (one_if (comes_in t v)) (one_if (goes_out g t v)) (λ n kind own. entries_node I g (length I.items) known.sources t v among node kind own) 1 (numbered g) values arcs

  item_sum : (i : ℕ) → 1 ≤ i → row_sum (program_of_model I g) values (item_place g i) ≡ pos (weigh_arcs (one_if (carries i)) (numbered g) values)
  item_sum i low =
      let sum = weigh_columns I g (IsArcOf (length I.items) g) (λ c. entry_in (item_place g i) c.entries) (one_if (carries i)) (λ kind. 0) (λ n kind own. entries_item I g (length I.items) known.sources i low kind own) 1 (numbered g) values arcs in
      let none = weigh_none (numbered g) values in
      omega (arith, ints, sum, none)

  flow_from : IsSolution (program_of_model I g) values → IsFlow I g values
  flow_from is =
      let within = bounds_to I g 1 (numbered g) values is.bounds in
      let long = rows_long I g in
      record {
        size = within.0;
        nodes = λ t v among node.
            let fits = place_fits g t v among node in
            let met : row_sum (program_of_model I g) values (node_place g t v) ≡ pos 0 = is.rows (node_place g t v) (node_row t v) (fits.0, omega (arith, fits.1, long)) (row_node I g t v among node) in
            let sum = node_sum t v among node in
            omega (arith, ints, met, sum);
        demands = λ i among.
            let met : pos (item_at I i).demand ≤ℤ row_sum (program_of_model I g) values (item_place g i) = is.rows (item_place g i) (item_row I i) (omega (arith, among.0), omega (arith, among.1, long)) (row_item I g i among) in
            let sum = item_sum i among.0 in
            omega (arith, ints, met, sum);
        bounds = λ a among.
            let e : a - 1 + 1 ≡ a = omega (arith, among.0) in
            let here : a - 1 < length (numbered g) = omega (arith, among.0, among.1) in
            rw e at ((bounded_at I g values (a - 1) (Bin 0) here (get_or values (a - 1) 0) (upper_of I (get_or (numbered g) (a - 1) (Bin 0))) refl refl).0 (within.1 (a - 1) (Bin 0) here));
      }

  solution_from : IsFlow I g values → IsSolution (program_of_model I g) values
  solution_from is = record {
    bounds = bounds_from I g 1 (numbered g) values (is.size, λ i d within. (bounded_at I g values i d within (get_or values i 0) (upper_of I (get_or (numbered g) i d)) refl refl).1 (is.bounds (i + 1) (omega arith, omega (arith, within))));
    rows = λ r row among at. ⊎_elim
        (λ found.
        let t : ℕ = found.0 in
        let v : ℕ = found.1 in
        let same : node_row t v ≡ row = some_same (node_row t v) row (sym (row_node I g t v found.2 found.3) ∙ ap (λ (k : ℕ). slice_get (model_rows I g) (k - 1)) (sym found.4) ∙ at) in
        let sum = node_sum t v found.2 found.3 in
        let even = is.nodes t v found.2 found.3 in
        let met : row_sum (program_of_model I g) values (node_place g t v) ≡ pos 0 = omega (arith, ints, sum, even) in
        subst (λ (row : Row). Meets row.kind (row_sum (program_of_model I g) values r) row.right) same (ap (row_sum (program_of_model I g) values) found.4 ∙ met))
        (λ found.
        let i : ℕ = found.0 in
        let same : item_row I i ≡ row = some_same (item_row I i) row (sym (row_item I g i found.1) ∙ ap (λ (k : ℕ). slice_get (model_rows I g) (k - 1)) (sym found.2) ∙ at) in
        let sum = item_sum i found.1.0 in
        let served = is.demands i found.1 in
        let met : pos (item_at I i).demand ≤ℤ row_sum (program_of_model I g) values (item_place g i) = omega (arith, ints, sum, served) in
        subst (λ (row : Row). Meets row.kind (row_sum (program_of_model I g) values r) row.right) same (subst (λ (k : ℕ). pos (item_at I i).demand ≤ℤ row_sum (program_of_model I g) values k) (sym found.2) met))
        (row_cases I g r among);
  }

pub solutions_are_flows : SolutionsAreFlows
solutions_are_flows = record {
  solutions = λ I g values instance graph of. (flow_from I g values instance graph of, solution_from I g values instance graph of);
  objective = objective_is;
}

-- The rows of nodes come first: they all hold exactly where the first broken row is none of them.
use Rattle.std.proofs.Common.{◌≡◌, ℕ, ◌+◌, List, [], ◌∷◌, ◌++◌, Option, Some, None, length, map, take, sym, subst, arith, All, length-append, Bool}
use Rattle.std.specs.Prelude.{◌↔◌, IsTrue}
use Rattle.std.proofs.lemmas.List.{take_all, get_or_append_left, get_or-append-add}
use Rattle.std.proofs.lemmas.List.Elements.{All-weaker, All-append, All-nil, All-cons, All-head, All-tail}
use Rattle.packing_laws.specs.Instances.{InstanceValue}
use Rattle.flow_graph.specs.Arcs.{TypeValue, numbered}
use Rattle.flow_model.specs.declared.flows.FlowRow.{FlowRow}
use Rattle.flow_model.specs.declared.flows.FlowRow.TheVariants.{Node, Demand, Bound}
use Rattle.flow_model.specs.Flows.{AreConserved, FirstBadRow, Keeps, all_nodes, nodes_from, up_to}
use Rattle.needs_check.specs.inner.Rows.{names_no_node}
use Rattle.flow_model.proofs.BrokenRows.{each_node_holds, nodes_hold}

-- the row is one of a node
abbrev pub IsNodeRow : FlowRow → Type 0
IsNodeRow (Node t v) = Unit {0}
IsNodeRow (Demand i) = ⊥
IsNodeRow (Bound a) = ⊥

abbrev node_row : ℕ × ℕ → FlowRow
node_row node = Node node.0 node.1

-- a row of another kind than those of nodes
abbrev pub IsOther : FlowRow → Type 0
IsOther row = IsNodeRow row → ⊥

all_left : (P : FlowRow → Type 0) (xs ys : List FlowRow) → All P (xs ++ ys) → All P xs
all_left P xs ys all k d within = subst P (get_or_append_left xs ys d k within) (all k d (let long = length-append xs ys in omega (arith, long, within)))

-- where all of a list hold, so does one in its midst
in_midst : (P : FlowRow → Type 0) (before after : List FlowRow) (row : FlowRow) → All P (before ++ row ∷ after) → P row
in_midst P before after row all = subst P (get_or-append-add before (row ∷ after) 0 row) (all (length before + 0) row (let long = length-append before (row ∷ after) in omega (arith, long)))

all_other : (f : ℕ → FlowRow) → ((k : ℕ) → IsOther (f k)) → (xs : List ℕ) → All IsOther (map f xs)
all_other f other [] = All-nil IsOther
all_other f other (x ∷ xs) = All-cons IsOther (f x) (map f xs) (other x) (all_other f other xs)

module _ (P : FlowRow → Type 0) where
  -- nodes that stand before a broken row of another kind all hold
  passed : (nodes : List (ℕ × ℕ)) (rest before after : List FlowRow) (row : FlowRow) → map node_row nodes ++ rest ≡ before ++ row ∷ after → IsOther row → All P before → All P (map node_row nodes)
  passed [] rest before after row same other all = All-nil P
  passed (node ∷ nodes) rest [] after row same other all =
      let e : node_row node ∷ (map node_row nodes ++ rest) ≡ row ∷ after = same in
      let head : node_row node ≡ row = cc in
      absurd (other (subst IsNodeRow head tt))
  passed (node ∷ nodes) rest (y ∷ before) after row same other all =
      let e : node_row node ∷ (map node_row nodes ++ rest) ≡ y ∷ (before ++ row ∷ after) = same in
      let head : node_row node ≡ y = cc in
      let tail : map node_row nodes ++ rest ≡ before ++ row ∷ after = cc in
      All-cons P (node_row node) (map node_row nodes) (subst P (sym head) (All-head P y before all)) (passed nodes rest before after row tail other (All-tail P y before all))

  -- where all nodes hold, no row of a node is broken before those of other kinds
  stopped : (nodes : List (ℕ × ℕ)) (rest before after : List FlowRow) (row : FlowRow) → map node_row nodes ++ rest ≡ before ++ row ∷ after → IsNodeRow row → All IsOther rest → All P (map node_row nodes) → P row
  stopped nodes rest before after row same own others all =
      let IfNode : FlowRow → Type 0 = λ r. IsNodeRow r → P r in
      let front : All IfNode (map node_row nodes) = All-weaker P IfNode (λ r held _. held) (map node_row nodes) all in
      let back : All IfNode rest = All-weaker IsOther IfNode (λ r other is. absurd (other is)) rest others in
      in_midst IfNode before after row (subst (All IfNode) same (All-append IfNode (map node_row nodes) rest front back)) own

module _ (I : InstanceValue) (g : List TypeValue) (values : List ℕ) where
  abbrev rest : List FlowRow
  rest = map (λ i. Demand i) (up_to (length I.items)) ++ map (λ a. Bound a) (up_to (length (numbered g)))

  abbrev Kept : FlowRow → Type 0
  Kept row = Keeps I g values row

  from_rows : All Kept (map node_row (all_nodes g)) → AreConserved g values
  from_rows all t v among node = each_node_holds Kept g all t v among node

  to_rows : AreConserved g values → All Kept (map node_row (all_nodes g))
  to_rows conserved =
      let each = nodes_hold Kept g conserved (length g) (omega arith) in
      let whole : take (length g) g ≡ g = take_all (length g) g (omega arith) in
      subst (λ (h : List TypeValue). All Kept (map node_row (nodes_from 1 h))) whole each

  rest_other : All IsOther rest
  rest_other = All-append IsOther (map (λ i. Demand i) (up_to (length I.items))) (map (λ a. Bound a) (up_to (length (numbered g)))) (all_other (λ i. Demand i) (λ k is. is) (up_to (length I.items))) (all_other (λ a. Bound a) (λ k is. is) (up_to (length (numbered g))))

  -- the first broken row is one of a node exactly where some node is not conserved
  pub broken_at_node : (t v : ℕ) → FirstBadRow I g values (Some (Node t v)) → AreConserved g values → ⊥
  broken_at_node t v broken conserved = broken.4 (stopped Kept (all_nodes g) rest broken.0 broken.1 (Node t v) broken.2 tt rest_other (to_rows conserved))

  pub broken_nowhere : FirstBadRow I g values None → AreConserved g values
  broken_nowhere all = from_rows (all_left Kept (map node_row (all_nodes g)) rest all)

  pub broken_elsewhere : (row : FlowRow) → IsOther row → FirstBadRow I g values (Some row) → AreConserved g values
  broken_elsewhere row other broken = from_rows (passed Kept (all_nodes g) rest broken.0 broken.1 row broken.2 other broken.3)

  -- the first broken row is none of a node exactly where all nodes are conserved
  pub conserved_where : (bad : Option FlowRow) (b : Bool) → b ≡ names_no_node bad → FirstBadRow I g values bad → IsTrue b ↔ AreConserved g values
  conserved_where None b same first = (λ _. broken_nowhere first, λ _. same)
  conserved_where (Some (Node t v)) b same first = (λ is. cc, λ conserved. absurd (broken_at_node t v first conserved))
  conserved_where (Some (Demand i)) b same first = (λ _. broken_elsewhere (Demand i) (λ is. is) first, λ _. same)
  conserved_where (Some (Bound a)) b same first = (λ _. broken_elsewhere (Bound a) (λ is. is) first, λ _. same)

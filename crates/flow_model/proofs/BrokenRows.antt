-- The first row that does not hold, and the rows of the model one after the other.
use Rattle.std.proofs.Common.{◌≡◌, ℕ, zero, suc, ◌+◌, ◌-◌, ◌<◌, ◌≤◌, List, [], ◌∷◌, ◌++◌, length, map, get_or, take, drop, refl, sym, ap, ◌∙◌, subst, ⊎_elim, arith, All, append_assoc, append-nil, length-append, None, Some, Option}
use Rattle.std.specs.Prelude.{◌↔◌, IsNone}
use Rattle.std.proofs.lemmas.Bool.{cases_eq}
use Rattle.std.proofs.lemmas.List.{map-append, length-map, take-append-drop, take_all, get_or_append_left, get_or-append-add, get_or_default}
use Rattle.std.proofs.lemmas.List.Elements.{All-append, All-nil, All-push, All-head}
use Rattle.packing_laws.specs.Instances.{InstanceValue, IsAmong, item_at}
use Rattle.flow_graph.specs.Arcs.{TypeValue, flow_type, numbered}
use Rattle.flow_graph.specs.declared.parts.ArcKind.{ArcKind}
use Rattle.flow_graph.specs.Chords.{range_at}
use Rattle.flow_model.specs.declared.flows.FlowRow.{FlowRow}
use Rattle.flow_model.specs.declared.flows.FlowRow.TheVariants.{Node, Demand, Bound}
use Rattle.flow_model.specs.Boxes.{root_range, root_ranges, upper_of}
use Rattle.flow_graph.specs.Ends.{comes_in, goes_out}
use Rattle.flow_model.specs.Flows.{up_to, nodes_from, all_nodes, flow_rows, Keeps, FirstBroken, FirstBadRow, IsFlow, IsConserved, IsServed, IsBounded, total_of, carries}
use Rattle.flow_model.specs.Models.{node_place}
use Rattle.flow_model.specs.Tallies.{TallyValue, IsTallyOf}
use Rattle.flow_model.specs.inner.Sums.{IsFilled}
use Rattle.flow_model.proofs.RowLists.{map-map, nodes_from-append, nodes_from_more}

pub All_left : {X : Type 0} (P : X → Type 0) (xs ys : List X) → All P (xs ++ ys) → All P xs
All_left P xs ys all k d within = subst P (get_or_append_left xs ys d k within) (all k d (let long = length-append xs ys in omega (arith, long, within)))

pub All_right : {X : Type 0} (P : X → Type 0) (xs ys : List X) → All P (xs ++ ys) → All P ys
All_right P xs ys all k d within = subst P (get_or-append-add xs ys k d) (all (length xs + k) d (let long = length-append xs ys in omega (arith, long, within)))

-- the numbers up to n are those up to a smaller one, the next, and others
pub up_to_split : (n v : ℕ) → v < n → (rest : List ℕ) × (up_to n ≡ up_to v ++ suc v ∷ rest)
up_to_split zero v within = absurd (omega (arith, within))
up_to_split (suc n) v within = ⊎_elim
    (λ same. ([], λ k. up_to (sym same k) ++ suc (sym same k) ∷ []))
    (λ other.
    let front = up_to_split n v (omega (arith, within, other)) in
    (front.0 ++ suc n ∷ [], ap (λ xs. xs ++ suc n ∷ []) front.1 ∙ append_assoc (up_to v) (suc v ∷ front.0) (suc n ∷ [])))
    (cases_eq v n)

module _ (P : FlowRow → Type 0) where
  -- each of the first n holds
  pub all_hold : (f : ℕ → FlowRow) (n : ℕ) → ((k : ℕ) → IsAmong k n → P (f k)) → All P (map f (up_to n))
  all_hold f zero each = All-nil P
  all_hold f (suc n) each = subst (All P) (sym (map-append f (up_to n) (suc n ∷ []))) (All-push P (map f (up_to n)) (f (suc n)) (all_hold f n (λ k among. each k (among.0, omega (arith, among.1)))) (each (suc n) (omega arith, omega arith)))

  pub each_holds : (f : ℕ → FlowRow) (n : ℕ) → All P (map f (up_to n)) → (k : ℕ) → IsAmong k n → P (f k)
  each_holds f zero all k among = absurd (omega (arith, among.0, among.1))
  each_holds f (suc n) all k among =
      let parts : All P (map f (up_to n) ++ f (suc n) ∷ []) = subst (All P) (map-append f (up_to n) (suc n ∷ [])) all in
      ⊎_elim
      (λ same. subst (λ (m : ℕ). P (f m)) (sym same) (All-head P (f (suc n)) [] (All_right P (map f (up_to n)) (f (suc n) ∷ []) parts)))
      (λ other. each_holds f n (All_left P (map f (up_to n)) (f (suc n) ∷ []) parts) k (among.0, omega (arith, among.1, other)))
      (cases_eq k (suc n))

  -- the first v hold, and the next does not
  pub next_broken : (f : ℕ → FlowRow) (n v : ℕ) → v < n → ((k : ℕ) → IsAmong k v → P (f k)) → (P (f (v + 1)) → ⊥) → FirstBroken P (map f (up_to n)) (Some (f (v + 1)))
  next_broken f n v within each broken =
      let split = up_to_split n v within in
      let e : suc v ≡ v + 1 = omega arith in
      (map f (up_to v), map f split.0, ap (map f) split.1 ∙ map-append f (up_to v) (suc v ∷ split.0) ∙ ap (λ (m : ℕ). map f (up_to v) ++ f m ∷ map f split.0) e, all_hold f v each, broken)

  -- where those before hold, the first broken one of a part is that of the whole
  pub broken_within : (xs ys zs : List FlowRow) (row : FlowRow) → All P xs → FirstBroken P ys (Some row) → FirstBroken P (xs ++ (ys ++ zs)) (Some row)
  broken_within xs ys zs row all broken =
      let before : List FlowRow = broken.0 in
      let after : List FlowRow = broken.1 in
      (xs ++ before, after ++ zs, ap (λ ws. xs ++ (ws ++ zs)) broken.2 ∙ ap (λ ws. xs ++ ws) (append_assoc before (row ∷ after) zs) ∙ sym (append_assoc xs before (row ∷ (after ++ zs))), All-append P xs before all broken.3, broken.4)

  pub broken_first : (ys zs : List FlowRow) (row : FlowRow) → FirstBroken P ys (Some row) → FirstBroken P (ys ++ zs) (Some row)
  broken_first ys zs row broken = broken_within [] ys zs row (All-nil P) broken

abbrev pub node_row : ℕ × ℕ → FlowRow
node_row node = Node node.0 node.1

-- the rows of the nodes of one more type
pub node_rows_step : (g : List TypeValue) (t : ℕ) → t < length g → map node_row (nodes_from 1 (take (t + 1) g)) ≡ map node_row (nodes_from 1 (take t g)) ++ map (λ v. Node (t + 1) v) (up_to (flow_type g (t + 1)).nodes)
node_rows_step g t within = ap (map node_row) (nodes_from_more g t within) ∙ map-append node_row (nodes_from 1 (take t g)) (map (λ v. (t + 1, v)) (up_to (flow_type g (t + 1)).nodes)) ∙ ap (λ zs. map node_row (nodes_from 1 (take t g)) ++ zs) (map-map node_row (λ v. (t + 1, v)) (up_to (flow_type g (t + 1)).nodes))

-- the rows of the nodes of all types, with one type and the types after it apart
pub node_rows_split : (g : List TypeValue) (t : ℕ) → t < length g → (rest : List FlowRow) × (map node_row (all_nodes g) ≡ map node_row (nodes_from 1 (take t g)) ++ (map (λ v. Node (t + 1) v) (up_to (flow_type g (t + 1)).nodes) ++ rest))
node_rows_split g t within =
    let front : List FlowRow = map node_row (nodes_from 1 (take t g)) in
    let own : List FlowRow = map (λ v. Node (t + 1) v) (up_to (flow_type g (t + 1)).nodes) in
    let after : List (ℕ × ℕ) = nodes_from (1 + length (take (t + 1) g)) (drop (t + 1) g) in
    let whole : all_nodes g ≡ nodes_from 1 (take (t + 1) g) ++ after = ap (nodes_from 1) (sym (take-append-drop (t + 1) g)) ∙ nodes_from-append 1 (take (t + 1) g) (drop (t + 1) g) in
    (map node_row after, ap (map node_row) whole ∙ map-append node_row (nodes_from 1 (take (t + 1) g)) after ∙ ap (λ zs. zs ++ map node_row after) (node_rows_step g t within) ∙ append_assoc front own (map node_row after))

pub node_broken : (P : FlowRow → Type 0) (g : List TypeValue) (t : ℕ) (row : FlowRow) → t < length g → All P (map node_row (nodes_from 1 (take t g))) → FirstBroken P (map (λ v. Node (t + 1) v) (up_to (flow_type g (t + 1)).nodes)) (Some row) → FirstBroken P (map node_row (all_nodes g)) (Some row)
node_broken P g t row within all broken =
    let split = node_rows_split g t within in
    subst (λ (rows : List FlowRow). FirstBroken P rows (Some row)) (sym split.1) (broken_within P (map node_row (nodes_from 1 (take t g))) (map (λ v. Node (t + 1) v) (up_to (flow_type g (t + 1)).nodes)) split.0 row all broken)

pub nodes_hold_more : (P : FlowRow → Type 0) (g : List TypeValue) (t : ℕ) → t < length g → All P (map node_row (nodes_from 1 (take t g))) → All P (map (λ v. Node (t + 1) v) (up_to (flow_type g (t + 1)).nodes)) → All P (map node_row (nodes_from 1 (take (t + 1) g)))
nodes_hold_more P g t within all own = subst (All P) (sym (node_rows_step g t within)) (All-append P (map node_row (nodes_from 1 (take t g))) (map (λ v. Node (t + 1) v) (up_to (flow_type g (t + 1)).nodes)) all own)

-- all rows of nodes hold exactly where the row of each node does
pub nodes_hold : (P : FlowRow → Type 0) (g : List TypeValue) → ((t v : ℕ) → IsAmong t (length g) → IsAmong v (flow_type g t).nodes → P (Node t v)) → (n : ℕ) → n ≤ length g → All P (map node_row (nodes_from 1 (take n g)))
nodes_hold P g each zero within = All-nil P
nodes_hold P g each (suc n) within =
    let e : n + 1 ≡ suc n = omega arith in
    rw e at (nodes_hold_more P g n (omega (arith, within)) (nodes_hold P g each n (omega (arith, within))) (all_hold P (λ v. Node (n + 1) v) (flow_type g (n + 1)).nodes (λ v among. each (n + 1) v (omega arith, omega (arith, within)) among)))

pub each_node_holds : (P : FlowRow → Type 0) (g : List TypeValue) → All P (map node_row (all_nodes g)) → (t v : ℕ) → IsAmong t (length g) → IsAmong v (flow_type g t).nodes → P (Node t v)
each_node_holds P g all t v among node =
    let e : t - 1 + 1 ≡ t = omega (arith, among.0) in
    let split = node_rows_split g (t - 1) (omega (arith, among.0, among.1)) in
    let front : List FlowRow = map node_row (nodes_from 1 (take (t - 1) g)) in
    let own : List FlowRow = map (λ v. Node (t - 1 + 1) v) (up_to (flow_type g (t - 1 + 1)).nodes) in
    let there : All P own = All_left P own split.0 (All_right P front (own ++ split.0) (subst (All P) split.1 all)) in
    let here : All P (map (λ v. Node t v) (up_to (flow_type g t).nodes)) = subst (λ (s : ℕ). All P (map (λ v. Node s v) (up_to (flow_type g s).nodes))) e there in
    each_holds P (λ v. Node t v) (flow_type g t).nodes here v node

-- the range of an arc in the root box
pub range_is : (I : InstanceValue) (g : List TypeValue) (i : ℕ) (d : ArcKind) → i < length (numbered g) → range_at (root_ranges I g) (i + 1) ≡ (0, upper_of I (get_or (numbered g) i d))
range_is I g i d within =
    let e : i + 1 - 1 ≡ i = omega arith in
    let long = length-map (numbered g) (root_range I) in
    rw e (get_or_default (root_ranges I g) i (0, 0) (root_range I d) (omega (arith, within, long)) ∙ mapped (numbered g) i) where
      mapped : (kinds : List ArcKind) (i : ℕ) → get_or (map (root_range I) kinds) i (root_range I d) ≡ root_range I (get_or kinds i d)
      mapped [] i = refl
      mapped (kind ∷ kinds) zero = refl
      mapped (kind ∷ kinds) (suc i) = mapped kinds i

-- one number more
pub each_more : (P : ℕ → Type 0) (n : ℕ) → ((k : ℕ) → IsAmong k n → P k) → P (n + 1) → (k : ℕ) → IsAmong k (n + 1) → P k
each_more P n each last k among = ⊎_elim
    (λ same. subst P (sym same) last)
    (λ other. each k (among.0, omega (arith, among.1, other)))
    (cases_eq k (n + 1))

pub none_among : (P : ℕ → Type 0) (k : ℕ) → IsAmong k 0 → P k
none_among P k among = absurd (omega (arith, among.0, among.1))

module _ (I : InstanceValue) (g : List TypeValue) (values : List ℕ) where
  abbrev Kept : FlowRow → Type 0
  Kept row = Keeps I g values row

  abbrev nodes : List FlowRow
  nodes = map node_row (all_nodes g)

  abbrev demands : List FlowRow
  demands = map (λ i. Demand i) (up_to (length I.items))

  abbrev bounds : List FlowRow
  bounds = map (λ a. Bound a) (up_to (length (numbered g)))

  pub bad_at_node : (row : FlowRow) → FirstBroken Kept nodes (Some row) → FirstBadRow I g values (Some row)
  bad_at_node row broken = broken_first Kept nodes (demands ++ bounds) row broken

  pub bad_at_demand : (row : FlowRow) → All Kept nodes → FirstBroken Kept demands (Some row) → FirstBadRow I g values (Some row)
  bad_at_demand row all broken = broken_within Kept nodes demands bounds row all broken

  pub bad_at_bound : (bad : Option FlowRow) → All Kept nodes → All Kept demands → FirstBroken Kept bounds bad → FirstBadRow I g values bad
  bad_at_bound None all both last = All-append Kept nodes (demands ++ bounds) all (All-append Kept demands bounds both last)
  bad_at_bound (Some row) all both last =
      let end : bounds ++ [] ≡ bounds = append-nil bounds in
      let joined : FirstBroken Kept (demands ++ bounds) (Some row) = subst (λ (rows : List FlowRow). FirstBroken Kept (demands ++ rows) (Some row)) end (broken_within Kept demands bounds [] row both last) in
      let tail : FirstBroken Kept (nodes ++ (demands ++ bounds ++ [])) (Some row) = broken_within Kept nodes (demands ++ bounds) [] row all joined in
      subst (λ (rows : List FlowRow). FirstBroken Kept (nodes ++ rows) (Some row)) (append-nil (demands ++ bounds)) tail

  pub rows_hold : IsFlow I g values → All Kept (flow_rows I g)
  rows_hold is =
      let each = nodes_hold Kept g is.nodes (length g) (omega arith) in
      let whole : take (length g) g ≡ g = take_all (length g) g (omega arith) in
      All-append Kept nodes (demands ++ bounds) (subst (λ (h : List TypeValue). All Kept (map node_row (nodes_from 1 h))) whole each) (All-append Kept demands bounds (all_hold Kept (λ i. Demand i) (length I.items) is.demands) (all_hold Kept (λ a. Bound a) (length (numbered g)) is.bounds))

  pub flow_from_rows : length values ≡ length (numbered g) → All Kept (flow_rows I g) → IsFlow I g values
  flow_from_rows size all =
      let others : All Kept (demands ++ bounds) = All_right Kept nodes (demands ++ bounds) all in
      record {
        size = size;
        nodes = each_node_holds Kept g (All_left Kept nodes (demands ++ bounds) all);
        demands = each_holds Kept (λ i. Demand i) (length I.items) (All_left Kept demands bounds others);
        bounds = each_holds Kept (λ a. Bound a) (length (numbered g)) (All_right Kept demands bounds others);
      }

  pub answered : (bad : Option FlowRow) → length values ≡ length (numbered g) → FirstBadRow I g values bad → IsNone bad ↔ IsFlow I g values
  answered None size all = (λ _. flow_from_rows size all, λ _. refl)
  answered (Some row) size broken = (λ none. cc, λ is. absurd (broken.4 (All-head Kept row broken.1 (All_right Kept broken.0 (row ∷ broken.1) (subst (All Kept) broken.2 (rows_hold is))))))

  -- the sums of a tally at the place of a node
  pub conserved_at : (tally : TallyValue) → IsTallyOf g tally → IsFilled I g values tally → (t i start inflow outflow : ℕ) → IsAmong t (length g) → i < (flow_type g t).nodes → start ≡ get_or tally.starts (t - 1) 0 → inflow ≡ get_or tally.inflow (start + i) 0 → outflow ≡ get_or tally.outflow (start + i) 0 → (inflow ≡ outflow) ↔ IsConserved g values t (i + 1)
  conserved_at tally room is t i start inflow outflow among node begin coming going =
      let first = room.starts.each (t - 1) (omega (arith, among.0, among.1)) in
      let at : node_place g t (i + 1) - 1 ≡ start + i = omega (arith, first, begin) in
      let here : IsAmong (i + 1) (flow_type g t).nodes = (omega arith, omega (arith, node)) in
      let one : inflow ≡ total_of (comes_in t (i + 1)) g values = coming ∙ ap (λ (k : ℕ). get_or tally.inflow k 0) (sym at) ∙ is.inflow t (i + 1) among here in
      let two : outflow ≡ total_of (goes_out g t (i + 1)) g values = going ∙ ap (λ (k : ℕ). get_or tally.outflow k 0) (sym at) ∙ is.outflow t (i + 1) among here in
      (λ same. sym one ∙ same ∙ two, λ same. one ∙ same ∙ sym two)

  pub served_at : (tally : TallyValue) → IsFilled I g values tally → (i : ℕ) → i < length I.items → (carried demand : ℕ) → carried ≡ get_or tally.items i 0 → demand ≡ (item_at I (i + 1)).demand → (demand ≤ carried) ↔ IsServed I g values (i + 1)
  served_at tally is i within carried demand sum asked =
      let e : i + 1 - 1 ≡ i = omega arith in
      let whole : carried ≡ total_of (carries (i + 1)) g values = sum ∙ rw e at (is.items (i + 1) (omega arith, omega (arith, within))) in
      (λ low. omega (arith, low, whole, asked), λ low. omega (arith, low, whole, asked))

  pub bounded_at : (i : ℕ) (d : ArcKind) → i < length (numbered g) → (x upper : ℕ) → x ≡ get_or values i 0 → upper ≡ upper_of I (get_or (numbered g) i d) → (x ≤ upper) ↔ IsBounded I g values (i + 1)
  bounded_at i d within x upper value most =
      let e : i + 1 - 1 ≡ i = omega arith in
      let range = range_is I g i d within in
      let low : (range_at (root_ranges I g) (i + 1)).0 ≡ 0 = ap (λ (r : ℕ × ℕ). r.0) range in
      let high : (range_at (root_ranges I g) (i + 1)).1 ≡ upper_of I (get_or (numbered g) i d) = ap (λ (r : ℕ × ℕ). r.1) range in
      let same : get_or values (i + 1 - 1) 0 ≡ x = ap (λ (k : ℕ). get_or values k 0) e ∙ sym value in
      (λ small. (omega (arith, low), omega (arith, high, same, small, most)), λ own. omega (arith, own.1, high, same, most))

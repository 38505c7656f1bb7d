-- The first row that does not hold, and the rows of a joint graph one after the other.
use Rattle.std.proofs.Common.{◌≡◌, ℕ, zero, suc, ◌+◌, ◌-◌, ◌<◌, ◌≤◌, List, [], ◌∷◌, ◌++◌, length, map, get_or, refl, sym, ap, ◌∙◌, subst, ⊎_elim, arith, All, append_assoc, append-nil, None, Some, Option}
use Rattle.std.specs.Prelude.{◌↔◌, IsNone}
use Rattle.std.proofs.lemmas.Bool.{cases_eq}
use Rattle.std.proofs.lemmas.List.{map-append, length-map, get_or_default}
use Rattle.std.proofs.lemmas.List.Elements.{All-append, All-nil, All-push, All-head}
use Rattle.packing_laws.specs.Instances.{InstanceValue, IsAmong}
use Rattle.flow_graph.specs.declared.parts.ArcKind.{ArcKind}
use Rattle.flow_graph.specs.Chords.{range_at}
use Rattle.flow_model.specs.Boxes.{root_range, upper_of}
use Rattle.flow_model.specs.Flows.{up_to}
use Rattle.flow_model.proofs.BrokenRows.{All_left, All_right, up_to_split}
use Rattle.joint_arcs.specs.Joined.{JointValue, node_count, numbered}
use Rattle.joint_arcs.specs.Flows.{IsBounded, IsFlow, root_ranges}
use Rattle.joint_flows.specs.declared.rows.JointRow.{JointRow}
use Rattle.joint_flows.specs.declared.rows.JointRow.TheVariants.{Node, Demand, Bound}
use Rattle.joint_flows.specs.JointRows.{flow_rows, Keeps, FirstBroken, FirstBadRow, NoBadRowIsFlow}

-- each of the first n holds
pub all_hold : {X : Type 0} (P : X → Type 0) (f : ℕ → X) (n : ℕ) → ((k : ℕ) → IsAmong k n → P (f k)) → All P (map f (up_to n))
all_hold P f zero each = All-nil P
all_hold P f (suc n) each = subst (All P) (sym (map-append f (up_to n) (suc n ∷ []))) (All-push P (map f (up_to n)) (f (suc n)) (all_hold P f n (λ k among. each k (among.0, omega (arith, among.1)))) (each (suc n) (omega arith, omega arith)))

pub each_holds : {X : Type 0} (P : X → Type 0) (f : ℕ → X) (n : ℕ) → All P (map f (up_to n)) → (k : ℕ) → IsAmong k n → P (f k)
each_holds P f zero all k among = absurd (omega (arith, among.0, among.1))
each_holds P f (suc n) all k among =
    let parts : All P (map f (up_to n) ++ f (suc n) ∷ []) = subst (All P) (map-append f (up_to n) (suc n ∷ [])) all in
    ⊎_elim
    (λ same. subst (λ (m : ℕ). P (f m)) (sym same) (All-head P (f (suc n)) [] (All_right P (map f (up_to n)) (f (suc n) ∷ []) parts)))
    (λ other. each_holds P f n (All_left P (map f (up_to n)) (f (suc n) ∷ []) parts) k (among.0, omega (arith, among.1, other)))
    (cases_eq k (suc n))

module _ (P : JointRow → Type 0) where
  -- the first v hold, and the next does not
  pub next_broken : (f : ℕ → JointRow) (n v : ℕ) → v < n → ((k : ℕ) → IsAmong k v → P (f k)) → (P (f (v + 1)) → ⊥) → FirstBroken P (map f (up_to n)) (Some (f (v + 1)))
  next_broken f n v within each broken =
      let split = up_to_split n v within in
      let e : suc v ≡ v + 1 = omega arith in
      (map f (up_to v), map f split.0, ap (map f) split.1 ∙ map-append f (up_to v) (suc v ∷ split.0) ∙ ap (λ (m : ℕ). map f (up_to v) ++ f m ∷ map f split.0) e, all_hold P f v each, broken)

  -- where those before hold, the first broken one of a part is that of the whole
  pub broken_within : (xs ys zs : List JointRow) (row : JointRow) → All P xs → FirstBroken P ys (Some row) → FirstBroken P (xs ++ (ys ++ zs)) (Some row)
  broken_within xs ys zs row all broken =
      let before : List JointRow = broken.0 in
      let after : List JointRow = broken.1 in
      (xs ++ before, after ++ zs, ap (λ ws. xs ++ (ws ++ zs)) broken.2 ∙ ap (λ ws. xs ++ ws) (append_assoc before (row ∷ after) zs) ∙ sym (append_assoc xs before (row ∷ (after ++ zs))), All-append P xs before all broken.3, broken.4)

-- the range of an arc in the root box
pub range_is : (I : InstanceValue) (kinds : List ArcKind) (i : ℕ) (d : ArcKind) → i < length kinds → range_at (map (root_range I) kinds) (i + 1) ≡ (0, upper_of I (get_or kinds i d))
range_is I kinds i d within =
    let e : i + 1 - 1 ≡ i = omega arith in
    let long = length-map kinds (root_range I) in
    rw e (get_or_default (map (root_range I) kinds) i (0, 0) (root_range I d) (omega (arith, within, long)) ∙ mapped kinds i) where
      mapped : (kinds : List ArcKind) (i : ℕ) → get_or (map (root_range I) kinds) i (root_range I d) ≡ root_range I (get_or kinds i d)
      mapped [] i = refl
      mapped (kind ∷ kinds) zero = refl
      mapped (kind ∷ kinds) (suc i) = mapped kinds i

module _ (I : InstanceValue) (g : JointValue) (values : List ℕ) where
  abbrev Kept : JointRow → Type 0
  Kept row = Keeps I g values row

  abbrev nodes : List JointRow
  nodes = map (λ v. Node v) (up_to (node_count g))

  abbrev demands : List JointRow
  demands = map (λ i. Demand i) (up_to (length I.items))

  abbrev bounds : List JointRow
  bounds = map (λ a. Bound a) (up_to (length (numbered g)))

  pub bad_at_node : (row : JointRow) → FirstBroken Kept nodes (Some row) → FirstBadRow I g values (Some row)
  bad_at_node row broken = broken_within Kept [] nodes (demands ++ bounds) row (All-nil Kept) broken

  pub bad_at_demand : (row : JointRow) → All Kept nodes → FirstBroken Kept demands (Some row) → FirstBadRow I g values (Some row)
  bad_at_demand row all broken = broken_within Kept nodes demands bounds row all broken

  pub bad_at_bound : (bad : Option JointRow) → All Kept nodes → All Kept demands → FirstBroken Kept bounds bad → FirstBadRow I g values bad
  bad_at_bound None all both last = All-append Kept nodes (demands ++ bounds) all (All-append Kept demands bounds both last)
  bad_at_bound (Some row) all both last =
      let end : bounds ++ [] ≡ bounds = append-nil bounds in
      let joined : FirstBroken Kept (demands ++ bounds) (Some row) = subst (λ (rows : List JointRow). FirstBroken Kept (demands ++ rows) (Some row)) end (broken_within Kept demands bounds [] row both last) in
      let tail : FirstBroken Kept (nodes ++ (demands ++ bounds ++ [])) (Some row) = broken_within Kept nodes (demands ++ bounds) [] row all joined in
      subst (λ (rows : List JointRow). FirstBroken Kept (nodes ++ rows) (Some row)) (append-nil (demands ++ bounds)) tail

  pub rows_hold : IsFlow I g values → All Kept (flow_rows I g)
  rows_hold is =
      All-append Kept nodes (demands ++ bounds) (all_hold Kept (λ v. Node v) (node_count g) is.nodes)
      (All-append Kept demands bounds (all_hold Kept (λ i. Demand i) (length I.items) is.demands) (all_hold Kept (λ a. Bound a) (length (numbered g)) is.bounds))

  pub flow_from_rows : length values ≡ length (numbered g) → All Kept (flow_rows I g) → IsFlow I g values
  flow_from_rows size all =
      let others : All Kept (demands ++ bounds) = All_right Kept nodes (demands ++ bounds) all in
      record {
        size = size;
        nodes = each_holds Kept (λ v. Node v) (node_count g) (All_left Kept nodes (demands ++ bounds) all);
        demands = each_holds Kept (λ i. Demand i) (length I.items) (All_left Kept demands bounds others);
        bounds = each_holds Kept (λ a. Bound a) (length (numbered g)) (All_right Kept demands bounds others);
      }

  pub answered : (bad : Option JointRow) → length values ≡ length (numbered g) → FirstBadRow I g values bad → IsNone bad ↔ IsFlow I g values
  answered None size all = (λ _. flow_from_rows size all, λ _. refl)
  answered (Some row) size broken = (λ none. cc, λ is. absurd (broken.4 (All-head Kept row broken.1 (All_right Kept broken.0 (row ∷ broken.1) (subst (All Kept) broken.2 (rows_hold is))))))

  pub bounded_at : (i : ℕ) (d : ArcKind) → i < length (numbered g) → (x upper : ℕ) → x ≡ get_or values i 0 → upper ≡ upper_of I (get_or (numbered g) i d) → (x ≤ upper) ↔ IsBounded I g values (i + 1)
  bounded_at i d within x upper value most =
      let e : i + 1 - 1 ≡ i = omega arith in
      let range = range_is I (numbered g) i d within in
      let low : (range_at (root_ranges I g) (i + 1)).0 ≡ 0 = ap (λ (r : ℕ × ℕ). r.0) range in
      let high : (range_at (root_ranges I g) (i + 1)).1 ≡ upper_of I (get_or (numbered g) i d) = ap (λ (r : ℕ × ℕ). r.1) range in
      let same : get_or values (i + 1 - 1) 0 ≡ x = ap (λ (k : ℕ). get_or values k 0) e ∙ sym value in
      (λ small. (omega (arith, low), omega (arith, high, same, small, most)), λ own. omega (arith, own.1, high, same, most))

pub no_bad_row_is_flow : NoBadRowIsFlow
no_bad_row_is_flow = record {
  flow = λ I g values size all. flow_from_rows I g values size all;
  none = λ I g values is. rows_hold I g values is;
}

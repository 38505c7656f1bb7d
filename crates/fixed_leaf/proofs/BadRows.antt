-- Of balanced values within the root box only a demand can be violated.
use Rattle.std.proofs.Common.{◌≡◌, ◌⊎◌, ℕ, suc, ◌+◌, ◌-◌, ◌<◌, ◌≤◌, Bool, true, false, cond, List, [], ◌∷◌, ◌++◌, length, map, take, get_or, refl, sym, ap, ◌∙◌, subst, inl, inr, ⊎_elim, arith, length-append, All, Some, None, ℤ, pos, negsuc, ◌≤ℤ◌}
use Rattle.std.specs.Prelude.{unsigned_abs}
use Rattle.std.proofs.lemmas.Int.{ints}
use Rattle.std.proofs.lemmas.Bool.{cases_lt}
use Rattle.std.proofs.lemmas.List.{get_or-append-add, get_or-map, length-map, take_all}
use Rattle.std.proofs.lemmas.List.Elements.{All-append, All-head}
use Rattle.packing_laws.specs.Instances.{InstanceValue, IsAmong, item_at}
use Rattle.flow_graph.specs.declared.parts.ArcKind.{ArcKind}
use Rattle.flow_graph.specs.Arcs.{TypeValue, numbered}
use Rattle.flow_graph.specs.Balance.{AreBalanced, signed_total, value_of, weigh_signed}
use Rattle.flow_graph.specs.Chords.{range_at}
use Rattle.flow_model.specs.declared.flows.FlowRow.{FlowRow}
use Rattle.flow_model.specs.declared.flows.FlowRow.TheVariants.{Bound, Demand, Node}
use Rattle.flow_model.specs.Boxes.{LiesWithin, root_range, root_ranges}
use Rattle.flow_model.specs.Flows.{AreConserved, FirstBadRow, IsBounded, IsServed, Keeps, all_nodes, carries, flow_rows, nodes_from, total_of, up_to}
use Rattle.flow_model.proofs.BrokenRows.{all_hold, nodes_hold}
use Rattle.flow_model.proofs.SignedFlows.{conserved_is_balanced}
use Rattle.cert_laws.proofs.PricedFlows.{weigh_natural}
use Rattle.fixed_leaf.specs.declared.faults.Fault.{Fault}
use Rattle.fixed_leaf.specs.inner.Found.{IsDemand, IsFault, unmet_by}
use Rattle.fixed_leaf.specs.inner.Priced.{IsRangeFault}

All_right : {X : Type 0} (P : X → Type 0) (xs ys : List X) → All P (xs ++ ys) → All P ys
All_right P xs ys all k d within = subst P (get_or-append-add xs ys k d) (all (length xs + k) d (let long = length-append xs ys in omega (arith, long, within)))

whole_is : (x : ℤ) → pos 0 ≤ℤ x → pos (unsigned_abs x) ≡ x
whole_is (pos n) low = refl
whole_is (negsuc n) low = absurd (omega (arith, ints, low))

-- numbers that are not negative
naturals_are : (xs : List ℤ) → ((k : ℕ) → k < length xs → pos 0 ≤ℤ get_or xs k (pos 0)) → map pos (map unsigned_abs xs) ≡ xs
naturals_are [] low = refl
naturals_are (x ∷ xs) low = λ i. whole_is x (low 0 (omega arith)) i ∷ naturals_are xs (λ k within. low (suc k) (omega (arith, within))) i

push_pos : (b : Bool) → cond b (pos 1) (pos 0) ≡ pos (cond b 1 0)
push_pos true = refl
push_pos false = refl

-- what natural values are together, as signed numbers
pub total_is : (test : ArcKind → Bool) (g : List TypeValue) (naturals : List ℕ) → signed_total test g (map pos naturals) ≡ pos (total_of test g naturals)
total_is test g naturals = (λ k. weigh_signed (λ kind. push_pos (test kind) k) (numbered g) (map pos naturals)) ∙ weigh_natural (λ kind. cond (test kind) 1 0) (numbered g) naturals

module _ (I : InstanceValue) (g : List TypeValue) (box : List (ℕ × ℕ)) (values : List ℤ) (within : LiesWithin box (root_ranges I g)) (size : length values ≡ length (numbered g)) (balanced : AreBalanced g values) (ranges : IsRangeFault box values None) where
  abbrev pub naturals : List ℕ
  naturals = map unsigned_abs values

  pub same : map pos naturals ≡ values
  same = naturals_are values (λ k inside.
      let range = ranges (suc k) (omega arith, omega (arith, inside)) in
      let place : suc k - 1 ≡ k = omega arith in
      let read : value_of values (suc k) ≡ get_or values k (pos 0) = ap (λ (m : ℕ). get_or values m (pos 0)) place in
      let low = range.0 in
      omega (arith, ints, low, read))

  pub long : length naturals ≡ length (numbered g)
  long = length-map values unsigned_abs ∙ size

  conserved : AreConserved g naturals
  conserved = conserved_is_balanced.whole g naturals (subst (AreBalanced g) (sym same) balanced)

  natural_at : (a : ℕ) → IsAmong a (length (numbered g)) → value_of values a ≡ pos (get_or naturals (a - 1) 0)
  natural_at a among =
      let read : value_of (map pos naturals) a ≡ pos (get_or naturals (a - 1) 0) = get_or-map (λ (n : ℕ). pos n) naturals (a - 1) 0 (pos 0) (let count = long in omega (arith, among.0, among.1, count)) in
      ap (λ (xs : List ℤ). value_of xs a) (sym same) ∙ read

  pub in_box : (a : ℕ) → IsAmong a (length (numbered g)) → ((range_at box a).0 ≤ get_or naturals (a - 1) 0) × (get_or naturals (a - 1) 0 ≤ (range_at box a).1)
  in_box a among =
      let range = ranges a (among.0, omega (arith, among.1, size)) in
      let value = natural_at a among in
      let low = range.0 in
      let high = range.1 in
      (omega (arith, ints, low, value), omega (arith, ints, high, value))

  bounded : (a : ℕ) → IsAmong a (length (numbered g)) → IsBounded I g naturals a
  bounded a among =
      let root = length-map (numbered g) (root_range I) in
      let place : IsAmong a (length (root_ranges I g)) = (among.0, omega (arith, among.1, root)) in
      let own = in_box a among in
      let low = within.low a place in
      let high = within.high a place in
      (omega (arith, own.0, low), omega (arith, own.1, high))

  -- what each row of the model is: one of a demand, or one that holds
  IsEither : FlowRow → Type 0
  IsEither row = ((i : ℕ) × IsAmong i (length I.items) × (row ≡ Demand i)) ⊎ Keeps I g naturals row

  all_rows : All IsEither (flow_rows I g)
  unfolding IsEither
  all_rows =
      let each = nodes_hold IsEither g (λ t v among node. inr (conserved t v among node)) (length g) (omega arith) in
      let whole : take (length g) g ≡ g = take_all (length g) g (omega arith) in
      let nodes : All IsEither (map (λ node. Node node.0 node.1) (all_nodes g)) = subst (λ (h : List TypeValue). All IsEither (map (λ node. Node node.0 node.1) (nodes_from 1 h))) whole each in
      All-append IsEither (map (λ node. Node node.0 node.1) (all_nodes g)) (map (λ i. Demand i) (up_to (length I.items)) ++ map (λ a. Bound a) (up_to (length (numbered g)))) nodes
      (All-append IsEither (map (λ i. Demand i) (up_to (length I.items))) (map (λ a. Bound a) (up_to (length (numbered g)))) (all_hold IsEither (λ i. Demand i) (length I.items) (λ i among. inl (i, among, refl))) (all_hold IsEither (λ a. Bound a) (length (numbered g)) (λ a among. inr (bounded a among))))

  -- the violated row
  pub bad_demand : (row : FlowRow) → FirstBadRow I g naturals (Some row) → (i : ℕ) × IsAmong i (length I.items) × (row ≡ Demand i) × (IsServed I g naturals i → ⊥)
  unfolding IsEither
  bad_demand row broken =
      let here : IsEither row = All-head IsEither row broken.1 (All_right IsEither broken.0 (row ∷ broken.1) (subst (All IsEither) broken.2 all_rows)) in
      ⊎_elim
      (λ demand. (demand.0, demand.1, demand.2, λ served. broken.4 (subst (Keeps I g naturals) (sym demand.2) served)))
      (λ kept. absurd (broken.4 kept))
      here

  pub is_demand : (row : FlowRow) → FirstBadRow I g naturals (Some row) → IsDemand row
  is_demand row broken = let own = bad_demand row broken in subst IsDemand (sym own.2) tt

  pub is_fault : (row : FlowRow) → FirstBadRow I g naturals (Some row) → IsFault I g box values (unmet_by row)
  is_fault row broken =
      let own = bad_demand row broken in
      let total = total_is (carries own.0) g naturals in
      let moved : signed_total (carries own.0) g values ≡ pos (total_of (carries own.0) g naturals) = ap (signed_total (carries own.0) g) (sym same) ∙ total in
      subst (λ (f : Fault). IsFault I g box values f) (sym (ap unmet_by own.2)) (
        own.1,
        ⊎_elim
            (λ (less : total_of (carries own.0) g naturals < (item_at I own.0).demand). omega (arith, ints, less, moved))
            (λ enough. absurd (own.3 enough))
            (cases_lt (total_of (carries own.0) g naturals) (item_at I own.0).demand),
      )

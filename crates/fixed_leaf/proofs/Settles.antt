-- The prices close the box, by what the values of its arcs are.
use Rattle.std.proofs.Common.{◌≡◌, ◌⊎◌, ℕ, suc, ◌+◌, ◌-◌, ◌*◌, ◌<◌, ◌≤◌, Bool, true, false, cond, ◌==◌, List, [], ◌∷◌, length, map, get_or, refl, sym, ap, ◌∙◌, subst, inl, inr, ⊎_elim, arith, Some, None, ℤ, pos, negsuc, ◌+ℤ◌, ◌-ℤ◌, ◌*ℤ◌, ◌≤ℤ◌, ◌<ℤ◌}
use Rattle.std.proofs.Math.IntN.{zero-*ℤ}
use Rattle.std.proofs.lemmas.Int.{ints}
use Rattle.std.proofs.lemmas.Bool.{cases_eq, cond-false, cond-true, eq-eqb, ne_eqb}
use Rattle.std.proofs.lemmas.Option.{slice_get-get_or}
use Rattle.std.proofs.lemmas.List.{get_or-map, length-map}
use Rattle.packing_laws.specs.declared.instances.Item.{Item}
use Rattle.packing_laws.specs.Instances.{InstanceValue, IsAmong, item_at}
use Rattle.flow_graph.specs.declared.parts.ArcKind.{ArcKind}
use Rattle.flow_graph.specs.declared.parts.ArcKind.TheVariants.{Bin, Loss, Piece}
use Rattle.flow_graph.specs.Arcs.{TypeValue, IsFlowGraph, numbered}
use Rattle.flow_graph.specs.Balance.{signed_total, value_of, weigh_signed}
use Rattle.flow_graph.specs.Chords.{range_at}
use Rattle.flow_graph.proofs.ArcKinds.{number_of}
use Rattle.flow_graph.proofs.Chords.{chord_or_tree, no_tree}
use Rattle.flow_graph.proofs.SignedProducts.{add_mul, one_mul}
use Rattle.flow_graph.proofs.SignedSums.{weigh_nothing}
use Rattle.flow_model.specs.Boxes.{LiesWithin, root_range, root_ranges}
use Rattle.flow_model.specs.Flows.{arc_cost, carries, weigh_arcs}
use Rattle.cert_text.specs.declared.lines.ItemPrice.{ItemPrice}
use Rattle.cert_text.specs.declared.lines.Prices.{Prices}
use Rattle.cert_text.specs.declared.lines.Claim.TheVariants.{Bound}
use Rattle.path_prices.specs.Worth.{IsEnough, arcs_worth, bound, empty, items_worth, least_worth, worth_of}
use Rattle.cert_laws.specs.Rules.{demands_of}
use Rattle.cert_laws.proofs.ItemWorths.{weigh_times}
use Rattle.cert_laws.proofs.PricedFlows.{weigh_natural}
use Rattle.fixed_leaf.specs.declared.faults.Fault.{Fault}
use Rattle.fixed_leaf.specs.declared.faults.Fault.TheVariants.{Above, Below, Unmet}
use Rattle.fixed_leaf.specs.declared.joints.Joint.{Joint}
use Rattle.fixed_leaf.specs.declared.leaf.OnlyFlow.{OnlyFlow}
use Rattle.fixed_leaf.specs.Leaves.{ChordsAreFixed, IsFreeOfFlows, IsOnlyFlow, Settles}
use Rattle.fixed_leaf.specs.inner.Found.{IsFault, IsFlowOf}
use Rattle.fixed_leaf.specs.inner.Nets.{AreJoints, AreSettled, joint_at}
use Rattle.fixed_leaf.specs.inner.Priced.{ArePricesFor, carried_by, items_for, own_price}
use Rattle.fixed_leaf.proofs.BadRows.{total_is}
use Rattle.fixed_leaf.proofs.Balanced.{long, same_values, value_in}
use Rattle.fixed_leaf.proofs.Closing.{gains, least, more, sum_is, tree_price}

eq_turned : (a b : ℕ) → (a == b) ≡ (b == a)
eq_turned a b = ⊎_elim
    (λ same. eq-eqb a b same ∙ sym (eq-eqb b a (sym same)))
    (λ apart. ne_eqb a b apart ∙ sym (ne_eqb b a (λ e. apart (sym e))))
    (cases_eq a b)

-- what is priced for an item that is carried too seldom
unit_carried : (i : ℕ) (kind : ArcKind) → pos (carried_by (Some (Unmet i)) kind) ≡ cond (carries i kind) (pos 1) (pos 0)
unit_carried i (Bin t) = refl
unit_carried i (Loss t tail head) = refl
unit_carried i (Piece t tail head item form) = (λ k. pos (cond (eq_turned i item k) 1 0)) ∙ push (item == i) where
  push : (b : Bool) → pos (cond b 1 0) ≡ cond b (pos 1) (pos 0)
  push true = refl
  push false = refl

-- the item's part in the worth
item_worth : (I : InstanceValue) (i : ℕ) → IsAmong i (length I.items) → (p : Prices) → p.items ≡ items_for (Some (Unmet i)) → items_worth (demands_of I) p ≡ (item_at I i).demand
item_worth I i among p is =
    let none : Item = record { demand = 0; forms = [] } in
    let read : get_or (demands_of I) (i - 1) 0 ≡ (item_at I i).demand = get_or-map (λ (y : Item). y.demand) I.items (i - 1) none 0 (omega (arith, among.0, among.1)) in
    let one : items_worth (demands_of I) (record { scale = p.scale; items = items_for (Some (Unmet i)); arcs = p.arcs }) ≡ 0 + get_or (demands_of I) (i - 1) 0 * 1 = refl in
    let all : items_worth (demands_of I) p ≡ 0 + get_or (demands_of I) (i - 1) 0 * 1 = ap (λ (xs : List ItemPrice). items_worth (demands_of I) (record { scale = p.scale; items = xs; arcs = p.arcs })) is ∙ one in
    omega (arith, all, read)

no_item_worth : (demands : List ℕ) (p : Prices) → p.items ≡ [] → items_worth demands p ≡ 0
no_item_worth demands p is = ap (λ (xs : List ItemPrice). items_worth demands (record { scale = p.scale; items = xs; arcs = p.arcs })) is

-- a tree arc that is priced 0, 1 or -1
free_worth : (c x : ℤ) (r : ℕ × ℕ) → c ≡ pos 0 → (c *ℤ x) ≤ℤ least_worth r c
free_worth c x r none =
    let own : pos 0 *ℤ x ≡ pos 0 = zero-*ℤ x in
    let least : least_worth r (pos 0) ≡ pos 0 = zero-*ℤ (pos r.0) in
    subst (λ (z : ℤ). (z *ℤ x) ≤ℤ least_worth r z) (sym none) (omega (arith, ints, own, least))

low_worth : (c x : ℤ) (r : ℕ × ℕ) → c ≡ pos 1 → x <ℤ pos r.0 → ((c *ℤ x) +ℤ pos 1) ≤ℤ least_worth r c
low_worth c x r one below =
    let own = one_mul x in
    let least : least_worth r (pos 1) ≡ pos r.0 = one_mul (pos r.0) in
    subst (λ (z : ℤ). ((z *ℤ x) +ℤ pos 1) ≤ℤ least_worth r z) (sym one) (omega (arith, ints, own, least, below))

minus_one : (x : ℤ) → negsuc 0 *ℤ x ≡ pos 0 -ℤ x
minus_one x =
    let sum = add_mul (negsuc 0) (pos 1) x in
    let none : (negsuc 0 +ℤ pos 1) *ℤ x ≡ pos 0 = zero-*ℤ x in
    let one = one_mul x in
    omega (arith, ints, sum, none, one)

high_worth : (c x : ℤ) (r : ℕ × ℕ) → c ≡ negsuc 0 → pos r.1 <ℤ x → ((c *ℤ x) +ℤ pos 1) ≤ℤ least_worth r c
high_worth c x r one above =
    let own = minus_one x in
    let least : least_worth r (negsuc 0) ≡ pos 0 -ℤ pos r.1 = minus_one (pos r.1) in
    subst (λ (z : ℤ). ((z *ℤ x) +ℤ pos 1) ≤ℤ least_worth r z) (sym one) (omega (arith, ints, own, least, above))

at_least : (x y : ℤ) → (x +ℤ pos 1) ≤ℤ y → x ≤ℤ y
at_least x y above = omega (arith, ints, above)

-- an own price is 0 but on the arc of a fault
below_own : (b a : ℕ) → ((b ≡ a) × (own_price (Some (Below b)) a ≡ pos 1)) ⊎ (own_price (Some (Below b)) a ≡ pos 0)
below_own b a = ⊎_elim
    (λ same. inl (same, cond-true (b == a) (pos 1) (pos 0) (eq-eqb b a same)))
    (λ apart. inr (cond-false (b == a) (pos 1) (pos 0) (ne_eqb b a apart)))
    (cases_eq b a)

above_own : (b a : ℕ) → ((b ≡ a) × (own_price (Some (Above b)) a ≡ negsuc 0)) ⊎ (own_price (Some (Above b)) a ≡ pos 0)
above_own b a = ⊎_elim
    (λ same. inl (same, cond-true (b == a) (negsuc 0) (pos 0) (eq-eqb b a same)))
    (λ apart. inr (cond-false (b == a) (negsuc 0) (pos 0) (ne_eqb b a apart)))
    (cases_eq b a)

module _ (I : InstanceValue) (g : List TypeValue) (is : IsFlowGraph g) (joints : List Joint) (are : AreJoints g joints) (box : List (ℕ × ℕ)) (fixed : ChordsAreFixed g box) (values : List ℤ) (settled : AreSettled joints box values) (p : Prices) where
  abbrev worth : ℤ
  worth = worth_of (demands_of I) box p

  -- an arc is a tree arc, or has the one value of its range
  tree_or_fixed : (k : ℕ) → k < length joints → ((joint_at joints k).tree ≡ true) ⊎ ((get_or values k (pos 0) ≡ pos (range_at box (suc k)).0) × ((range_at box (suc k)).0 ≡ (range_at box (suc k)).1))
  tree_or_fixed k within =
      let size = are.size in
      let kind : ArcKind = get_or (numbered g) k (Bin 0) in
      let at = slice_get-get_or (numbered g) k (Bin 0) (omega (arith, within, size)) in
      let own = are.each k kind at in
      ⊎_elim
      (λ tree. inl (own.tree ∙ tree))
      (λ chord. inr (settled.chords k within (own.tree ∙ no_tree g (suc k) chord), fixed (suc k) chord))
      (chord_or_tree g (suc k) kind (number_of g k kind at))

  nothing_scaled : weigh_signed (λ kind. pos (0 * arc_cost I kind)) (numbered g) values ≡ pos 0
  nothing_scaled =
      let none : (n : ℕ) → 0 * n ≡ 0 = λ n. omega arith in
      (λ k. weigh_signed (λ kind. pos (none (arc_cost I kind) k)) (numbered g) values) ∙ weigh_nothing (numbered g) values

  -- the place of an arc
  placed : (b : ℕ) → IsAmong b (length values) → (suc (b - 1) ≡ b) × (b - 1 < length joints) × (b - 1 < length (numbered g))
  placed b among = let one = settled.size in let two = are.size in (omega (arith, among.0), omega (arith, among.0, among.1, one), omega (arith, among.0, among.1, one, two))

  value_here : (k b : ℕ) → b ≡ suc k → value_of values b ≡ get_or values k (pos 0)
  value_here k b same = let place : b - 1 ≡ k = omega (arith, same) in ap (λ (m : ℕ). get_or values m (pos 0)) place

  positive : (arcs : ℤ) → arcs_worth box p.arcs ≡ arcs → pos 1 ≤ℤ arcs → pos 0 <ℤ worth
  positive arcs same low = omega (arith, ints, same, low)

  below_worth : (b : ℕ) → ArePricesFor I g joints (Some (Below b)) p → IsFault I g box values (Below b) → pos 0 <ℤ worth
  below_worth b given bad =
      let at = placed b bad.0 in
      let own : (k : ℕ) → b ≡ suc k → get_or values k (pos 0) <ℤ pos (range_at box (suc k)).0 = λ k same. let here = value_here k b same in let range : (range_at box b).0 ≡ (range_at box (suc k)).0 = ap (λ (a : ℕ). (range_at box a).0) same in let low = bad.1 in omega (arith, ints, here, range, low) in
      let trees : (k : ℕ) → k < length joints → (joint_at joints k).tree ≡ true → (get_or given.prices k (pos 0) *ℤ get_or values k (pos 0)) ≤ℤ least_worth (range_at box (suc k)) (get_or given.prices k (pos 0)) = λ k within tree. let price = tree_price I g is joints are (Some (Below b)) p given box fixed values settled k within tree in
      ⊎_elim
      (λ this. at_least (get_or given.prices k (pos 0) *ℤ get_or values k (pos 0)) (least_worth (range_at box (suc k)) (get_or given.prices k (pos 0))) (low_worth (get_or given.prices k (pos 0)) (get_or values k (pos 0)) (range_at box (suc k)) (price ∙ this.1) (own k this.0)))
      (λ none. free_worth (get_or given.prices k (pos 0)) (get_or values k (pos 0)) (range_at box (suc k)) (price ∙ none))
      (below_own b (suc k)) in
      let low = own (b - 1) (sym at.0) in
      let above : ((get_or given.prices (b - 1) (pos 0) *ℤ get_or values (b - 1) (pos 0)) +ℤ pos 1) ≤ℤ least_worth (range_at box (suc (b - 1))) (get_or given.prices (b - 1) (pos 0)) = ⊎_elim
      (λ tree. low_worth (get_or given.prices (b - 1) (pos 0)) (get_or values (b - 1) (pos 0)) (range_at box (suc (b - 1))) (tree_price I g is joints are (Some (Below b)) p given box fixed values settled (b - 1) at.1 tree ∙ cond-true (b == suc (b - 1)) (pos 1) (pos 0) (eq-eqb b (suc (b - 1)) (sym at.0))) low)
      (λ chord. let same = chord.0 in absurd (omega (arith, ints, same, low)))
      (tree_or_fixed (b - 1) at.1) in
      let sum = more I g is joints are (Some (Below b)) p given box fixed values settled trees (b - 1) at.2 above in
      let whole = sum_is I g is joints are (Some (Below b)) p given box fixed values settled in
      let scaled = nothing_scaled in
      let carried = weigh_nothing (numbered g) values in
      positive (arcs_worth box p.arcs) refl (omega (arith, ints, sum, whole, scaled, carried))

  above_worth : (b : ℕ) → ArePricesFor I g joints (Some (Above b)) p → IsFault I g box values (Above b) → pos 0 <ℤ worth
  above_worth b given bad =
      let at = placed b bad.0 in
      let own : (k : ℕ) → b ≡ suc k → pos (range_at box (suc k)).1 <ℤ get_or values k (pos 0) = λ k same. let here = value_here k b same in let range : (range_at box b).1 ≡ (range_at box (suc k)).1 = ap (λ (a : ℕ). (range_at box a).1) same in let high = bad.1 in omega (arith, ints, here, range, high) in
      let trees : (k : ℕ) → k < length joints → (joint_at joints k).tree ≡ true → (get_or given.prices k (pos 0) *ℤ get_or values k (pos 0)) ≤ℤ least_worth (range_at box (suc k)) (get_or given.prices k (pos 0)) = λ k within tree. let price = tree_price I g is joints are (Some (Above b)) p given box fixed values settled k within tree in
      ⊎_elim
      (λ this. at_least (get_or given.prices k (pos 0) *ℤ get_or values k (pos 0)) (least_worth (range_at box (suc k)) (get_or given.prices k (pos 0))) (high_worth (get_or given.prices k (pos 0)) (get_or values k (pos 0)) (range_at box (suc k)) (price ∙ this.1) (own k this.0)))
      (λ none. free_worth (get_or given.prices k (pos 0)) (get_or values k (pos 0)) (range_at box (suc k)) (price ∙ none))
      (above_own b (suc k)) in
      let high = own (b - 1) (sym at.0) in
      let above : ((get_or given.prices (b - 1) (pos 0) *ℤ get_or values (b - 1) (pos 0)) +ℤ pos 1) ≤ℤ least_worth (range_at box (suc (b - 1))) (get_or given.prices (b - 1) (pos 0)) = ⊎_elim
      (λ tree. high_worth (get_or given.prices (b - 1) (pos 0)) (get_or values (b - 1) (pos 0)) (range_at box (suc (b - 1))) (tree_price I g is joints are (Some (Above b)) p given box fixed values settled (b - 1) at.1 tree ∙ cond-true (b == suc (b - 1)) (negsuc 0) (pos 0) (eq-eqb b (suc (b - 1)) (sym at.0))) high)
      (λ chord. let same = chord.0 in let one = chord.1 in absurd (omega (arith, ints, same, one, high)))
      (tree_or_fixed (b - 1) at.1) in
      let sum = more I g is joints are (Some (Above b)) p given box fixed values settled trees (b - 1) at.2 above in
      let whole = sum_is I g is joints are (Some (Above b)) p given box fixed values settled in
      let scaled = nothing_scaled in
      let carried = weigh_nothing (numbered g) values in
      positive (arcs_worth box p.arcs) refl (omega (arith, ints, sum, whole, scaled, carried))

  unmet_worth : (i : ℕ) → ArePricesFor I g joints (Some (Unmet i)) p → IsFault I g box values (Unmet i) → pos 0 <ℤ worth
  unmet_worth i given bad =
      let sum = least I g is joints are (Some (Unmet i)) p given box fixed values settled (λ k within tree. free_worth (get_or given.prices k (pos 0)) (get_or values k (pos 0)) (range_at box (suc k)) (tree_price I g is joints are (Some (Unmet i)) p given box fixed values settled k within tree)) in
      let whole = sum_is I g is joints are (Some (Unmet i)) p given box fixed values settled in
      let scaled = nothing_scaled in
      let carried : weigh_signed (λ kind. pos (carried_by (Some (Unmet i)) kind)) (numbered g) values ≡ signed_total (carries i) g values = λ k. weigh_signed (λ kind. unit_carried i kind k) (numbered g) values in
      let item = item_worth I i bad.0 p given.items in
      let total = bad.1 in
      omega (arith, ints, sum, whole, scaled, carried, item, total)

  -- where something is wrong the prices are worth something, although bins are worth nothing
  pub fault_worth : (fault : Fault) → ArePricesFor I g joints (Some fault) p → IsFault I g box values fault → pos 0 <ℤ worth
  fault_worth (Below b) given bad = below_worth b given bad
  fault_worth (Above b) given bad = above_worth b given bad
  fault_worth (Unmet i) given bad = unmet_worth i given bad

  -- where nothing is, they are worth what the flow costs
  flow_worth : (found : OnlyFlow) → ArePricesFor I g joints None p → IsFlowOf I g box values found → pos found.cost ≤ℤ worth
  flow_worth found given own =
      let sum = least I g is joints are None p given box fixed values settled (λ k within tree. free_worth (get_or given.prices k (pos 0)) (get_or values k (pos 0)) (range_at box (suc k)) (tree_price I g is joints are None p given box fixed values settled k within tree)) in
      let whole = sum_is I g is joints are None p given box fixed values settled in
      let carried = weigh_nothing (numbered g) values in
      let natural : weigh_signed (λ kind. pos (1 * arc_cost I kind)) (numbered g) values ≡ pos (weigh_arcs (λ kind. 1 * arc_cost I kind) (numbered g) found.flow.values) = ap (weigh_signed (λ kind. pos (1 * arc_cost I kind)) (numbered g)) (sym own.same) ∙ weigh_natural (λ kind. 1 * arc_cost I kind) (numbered g) found.flow.values in
      let once = weigh_times 1 (arc_cost I) (numbered g) found.flow.values in
      let cost = own.cost in
      let items = no_item_worth (demands_of I) p given.items in
      omega (arith, ints, sum, whole, carried, natural, once, cost, items)

  pub flow_enough : (found : OnlyFlow) → ArePricesFor I g joints None p → IsFlowOf I g box values found → (least : ℕ) → least ≤ found.cost → IsEnough (Bound least) p.scale worth
  flow_enough found given own least low =
      let most = flow_worth found given own in
      let one : pos p.scale *ℤ (pos least -ℤ pos 1) ≡ pos least -ℤ pos 1 = ap (λ n. pos n *ℤ (pos least -ℤ pos 1)) given.scale ∙ one_mul (pos least -ℤ pos 1) in
      bound least refl (let scale = given.scale in omega (arith, scale)) (omega (arith, ints, most, one, low))

  -- no flow lies in the box where something is wrong
  pub free : (fault : Fault) → IsFault I g box values fault → IsFreeOfFlows I g box
  free (Below b) bad other flow inside =
      let one = long g is joints are box values settled in
      let own = value_in g is joints are box values settled fixed I other flow inside b (bad.0.0, let high = bad.0.1 in omega (arith, one, high)) in
      let value = own.1 in
      let low = own.2 in
      let less = bad.1 in
      omega (arith, ints, value, low, less)
  free (Above b) bad other flow inside =
      let one = long g is joints are box values settled in
      let own = value_in g is joints are box values settled fixed I other flow inside b (bad.0.0, let high = bad.0.1 in omega (arith, one, high)) in
      let value = own.1 in
      let high = own.3 in
      let more = bad.1 in
      omega (arith, ints, value, high, more)
  free (Unmet i) bad other flow inside =
      let same = same_values g is joints are box values settled fixed I other flow inside in
      let total = total_is (carries i) g other in
      let moved : signed_total (carries i) g (map pos other) ≡ signed_total (carries i) g values = ap (signed_total (carries i) g) same in
      let served = flow.demands i bad.0 in
      let less = bad.1 in
      omega (arith, ints, total, moved, served, less)

  pub only : LiesWithin box (root_ranges I g) → (found : OnlyFlow) → IsFlowOf I g box values found → IsOnlyFlow I g box found
  only within found own = record {
    flow = own.flow;
    inside = record {
      size = let one = own.flow.size in let two = within.size in let three = length-map (numbered g) (root_range I) in omega (arith, one, two, three);
      each = λ a among.
          let one = long g is joints are box values settled in
          let two = within.size in
          let three = length-map (numbered g) (root_range I) in
          let four = own.flow.size in
          let range = own.ranges a (among.0, let high = among.1 in omega (arith, high, one, two, three)) in
          let value : value_of values a ≡ pos (get_or found.flow.values (a - 1) 0) = ap (λ (xs : List ℤ). value_of xs a) (sym own.same) ∙ get_or-map (λ (n : ℕ). pos n) found.flow.values (a - 1) 0 (pos 0) (let low = among.0 in let high = among.1 in omega (arith, low, high, two, three, four)) in
          let low = range.0 in
          let high = range.1 in
          (omega (arith, ints, low, value), omega (arith, ints, high, value));
    };
    only = λ other flow inside. naturals_same other found.flow.values (same_values g is joints are box values settled fixed I other flow inside ∙ sym own.same);
    cost = own.cost;
  } where
    head_same : (x y : ℕ) (xs ys : List ℤ) → pos x ∷ xs ≡ pos y ∷ ys → x ≡ y
    head_same x y xs ys h = cc

    tail_same : (x y : ℕ) (xs ys : List ℤ) → pos x ∷ xs ≡ pos y ∷ ys → xs ≡ ys
    tail_same x y xs ys h = cc

    naturals_same : (xs ys : List ℕ) → map pos xs ≡ map pos ys → xs ≡ ys
    naturals_same [] [] h = refl
    naturals_same [] (y ∷ ys) h = cc
    naturals_same (x ∷ xs) [] h = cc
    naturals_same (x ∷ xs) (y ∷ ys) h = λ i. head_same x y (map pos xs) (map pos ys) h i ∷ naturals_same xs ys (tail_same x y (map pos xs) (map pos ys) h) i

  pub settles_fault : (fault : Fault) → ArePricesFor I g joints (Some fault) p → IsFault I g box values fault → Settles I g box p None
  settles_fault fault given bad = (free fault bad, λ claim. record { gains = gains I g is joints are (Some fault) p given; strong = empty given.scale (fault_worth fault given bad) })

  pub settles_flow : LiesWithin box (root_ranges I g) → (found : OnlyFlow) → ArePricesFor I g joints None p → IsFlowOf I g box values found → Settles I g box p (Some found)
  settles_flow within found given own = (only within found own, λ least low. record { gains = gains I g is joints are None p given; strong = flow_enough found given own least low })

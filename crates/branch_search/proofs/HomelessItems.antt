-- An item that fits nowhere: no path carries it, and a price of it alone shows that the root box is empty.
use Rattle.std.proofs.Common.{◌≡◌, ℕ, suc, ◌-◌, ◌*◌, ◌≤◌, ◌<◌, true, false, ◌==◌, List, [], ◌∷◌, Option, None, Some, length, get_or, ap, sym, subst, ◌∙◌, ⊎_elim, arith, refl, All, pos}
use Rattle.std.specs.Prelude.{slice_index}
use Rattle.std.specs.List.{list_any}
use Rattle.std.proofs.Math.Nat.{mul-le-mul_right}
use Rattle.std.proofs.lemmas.Bool.{cases_eq, cond-false, cond-true, eq-eqb, ne_eqb}
use Rattle.std.proofs.lemmas.Int.{ints}
use Rattle.std.proofs.lemmas.List.{get_or-map}
use Rattle.std.proofs.lemmas.List.Folds.{list_any_at}
use Rattle.std.proofs.lemmas.List.Elements.{All-cons, All-head, All-nil, All-tail}
use Rattle.std.proofs.lemmas.List.Sums.{get_or-le-sum_by}
use Rattle.packing_laws.specs.declared.instances.BinType.{BinType}
use Rattle.packing_laws.specs.declared.instances.Item.{Item}
use Rattle.packing_laws.specs.declared.packings.Count.{Count}
use Rattle.packing_laws.specs.Instances.{InstanceValue, IsAmong, IsInstance, form_at, item_at, type_at}
use Rattle.packing_laws.specs.Packings.{Content, Fits, cost_at, weight_in}
use Rattle.packing_laws.specs.Floors.{IsFirstHomeless, item_fits, vector_fits}
use Rattle.packing_laws.proofs.PackedItems.{vector_fits-from}
use Rattle.flow_graph.specs.declared.parts.ArcKind.{ArcKind}
use Rattle.flow_graph.specs.declared.parts.ArcKind.TheVariants.{Loss, Piece}
use Rattle.flow_graph.specs.declared.parts.TypeArc.{TypeArc}
use Rattle.flow_graph.specs.Arcs.{TypeValue, arc_at, first_arc, kind_of, numbered}
use Rattle.flow_graph.specs.Faithful.{AreNumbersOf, IsFaithful, content_of, unit_of}
use Rattle.flow_graph.proofs.Places.{has_numbers}
use Rattle.flow_model.specs.Prices.{way_price}
use Rattle.cert_text.specs.declared.lines.Claim.TheVariants.{Empty}
use Rattle.cert_text.specs.declared.lines.ArcPrice.{ArcPrice}
use Rattle.cert_text.specs.declared.lines.ItemPrice.{ItemPrice}
use Rattle.cert_text.specs.Lines.{ArePrices}
use Rattle.cert_text.specs.declared.lines.Prices.{Prices}
use Rattle.path_prices.specs.Gains.{GainsAtMost, carried_price, item_price_in, whole_price}
use Rattle.path_prices.specs.Worth.{empty}
use Rattle.cert_laws.specs.Rules.{Box, demands_of}
use Rattle.search_tree.specs.declared.places.Place.{Place}
use Rattle.search_tree.specs.Trees.{AreShown, IsShown, TreeValue, box_of}

-- a unit that is in a content that fits a type fits that type by itself
unit_fits : (I : InstanceValue) (t : ℕ) (c : Content) → IsInstance I → Fits I t c → (k : ℕ) (d : Count) → k < length c → 0 < (get_or c k d).count → item_fits (item_at I (get_or c k d).item) (type_at I t) ≡ true
unit_fits I t c is fits k d within some =
    let n : Count = get_or c k d in
    let there = fits.exists k d within in
    let form : ℕ = n.form - 1 in
    let forms : List (List ℕ) = (item_at I n.item).forms in
    let inside : form < length forms = omega (arith, there.form.0, there.form.1) in
    let v : List ℕ = get_or forms form [] in
    let item = is.items (n.item - 1) (record { demand = 0; forms = [] }) (omega (arith, there.item.0, there.item.1)) in
    let size : length v ≡ I.dims = (item.forms form [] inside).vector.size in
    let cap : List ℕ = (type_at I t).cap in
    let each : (j : ℕ) → j < length v → get_or v j 0 ≤ get_or cap j 0 = λ j inner.
    let whole : weight_in I (suc j) c ≤ get_or cap (suc j - 1) 0 = fits.weight (suc j) (omega arith, omega (arith, inner, size)) in
    let part : n.count * get_or v (suc j - 1) 0 ≤ weight_in I (suc j) c = get_or-le-sum_by (λ (m : Count). m.count * slice_index (form_at I m.item m.form) (suc j - 1)) c k d within in
    let one : 1 * get_or v (suc j - 1) 0 ≤ n.count * get_or v (suc j - 1) 0 = mul-le-mul_right (get_or v (suc j - 1) 0) some in
    let back : suc j - 1 ≡ j = omega arith in
    subst (λ (m : ℕ). get_or v m 0 ≤ get_or cap m 0) back (omega (arith, whole, part, one))
    in
    list_any_at (λ w. vector_fits w cap) forms form [] inside (vector_fits-from v cap each)

module _ (I : InstanceValue) (is : IsInstance I) (g : List TypeValue) (faithful : IsFaithful I g) (i : ℕ) (homeless : IsFirstHomeless I i) where
  -- what fits a type holds no unit of the item
  not_held : (t : ℕ) (c : Content) → Fits I t c → (k : ℕ) (d : Count) → k < length c → 0 < (get_or c k d).count → (get_or c k d).item ≡ i → ⊥
  not_held t c fits k d within some same =
      let nothing : BinType = record { cap = []; cost = 0; limit = None } in
      let place : item_fits (item_at I i) (type_at I t) ≡ true = subst (λ (j : ℕ). item_fits (item_at I j) (type_at I t) ≡ true) same (unit_fits I t c is fits k d within some) in
      let found : list_any (item_fits (item_at I i)) I.types ≡ true = list_any_at (item_fits (item_at I i)) I.types (t - 1) nothing (omega (arith, fits.bin_type.0, fits.bin_type.1)) place in
      let bad : true ≡ false = sym found ∙ homeless.place in
      absurd (let wrong : true ≡ false = bad in cc)

  abbrev prices : Prices
  prices = record { scale = 0; items = record { item = i; price = 1 } ∷ []; arcs = [] }

  -- a path without a unit of the item is worth nothing
  path_price : (t : ℕ) (numbers : List ℕ) (path : List TypeArc) → AreNumbersOf g t numbers path → All (λ (n : Count). n.item ≡ i → ⊥) (content_of path) → way_price (whole_price g prices) numbers ≡ pos 0
  path_price t [] [] are none = refl
  path_price t [] (e ∷ path) are none = absurd are
  path_price t (a ∷ numbers) [] are none = absurd are
  path_price t (a ∷ numbers) (e ∷ path) are none = ⊎_elim
      (λ loss.
      let test = eq-eqb e.item 0 loss in
      let kind : kind_of t e ≡ Loss t e.tail e.head = cond-true (e.item == 0) (Loss t e.tail e.head) (Piece t e.tail e.head e.item e.form) test in
      let content : content_of (e ∷ path) ≡ content_of path = cond-true (e.item == 0) (content_of path) (unit_of e ∷ content_of path) test in
      let rest = path_price t numbers path are.1 (subst (λ (c : Content). All (λ (n : Count). n.item ≡ i → ⊥) c) content none) in
      let own : pos (carried_price prices (arc_at g a)) ≡ pos 0 = ap (λ (o : Option ArcKind). pos (carried_price prices o)) are.0 ∙ ap (λ (k : ArcKind). pos (carried_price prices (Some k))) kind in
      omega (arith, ints, rest, own))
      (λ piece.
      let test = ne_eqb e.item 0 piece in
      let kind : kind_of t e ≡ Piece t e.tail e.head e.item e.form = cond-false (e.item == 0) (Loss t e.tail e.head) (Piece t e.tail e.head e.item e.form) test in
      let content : content_of (e ∷ path) ≡ unit_of e ∷ content_of path = cond-false (e.item == 0) (content_of path) (unit_of e ∷ content_of path) test in
      let both : All (λ (n : Count). n.item ≡ i → ⊥) (unit_of e ∷ content_of path) = subst (λ (c : Content). All (λ (n : Count). n.item ≡ i → ⊥) c) content none in
      let rest = path_price t numbers path are.1 (All-tail (λ (n : Count). n.item ≡ i → ⊥) (unit_of e) (content_of path) both) in
      let other : i ≡ e.item → ⊥ = λ same. All-head (λ (n : Count). n.item ≡ i → ⊥) (unit_of e) (content_of path) both (sym same) in
      let free : item_price_in prices.items e.item ≡ 0 = cond-false (i == e.item) 1 0 (ne_eqb i e.item other) in
      let own : pos (carried_price prices (arc_at g a)) ≡ pos 0 = ap (λ (o : Option ArcKind). pos (carried_price prices o)) are.0 ∙ ap (λ (k : ArcKind). pos (carried_price prices (Some k))) kind ∙ ap pos free in
      omega (arith, ints, rest, own))
      (cases_eq e.item 0)

  -- units on a path count one each
  units_of_path : (path : List TypeArc) → All (λ (n : Count). 0 < n.count) (content_of path)
  units_of_path [] = All-nil (λ (n : Count). 0 < n.count)
  units_of_path (e ∷ path) = ⊎_elim
      (λ loss. subst (λ (c : Content). All (λ (n : Count). 0 < n.count) c) (sym (cond-true (e.item == 0) (content_of path) (unit_of e ∷ content_of path) (eq-eqb e.item 0 loss))) (units_of_path path))
      (λ piece. subst (λ (c : Content). All (λ (n : Count). 0 < n.count) c) (sym (cond-false (e.item == 0) (content_of path) (unit_of e ∷ content_of path) (ne_eqb e.item 0 piece))) (All-cons (λ (n : Count). 0 < n.count) (unit_of e) (content_of path) (omega arith) (units_of_path path)))
      (cases_eq e.item 0)

  no_gain : (t : ℕ) → IsAmong t (length g) → GainsAtMost g prices t (pos 0)
  no_gain t among numbers path =
      let c : Content = content_of path.0 in
      let first : pos (carried_price prices (arc_at g (first_arc g t))) ≡ pos 0 = ap (λ (o : Option ArcKind). pos (carried_price prices o)) (has_numbers g t among).bin in
      let way = path_price t numbers path.0 path.2 (λ k d within. not_held t c (faithful.fits t among path.0 path.1) k d within (units_of_path path.0 k d within)) in
      omega (arith, ints, first, way)

  pub empty_shown : ArePrices prices → (box : Box) → IsShown I g box (record { prices = prices; claim = Empty })
  empty_shown told box =
      let demand : get_or (demands_of I) (i - 1) 0 ≡ (item_at I i).demand = get_or-map (λ (x : Item). x.demand) I.items (i - 1) (record { demand = 0; forms = [] }) 0 (omega (arith, homeless.item.0, homeless.item.1)) in
      let some = homeless.demand in
      record {
        prices = told;
        items = All-cons (λ (x : ItemPrice). x.item ≤ length I.items) (record { item = i; price = 1 }) [] homeless.item.1 (All-nil (λ (x : ItemPrice). x.item ≤ length I.items));
        arcs = All-nil (λ (x : ArcPrice). x.arc ≤ length (numbered g));
        claim = tt;
        closes = record {
          gains = λ t among. let free : 0 ≡ 0 * cost_at I t = omega arith in subst (λ (n : ℕ). GainsAtMost g prices t (pos n)) free (no_gain t among);
          strong = empty refl (omega (arith, ints, demand, some));
        };
      }

  pub tree_shown : ArePrices prices → (root : Box) (T : TreeValue) → T ≡ record { root = root; places = record { cuts = []; shown = record { prices = prices; claim = Empty }; split = None; need = None } ∷ [] } → AreShown I g T
  tree_shown told root T is =
      let p : Place = record { cuts = []; shown = record { prices = prices; claim = Empty }; split = None; need = None } in
      subst (λ (t : TreeValue). AreShown I g t) (sym is)
      (All-cons (λ (q : Place). IsShown I g (box_of root q) q.shown) p [] (empty_shown told root) (All-nil (λ (q : Place). IsShown I g (box_of root q) q.shown)))

-- At prices by weight no bin gains more than it costs.
use Rattle.std.proofs.Common.{◌≡◌, ℕ, ◌+◌, ◌*◌, ◌≤◌, ◌∙◌, ◌==◌, List, [], ◌∷◌, length, ap, All, Some, Option, ⊎_elim, arith, pos, ◌≤ℤ◌}
use Rattle.std.proofs.Math.Nat.{mul-le-mul_right}
use Rattle.std.proofs.lemmas.Bool.{cases_eq, cond-false, cond-true, eq-eqb, ne_eqb}
use Rattle.std.proofs.lemmas.Int.{ints}
use Rattle.std.proofs.lemmas.List.Elements.{All-head, All-tail}
use Rattle.std.proofs.lemmas.List.Sums.{sum_by-cons}
use Rattle.packing_laws.specs.declared.packings.Count.{Count}
use Rattle.packing_laws.specs.Instances.{InstanceValue, IsAmong, item_at}
use Rattle.packing_laws.specs.Packings.{Content}
use Rattle.packing_laws.specs.Floors.{room_in}
use Rattle.packing_laws.proofs.MaterialLaw.{bin-holds, least_in, least_weight}
use Rattle.flow_graph.specs.declared.parts.TypeArc.{TypeArc}
use Rattle.flow_graph.specs.declared.parts.ArcKind.{ArcKind}
use Rattle.flow_graph.specs.declared.parts.ArcKind.TheVariants.{Bin, Loss, Piece}
use Rattle.flow_graph.specs.Arcs.{TypeValue, arc_at, first_arc, kind_of}
use Rattle.flow_graph.specs.Faithful.{AreNumbersOf, IsFaithful, content_of, unit_of}
use Rattle.flow_graph.proofs.Places.{has_numbers}
use Rattle.flow_model.specs.Prices.{way_price}
use Rattle.cert_text.specs.declared.lines.ItemPrice.{ItemPrice}
use Rattle.cert_text.specs.declared.lines.Prices.{Prices}
use Rattle.path_prices.specs.Gains.{GainsAtMost, carried_price, item_price_in, whole_price}
use Rattle.bound_certificates.specs.MaterialPrices.{lightest}

-- an item's price in a list where each price is that of its item
listed_price : (F : ℕ → ℕ) (xs : List ItemPrice) (i : ℕ) → All (λ x. x.price ≡ F x.item) xs → item_price_in xs i ≤ F i
listed_price F [] i all = omega arith
listed_price F (x ∷ xs) i all =
    let own : x.price ≡ F x.item = All-head (λ (y : ItemPrice). y.price ≡ F y.item) x xs all in
    let rest = listed_price F xs i (All-tail (λ (y : ItemPrice). y.price ≡ F y.item) x xs all) in
    ⊎_elim
    (λ same.
    let here : item_price_in (x ∷ xs) i ≡ x.price = cond-true (x.item == i) x.price (item_price_in xs i) (eq-eqb x.item i same) in
    let moved : F x.item ≡ F i = ap F same in
    omega (arith, here, own, moved))
    (λ apart.
    let here : item_price_in (x ∷ xs) i ≡ item_price_in xs i = cond-false (x.item == i) x.price (item_price_in xs i) (ne_eqb x.item i apart) in
    omega (arith, here, rest))
    (cases_eq x.item i)

module _ (I : InstanceValue) (d c scale : ℕ) (items : List ItemPrice) (by_weight : All (λ x. x.price ≡ lightest d (item_at I x.item) * c) items) where
  abbrev prices : Prices
  prices = record { scale = scale; items = items; arcs = [] }

  -- the price of an arc with an item, and of one without
  arc_price : (g : List TypeValue) (a : ℕ) (kind : ArcKind) → arc_at g a ≡ Some kind → whole_price g prices a ≡ pos (carried_price prices (Some kind))
  arc_price g a kind at =
      let own : pos (carried_price prices (arc_at g a)) ≡ pos (carried_price prices (Some kind)) = ap (λ (o : Option ArcKind). pos (carried_price prices o)) at in
      omega (arith, ints, own)

  -- a path is priced at no more than what its content weighs at least, times the cost
  path_price : (g : List TypeValue) (t : ℕ) (numbers : List ℕ) (path : List TypeArc) → AreNumbersOf g t numbers path → way_price (whole_price g prices) numbers ≤ℤ pos (least_in I d (content_of path) * c)
  path_price g t [] [] are = omega (arith, ints)
  path_price g t [] (e ∷ path) are = absurd are
  path_price g t (a ∷ numbers) [] are = absurd are
  path_price g t (a ∷ numbers) (e ∷ path) are =
      let rest = path_price g t numbers path are.1 in
      let own = arc_price g a (kind_of t e) are.0 in
      ⊎_elim
      (λ none.
      let test = eq-eqb e.item 0 none in
      let kind : kind_of t e ≡ Loss t e.tail e.head = cond-true (e.item == 0) (Loss t e.tail e.head) (Piece t e.tail e.head e.item e.form) test in
      let content : content_of (e ∷ path) ≡ content_of path = cond-true (e.item == 0) (content_of path) (unit_of e ∷ content_of path) test in
      let nothing : carried_price prices (Some (kind_of t e)) ≡ 0 = ap (λ (k : ArcKind). carried_price prices (Some k)) kind in
      let same : least_in I d (content_of (e ∷ path)) * c ≡ least_in I d (content_of path) * c = ap (λ (n : Content). least_in I d n * c) content in
      omega (arith, ints, rest, own, nothing, same))
      (λ some.
      let test = ne_eqb e.item 0 some in
      let kind : kind_of t e ≡ Piece t e.tail e.head e.item e.form = cond-false (e.item == 0) (Loss t e.tail e.head) (Piece t e.tail e.head e.item e.form) test in
      let content : content_of (e ∷ path) ≡ unit_of e ∷ content_of path = cond-false (e.item == 0) (content_of path) (unit_of e ∷ content_of path) test in
      let priced : carried_price prices (Some (kind_of t e)) ≡ item_price_in items e.item = ap (λ (k : ArcKind). carried_price prices (Some k)) kind in
      let listed = listed_price (λ i. lightest d (item_at I i) * c) items e.item by_weight in
      let unit : least_in I d (unit_of e ∷ content_of path) ≡ 1 * least_weight I d e.item + least_in I d (content_of path) = sum_by-cons (λ (n : Count). n.count * least_weight I d n.item) (unit_of e) (content_of path) in
      let same : least_in I d (content_of (e ∷ path)) * c ≡ (1 * least_weight I d e.item + least_in I d (content_of path)) * c = ap (λ (n : Content). least_in I d n * c) content ∙ ap (λ n. n * c) unit in
      omega (arith, ints, rest, own, priced, listed, same))
      (cases_eq e.item 0)

  -- and so is a bin that is filled along it: what fits weighs no more than the bin holds
  pub gains_by_weight : (g : List TypeValue) → IsFaithful I g → IsAmong d I.dims → (t : ℕ) → IsAmong t (length g) → (z : ℕ) → room_in I d t * c ≤ z → GainsAtMost g prices t (pos z)
  gains_by_weight g faithful dim t among z room numbers path =
      let first = arc_price g (first_arc g t) (Bin t) (has_numbers g t among).bin in
      let way = path_price g t numbers path.0 path.2 in
      let holds = bin-holds I d t (content_of path.0) dim (faithful.fits t among path.0 path.1) in
      let scaled : least_in I d (content_of path.0) * c ≤ room_in I d t * c = mul-le-mul_right c holds in
      omega (arith, ints, first, way, scaled, room)

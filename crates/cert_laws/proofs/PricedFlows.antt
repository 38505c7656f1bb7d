-- Where no bin that is filled along a path is priced above what its bin arc may cost, conserved values are priced at no more
-- than their bin arcs may cost.
use Rattle.std.proofs.Common.{◌≡◌, ◌⊎◌, ℕ, zero, suc, ◌+◌, ◌≤◌, ◌<◌, List, [], ◌∷◌, length, map, refl, sym, ap, ◌∙◌, subst, inl, inr, ⊎_elim, arith, Some, ℤ, pos, ◌+ℤ◌, ◌-ℤ◌, ◌*ℤ◌, ◌≤ℤ◌}
use Rattle.std.specs.Prelude.{Contains, slice_get}
use Rattle.std.proofs.Math.IntN.{*ℤ-zero, *ℤ_comm, pos-*ℤ-pos}
use Rattle.std.proofs.lemmas.Bool.{cases_eq, cases_lt}
use Rattle.std.proofs.lemmas.Int.{ints}
use Rattle.packing_laws.specs.Instances.{IsAmong}
use Rattle.flow_graph.specs.declared.parts.TypeArc.{TypeArc}
use Rattle.flow_graph.specs.declared.parts.ArcKind.{ArcKind}
use Rattle.flow_graph.specs.declared.parts.ArcKind.TheVariants.{Bin}
use Rattle.flow_graph.specs.Arcs.{TypeValue, IsFlowType, IsFlowGraph, first_arc, flow_type, kind_of, numbered}
use Rattle.flow_graph.specs.Balance.{rise_of, weigh_signed}
use Rattle.flow_graph.specs.Faithful.{IsPath, AreNumbersOf, IsNumberedPath}
use Rattle.flow_graph.specs.Laws.{IsKindAt, is_bin, is_arc, PotentialsCancel}
use Rattle.flow_graph.proofs.ArcKinds.{arc_climbs, kind_at, kind_cases, number_of, type_is}
use Rattle.flow_graph.proofs.Places.{has_numbers}
use Rattle.flow_graph.proofs.SignedProducts.{mul_add, one_mul}
use Rattle.flow_graph.proofs.SignedSums.{weigh_both}
use Rattle.flow_model.specs.Flows.{AreConserved, weigh_arcs}
use Rattle.flow_model.specs.Prices.{ConservedIsBalanced, price_from, price_of, way_price}
use Rattle.cert_laws.proofs.Heights.{AreArcs, Heights, Way, heights}

-- the greater price, times a number
scaled_le : (a b : ℤ) (n : ℕ) → a ≤ℤ b → (a *ℤ pos n) ≤ℤ (b *ℤ pos n)
scaled_le a b zero less = let x = *ℤ-zero a in let y = *ℤ-zero b in omega (arith, ints, x, y)
scaled_le a b (suc n) less =
    let rest = scaled_le a b n less in
    let more : pos (suc n) ≡ pos n +ℤ pos 1 = omega (arith, ints) in
    let x : a *ℤ pos (suc n) ≡ a *ℤ pos n +ℤ a *ℤ pos 1 = ap (λ z. a *ℤ z) more ∙ mul_add a (pos n) (pos 1) in
    let y : b *ℤ pos (suc n) ≡ b *ℤ pos n +ℤ b *ℤ pos 1 = ap (λ z. b *ℤ z) more ∙ mul_add b (pos n) (pos 1) in
    let one : a *ℤ pos 1 ≡ a = *ℤ_comm a (pos 1) ∙ one_mul a in
    let two : b *ℤ pos 1 ≡ b = *ℤ_comm b (pos 1) ∙ one_mul b in
    omega (arith, ints, rest, x, y, one, two, less)

-- prices by number that are at most those by kind
pub priced_within : (price : ℕ → ℤ) (f : ArcKind → ℤ) (kinds : List ArcKind) (n : ℕ) (values : List ℕ) → length values ≡ length kinds → ((j : ℕ) (kind : ArcKind) → slice_get kinds j ≡ Some kind → price (n + j) ≤ℤ f kind) → price_from price n values ≤ℤ weigh_signed f kinds (map pos values)
priced_within price f [] n [] size each = omega (arith, ints)
priced_within price f [] n (x ∷ values) size each = absurd (omega (arith, size))
priced_within price f (kind ∷ kinds) n [] size each = absurd (omega (arith, size))
priced_within price f (kind ∷ kinds) n (x ∷ values) size each =
    let rest = priced_within price f kinds (n + 1) values (omega (arith, size)) (λ j other at. let place : n + suc j ≡ n + 1 + j = omega arith in subst (λ (m : ℕ). price m ≤ℤ f other) place (each (suc j) other at)) in
    let place : n + 0 ≡ n = omega arith in
    let first = scaled_le (price n) (f kind) x (subst (λ (m : ℕ). price m ≤ℤ f kind) place (each zero kind refl)) in
    omega (arith, ints, rest, first)

-- prices by number that are those by kind
pub priced_same : (price : ℕ → ℤ) (f : ArcKind → ℤ) (kinds : List ArcKind) (n : ℕ) (values : List ℕ) → length values ≡ length kinds → ((j : ℕ) (kind : ArcKind) → slice_get kinds j ≡ Some kind → price (n + j) ≡ f kind) → price_from price n values ≡ weigh_signed f kinds (map pos values)
priced_same price f [] n [] size each = refl
priced_same price f [] n (x ∷ values) size each = absurd (omega (arith, size))
priced_same price f (kind ∷ kinds) n [] size each = absurd (omega (arith, size))
priced_same price f (kind ∷ kinds) n (x ∷ values) size each =
    let rest = priced_same price f kinds (n + 1) values (omega (arith, size)) (λ j other at. let place : n + suc j ≡ n + 1 + j = omega arith in subst (λ (m : ℕ). price m ≡ f other) place (each (suc j) other at)) in
    let place : n + 0 ≡ n = omega arith in
    let first : price n *ℤ pos x ≡ f kind *ℤ pos x = ap (λ z. z *ℤ pos x) (subst (λ (m : ℕ). price m ≡ f kind) place (each zero kind refl)) in
    omega (arith, ints, rest, first)

-- natural numbers of kinds
pub weigh_natural : (f : ArcKind → ℕ) (kinds : List ArcKind) (values : List ℕ) → weigh_signed (λ kind. pos (f kind)) kinds (map pos values) ≡ pos (weigh_arcs f kinds values)
weigh_natural f [] values = refl
weigh_natural f (kind ∷ kinds) [] = refl
weigh_natural f (kind ∷ kinds) (x ∷ values) =
    let rest = weigh_natural f kinds values in
    let first = pos-*ℤ-pos (f kind) x in
    omega (arith, ints, rest, first)

among_or : (t n : ℕ) → IsAmong t n ⊎ (IsAmong t n → ⊥)
among_or t n = ⊎_elim
    (λ none. inr (λ (a : IsAmong t n). omega (arith, none, a.0)))
    (λ some. ⊎_elim
    (λ over. inr (λ (a : IsAmong t n). omega (arith, over, a.1)))
    (λ within. inl (omega (arith, some), omega (arith, within)))
    (cases_lt n t))
    (cases_eq t 0)

-- what is made of a fact where it holds, and 0 where it does not
abbrev chosen : {Y : Type 0} (Q : (ℕ → ℤ) → Type 0) → Y ⊎ (Y → ⊥) → (Y → (f : ℕ → ℤ) × Q f) → ℕ → ℤ
chosen Q (inl fact) make = (make fact).0
chosen Q (inr none) make = λ v. pos 0

chosen_is : {Y : Type 0} (Q : (ℕ → ℤ) → Type 0) (which : Y ⊎ (Y → ⊥)) (make : Y → (f : ℕ → ℤ) × Q f) → Y → Q (chosen Q which make)
chosen_is Q (inl fact) make given = (make fact).1
chosen_is Q (inr none) make given = absurd (none given)

module _ (g : List TypeValue) (is : IsFlowGraph g) (price : ℕ → ℤ) where
  -- heights of the nodes of a type: no arc is priced above what it falls, and the source stands as high above the target as
  -- some path is priced
  record AreHeights (t : ℕ) (height : ℕ → ℤ) : Type 0 where
    falls : (k : ℕ) (e : TypeArc) → slice_get (flow_type g t).arcs k ≡ Some e → (price (first_arc g t + 1 + k) +ℤ height e.head) ≤ℤ height e.tail
    numbers : List ℕ
    leads : IsNumberedPath g t numbers
    top : way_price price numbers +ℤ height (flow_type g t).nodes ≡ height 1

  module _ (t : ℕ) (among : IsAmong t (length g)) where
    abbrev arcs : List TypeArc
    arcs = (flow_type g t).arcs

    abbrev nodes : ℕ
    nodes = (flow_type g t).nodes

    own : IsFlowType (flow_type g t)
    own = type_is g is t among

    climbs : (e : TypeArc) → Contains arcs e → (1 ≤ e.tail) × (e.tail < e.head) × (e.head ≤ nodes)
    climbs e has = arc_climbs (flow_type g t) own e has

    are_arcs : AreArcs g t price (first_arc g t + 1) arcs
    are_arcs = record {
      numbers = (has_numbers g t among).arcs;
      ordered = own.ordered;
      rise = λ e has. (climbs e has).1;
    }

    -- no path goes on from the target
    stands : (last : ℕ) (path : List TypeArc) (numbers : List ℕ) → IsPath arcs nodes last path → AreNumbersOf g t numbers path → way_price price numbers ≡ pos 0
    stands last [] [] leads are = refl
    stands last [] (a ∷ numbers) leads are = absurd are
    stands last (e ∷ path) numbers leads are = let up = climbs e leads.0 in absurd (omega (arith, up.1, up.2, leads.1))

    -- a path from a node ends in a node
    ends_in_node : (a b : ℕ) (path : List TypeArc) → IsPath arcs a b path → IsAmong a nodes → IsAmong b nodes
    ends_in_node a b [] leads node = (omega (arith, leads, node.0), omega (arith, leads, node.1))
    ends_in_node a b (e ∷ path) leads node = let up = climbs e leads.0 in ends_in_node e.head b path leads.2 (omega (arith, up.0, up.1), up.2)

    -- where no arc goes on there is the target
    stops_at_target : (last : ℕ) → IsAmong last nodes → ((e : TypeArc) → Contains arcs e → e.tail ≡ last → ⊥) → last ≡ nodes
    stops_at_target last node stops = ⊎_elim
        (λ before. let next = own.leaves last node.0 before in absurd (stops next.0 next.1 next.2))
        (λ there. omega (arith, there, node.1))
        (cases_lt last nodes)

    type_heights : (height : ℕ → ℤ) × AreHeights t height
    type_heights =
        let found : Heights g t price (first_arc g t + 1) arcs = heights g t price (first_arc g t + 1) arcs are_arcs in
        let way : Way g t price arcs 1 (found.height 1) = found.ways 1 in
        let end : Way g t price arcs nodes (found.height nodes) = found.ways nodes in
        let last = stops_at_target way.last (ends_in_node 1 way.last way.path way.leads (omega arith, own.source)) way.stops in
        let flat = stands end.last end.path end.numbers end.leads end.are in
        let own_price = way.costs in
        let end_price = end.costs in (
          found.height,
          record {
            falls = found.falls;
            numbers = way.numbers;
            leads = (way.path, subst (λ (v : ℕ). IsPath arcs 1 v way.path) last way.leads, way.are);
            top = omega (arith, ints, flat, own_price, end_price);
          },
        )

  height : ℕ → ℕ → ℤ
  height t = chosen (AreHeights t) (among_or t (length g)) (type_heights t)

  are_heights : (t : ℕ) → IsAmong t (length g) → AreHeights t (height t)
  unfolding height
  are_heights t among = chosen_is (AreHeights t) (among_or t (length g)) (type_heights t) among

  -- nodes stand the lower the higher the price on from them
  abbrev depth : ℕ → ℕ → ℤ
  depth t v = pos 0 -ℤ height t v

  module _ (cost : ArcKind → ℕ) (gains : (t : ℕ) → IsAmong t (length g) → (numbers : List ℕ) → IsNumberedPath g t numbers → way_price price (first_arc g t ∷ numbers) ≤ℤ pos (cost (Bin t))) where
    abbrev Rises : ℕ → ArcKind → Type 0
    Rises a kind = price a ≤ℤ (rise_of g depth kind +ℤ pos (cost kind))

    bin_rises : (t : ℕ) → IsAmong t (length g) → Rises (first_arc g t) (Bin t)
    bin_rises t among =
        let are = are_heights t among in
        let whole = gains t among are.numbers are.leads in
        let top = are.top in
        omega (arith, ints, whole, top)

    arc_rises : (t : ℕ) → IsAmong t (length g) → (k : ℕ) (e : TypeArc) → slice_get (flow_type g t).arcs k ≡ Some e → Rises (first_arc g t + 1 + k) (kind_of t e)
    arc_rises t among k e at =
        let falls = (are_heights t among).falls k e at in
        kind_cases (Rises (first_arc g t + 1 + k)) t e (omega (arith, ints, falls)) (omega (arith, ints, falls))

    kind_rises : (a : ℕ) (kind : ArcKind) → IsKindAt g a kind → Rises a kind
    kind_rises a kind (is_bin t among place same) = subst (λ (b : ℕ). Rises b kind) (sym place) (subst (Rises (first_arc g t)) (sym same) (bin_rises t among))
    kind_rises a kind (is_arc t among k e at place same) = subst (λ (b : ℕ). Rises b kind) (sym place) (subst (Rises (first_arc g t + 1 + k)) (sym same) (arc_rises t among k e at))

    rises : (j : ℕ) (kind : ArcKind) → slice_get (numbered g) j ≡ Some kind → Rises (1 + j) kind
    rises j kind at = let place : suc j ≡ 1 + j = omega arith in subst (λ (a : ℕ). Rises a kind) place (kind_rises (suc j) kind (kind_at g (suc j) kind (number_of g j kind at)))

    pub priced_below : PotentialsCancel → ConservedIsBalanced → (values : List ℕ) → length values ≡ length (numbered g) → AreConserved g values → price_of price values ≤ℤ pos (weigh_arcs cost (numbered g) values)
    priced_below cancel balance values size conserved =
        let whole = priced_within price (λ kind. rise_of g depth kind +ℤ pos (cost kind)) (numbered g) 1 values size rises in
        let parts = weigh_both (rise_of g depth) (λ kind. pos (cost kind)) (numbered g) (map pos values) in
        let nothing = cancel g is (map pos values) (balance.signed g values conserved) depth in
        let natural = weigh_natural cost (numbered g) values in
        omega (arith, ints, whole, parts, nothing, natural)

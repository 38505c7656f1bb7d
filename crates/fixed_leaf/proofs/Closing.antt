-- The prices close the box.
use Rattle.std.proofs.Common.{◌≡◌, ℕ, zero, suc, ◌+◌, ◌-◌, ◌*◌, ◌<◌, true, false, List, [], ◌∷◌, length, get_or, refl, sym, ap, ◌∙◌, subst, ⊎_elim, arith, Some, None, ℤ, pos, negsuc, ◌+ℤ◌, ◌-ℤ◌, ◌*ℤ◌, ◌≤ℤ◌}
use Rattle.std.specs.Prelude.{Option, slice_get, take}
use Rattle.std.proofs.lemmas.Int.{ints}
use Rattle.std.proofs.lemmas.Bool.{both_ways}
use Rattle.std.proofs.lemmas.Option.{get_or_from_slice_get, slice_get-get_or, slice_get_within}
use Rattle.packing_laws.specs.Instances.{InstanceValue, IsAmong}
use Rattle.packing_laws.specs.Packings.{cost_at}
use Rattle.flow_graph.specs.declared.parts.TypeArc.{TypeArc}
use Rattle.flow_graph.specs.declared.parts.ArcKind.{ArcKind}
use Rattle.flow_graph.specs.declared.parts.ArcKind.TheVariants.{Bin, Loss, Piece}
use Rattle.flow_graph.specs.Arcs.{TypeValue, IsFlowGraph, arc_at, first_arc, flow_type, kind_of, numbered}
use Rattle.flow_graph.specs.Balance.{rise_of, weigh_signed}
use Rattle.flow_graph.specs.Chords.{is_chord, is_first_after, is_tree, range_at}
use Rattle.flow_graph.specs.Faithful.{AreNumbersOf, IsPath}
use Rattle.flow_graph.proofs.ArcKinds.{kind_cases, number_of}
use Rattle.flow_graph.proofs.Chords.{chord_or_tree, no_tree}
use Rattle.flow_graph.proofs.Places.{arc_at-suc, has_numbers}
use Rattle.flow_graph.proofs.Potentials.{potentials_cancel}
use Rattle.flow_graph.proofs.SignedSums.{weigh_both, weigh_less}
use Rattle.flow_model.specs.Flows.{arc_cost}
use Rattle.flow_model.specs.Models.{node_place}
use Rattle.flow_model.specs.Prices.{way_price}
use Rattle.cert_text.specs.declared.lines.ArcPrice.{ArcPrice}
use Rattle.cert_text.specs.declared.lines.Prices.{Prices}
use Rattle.path_prices.specs.Gains.{GainsAtMost, arc_price_in, carried_price, item_price_in, whole_price}
use Rattle.path_prices.specs.Worth.{arcs_worth, least_worth}
use Rattle.fixed_leaf.specs.declared.faults.Fault.{Fault}
use Rattle.fixed_leaf.specs.declared.faults.Fault.TheVariants.{Above, Below, Unmet}
use Rattle.fixed_leaf.specs.declared.joints.Joint.{Joint}
use Rattle.fixed_leaf.specs.Leaves.{ChordsAreFixed}
use Rattle.fixed_leaf.specs.inner.Nets.{AreJoints, AreSettled, IsJointOf, joint_at}
use Rattle.fixed_leaf.specs.inner.Priced.{ArePricesFor, carried_by, height_in, items_for, kind_in, listed_from, own_price, scale_for}
use Rattle.fixed_leaf.proofs.Balanced.{balanced, long}
use Rattle.fixed_leaf.proofs.Forests.{tree_here}
use Rattle.fixed_leaf.proofs.Listing.{listed_price, listed_worth, worth_from, worth_least, worth_more}

-- what an arc carries is priced as the list of items says
carried_is : (fault : Option Fault) (p : Prices) → p.items ≡ items_for fault → (kind : ArcKind) → carried_price p (Some kind) ≡ carried_by fault kind
carried_is fault p is (Bin t) = nothing fault where
  nothing : (f : Option Fault) → 0 ≡ carried_by f (Bin t)
  nothing None = refl
  nothing (Some (Below b)) = refl
  nothing (Some (Above b)) = refl
  nothing (Some (Unmet i)) = refl
carried_is fault p is (Loss t tail head) = nothing fault where
  nothing : (f : Option Fault) → 0 ≡ carried_by f (Loss t tail head)
  nothing None = refl
  nothing (Some (Below b)) = refl
  nothing (Some (Above b)) = refl
  nothing (Some (Unmet i)) = refl
carried_is fault p is (Piece t tail head item form) = ap (λ xs. item_price_in xs item) is ∙ listed fault where
  listed : (f : Option Fault) → item_price_in (items_for f) item ≡ carried_by f (Piece t tail head item form)
  listed None = refl
  listed (Some (Below b)) = refl
  listed (Some (Above b)) = refl
  listed (Some (Unmet i)) = refl

module _ (I : InstanceValue) (g : List TypeValue) (is : IsFlowGraph g) (joints : List Joint) (are : AreJoints g joints) (fault : Option Fault) (p : Prices) (given : ArePricesFor I g joints fault p) where
  -- the number of a node
  abbrev pub height : ℕ → ℕ → ℤ
  height t v = height_in given.heights (node_place g t v - 1)

  abbrev scaled : ArcKind → ℕ
  scaled kind = scale_for fault * arc_cost I kind

  abbrev pub price_by : ArcKind → ℤ
  price_by kind = (rise_of g height kind +ℤ pos (scaled kind)) -ℤ pos (carried_by fault kind)

  rise_is : (a : ℕ) (kind : ArcKind) (joint : Joint) → IsJointOf g a kind joint → height_in given.heights joint.head -ℤ height_in given.heights joint.tail ≡ rise_of g height kind
  rise_is a (Bin t) joint own =
      let head : joint.head ≡ node_place g t 1 - 1 = let e = own.head in omega (arith, e) in
      let tail : joint.tail ≡ node_place g t (flow_type g t).nodes - 1 = let e = own.tail in omega (arith, e) in
      λ k. height_in given.heights (head k) -ℤ height_in given.heights (tail k)
  rise_is a (Loss t from to) joint own =
      let head : joint.head ≡ node_place g t to - 1 = let e = own.head in omega (arith, e) in
      let tail : joint.tail ≡ node_place g t from - 1 = let e = own.tail in omega (arith, e) in
      λ k. height_in given.heights (head k) -ℤ height_in given.heights (tail k)
  rise_is a (Piece t from to item form) joint own =
      let head : joint.head ≡ node_place g t to - 1 = let e = own.head in omega (arith, e) in
      let tail : joint.tail ≡ node_place g t from - 1 = let e = own.tail in omega (arith, e) in
      λ k. height_in given.heights (head k) -ℤ height_in given.heights (tail k)

  kind_read : (k : ℕ) (kind : ArcKind) → slice_get (numbered g) k ≡ Some kind → kind_in (numbered g) k ≡ kind
  kind_read k kind at = get_or_from_slice_get (numbered g) k kind (Bin 0) at

  within_joints : (k : ℕ) (kind : ArcKind) → slice_get (numbered g) k ≡ Some kind → k < length joints
  within_joints k kind at = let low = slice_get_within (numbered g) k kind at in let size = are.size in omega (arith, low, size)

  -- the price of each arc
  pub price_is : (k : ℕ) (kind : ArcKind) → slice_get (numbered g) k ≡ Some kind → get_or given.prices k (pos 0) ≡ price_by kind
  price_is k kind at =
      let rise = rise_is (suc k) kind (joint_at joints k) (are.each k kind at) in
      let same = kind_read k kind at in
      given.are.each k (within_joints k kind at)
      ∙ (λ i. ((height_in given.heights (joint_at joints k).head -ℤ height_in given.heights (joint_at joints k).tail) +ℤ pos (scaled (same i))) -ℤ pos (carried_by fault (same i)))
      ∙ ap (λ z. (z +ℤ pos (scaled kind)) -ℤ pos (carried_by fault kind)) rise

  own_is : (k : ℕ) → arc_price_in p.arcs (suc k) ≡ get_or given.prices k (pos 0)
  own_is k = let place : suc k ≡ 1 + k = omega arith in ap (λ (xs : List ArcPrice). arc_price_in xs (suc k)) given.arcs ∙ ap (arc_price_in (listed_from 1 given.prices)) place ∙ listed_price 1 given.prices k

  -- the whole price of an arc is what it rises and costs
  whole_is : (k : ℕ) (kind : ArcKind) → slice_get (numbered g) k ≡ Some kind → whole_price g p (suc k) ≡ rise_of g height kind +ℤ pos (scaled kind)
  whole_is k kind at =
      let own = own_is k ∙ price_is k kind at in
      let carried : carried_price p (arc_at g (suc k)) ≡ carried_by fault kind = ap (carried_price p) (number_of g k kind at) ∙ carried_is fault p given.items kind in
      omega (arith, ints, own, carried)

  whole_at : (a : ℕ) (kind : ArcKind) → arc_at g a ≡ Some kind → whole_price g p a ≡ rise_of g height kind +ℤ pos (scaled kind)
  whole_at zero kind at = cc
  whole_at (suc k) kind at = whole_is k kind (sym (arc_at-suc g k) ∙ at)

  free : (t : ℕ) (e : TypeArc) → scaled (kind_of t e) ≡ 0
  free t e = kind_cases (λ x. scaled x ≡ 0) t e (omega arith) (omega arith)

  rises : (t : ℕ) (e : TypeArc) → rise_of g height (kind_of t e) ≡ height t e.head -ℤ height t e.tail
  rises t e = kind_cases (λ x. rise_of g height x ≡ height t e.head -ℤ height t e.tail) t e refl refl

  -- a path is priced at what it rises
  path_price : (t a b : ℕ) (numbers : List ℕ) (path : List TypeArc) → IsPath (flow_type g t).arcs a b path → AreNumbersOf g t numbers path → way_price (whole_price g p) numbers ≡ height t b -ℤ height t a
  path_price t a b [] [] leads all = let same : height t a ≡ height t b = ap (height t) leads in omega (arith, ints, same)
  path_price t a b [] (e ∷ path) leads all = absurd all
  path_price t a b (n ∷ numbers) [] leads all = absurd all
  path_price t a b (n ∷ numbers) (e ∷ path) leads all =
      let rest = path_price t e.head b numbers path leads.2 all.1 in
      let own = whole_at n (kind_of t e) all.0 in
      let none = free t e in
      let rise = rises t e in
      let tail : height t e.tail ≡ height t a = ap (height t) leads.1 in
      omega (arith, ints, rest, own, none, rise, tail)

  -- no bin gains more than it costs
  pub gains : (t : ℕ) → IsAmong t (length g) → GainsAtMost g p t (pos (p.scale * cost_at I t))
  gains t among numbers path =
      let bin = whole_at (first_arc g t) (Bin t) (has_numbers g t among).bin in
      let way = path_price t 1 (flow_type g t).nodes numbers path.0 path.1 path.2 in
      let scale : p.scale * cost_at I t ≡ scale_for fault * cost_at I t = ap (λ n. n * cost_at I t) given.scale in
      omega (arith, ints, bin, way, scale)

  module _ (box : List (ℕ × ℕ)) (fixed : ChordsAreFixed g box) (values : List ℤ) (settled : AreSettled joints box values) where
    abbrev price : ℕ → ℤ
    price k = get_or given.prices k (pos 0)

    abbrev value : ℕ → ℤ
    value k = get_or values k (pos 0)

    -- a number is worth the least in a range of itself alone
    single_worth : (c : ℤ) (x : ℤ) (r : ℕ × ℕ) → x ≡ pos r.0 → r.0 ≡ r.1 → c *ℤ x ≡ least_worth r c
    single_worth (pos n) x r is one = ap (λ z. pos n *ℤ z) is
    single_worth (negsuc n) x r is one = ap (λ z. negsuc n *ℤ z) (is ∙ ap pos one)

    chord_worth : (k : ℕ) → k < length joints → is_chord g (suc k) ≡ true → (joint_at joints k).tree ≡ false → price k *ℤ value k ≡ least_worth (range_at box (suc k)) (price k)
    chord_worth k within chord none = single_worth (price k) (value k) (range_at box (suc k)) (settled.chords k within none) (fixed (suc k) chord)

    -- a tree arc is priced for a fault alone
    pub tree_price : (k : ℕ) → k < length joints → (joint_at joints k).tree ≡ true → price k ≡ own_price fault (suc k)
    tree_price k within tree =
        let at = tree_here g is joints are k within tree in
        let rise = given.rise.trees k within tree in
        let own = given.are.each k within in
        let none : scaled (kind_in (numbered g) k) ≡ 0 = tree_free k within tree in
        omega (arith, ints, rise, own, none)
      where
        tree_free : (k : ℕ) → k < length joints → (joint_at joints k).tree ≡ true → scaled (kind_in (numbered g) k) ≡ 0
        tree_free k within tree =
            let size = are.size in
            let here = slice_get-get_or (numbered g) k (Bin 0) (omega (arith, within, size)) in
            let joint = are.each k (kind_in (numbered g) k) here in
            not_bin (kind_in (numbered g) k) (number_of g k (kind_in (numbered g) k) here) (sym joint.tree ∙ tree)
          where
            not_bin : (kind : ArcKind) → arc_at g (suc k) ≡ Some kind → is_tree g (suc k) ≡ true → scaled kind ≡ 0
            not_bin (Bin t) at tree = absurd (both_ways (is_tree g (suc k)) (ap (is_first_after (take (suc k - 1) (numbered g))) at) tree)
            not_bin (Loss t tail head) at tree = omega arith
            not_bin (Piece t tail head item form) at tree = omega arith

    -- the sum over all arcs
    pub sum_is : weigh_signed price_by (numbered g) values ≡ weigh_signed (λ kind. pos (scaled kind)) (numbered g) values -ℤ weigh_signed (λ kind. pos (carried_by fault kind)) (numbered g) values
    sum_is =
        let parts = weigh_less (λ kind. rise_of g height kind +ℤ pos (scaled kind)) (λ kind. pos (carried_by fault kind)) (numbered g) values in
        let both = weigh_both (rise_of g height) (λ kind. pos (scaled kind)) (numbered g) values in
        let nothing = potentials_cancel g is values (balanced g is joints are box values settled) height in
        omega (arith, ints, parts, both, nothing)

    worth_is : arcs_worth box p.arcs ≡ worth_from box 1 given.prices
    worth_is = ap (arcs_worth box) given.arcs ∙ listed_worth box 1 given.prices

    prices_long : length given.prices ≡ length (numbered g)
    prices_long = given.are.size ∙ are.size

    -- where tree arcs are priced at no more than they are worth, all are
    module _ (trees : (k : ℕ) → k < length joints → (joint_at joints k).tree ≡ true → (price k *ℤ value k) ≤ℤ least_worth (range_at box (suc k)) (price k)) where
      each_least : (k : ℕ) → k < length (numbered g) → (price k *ℤ value k) ≤ℤ least_worth (range_at box (1 + k)) (price k)
      each_least k within =
          let size = are.size in
          let low : k < length joints = omega (arith, within, size) in
          let at = slice_get-get_or (numbered g) k (Bin 0) within in
          let own = are.each k (kind_in (numbered g) k) at in
          let place : suc k ≡ 1 + k = omega arith in
          subst (λ (a : ℕ). (price k *ℤ value k) ≤ℤ least_worth (range_at box a) (price k)) place
          (⊎_elim
          (λ tree. trees k low (own.tree ∙ tree))
          (λ chord. let same = chord_worth k low chord (own.tree ∙ no_tree g (suc k) chord) in omega (arith, ints, same))
          (chord_or_tree g (suc k) (kind_in (numbered g) k) (number_of g k (kind_in (numbered g) k) at)))

      pub least : weigh_signed price_by (numbered g) values ≤ℤ arcs_worth box p.arcs
      least =
          let sum = worth_least price_by box 1 given.prices (numbered g) values prices_long (long g is joints are box values settled) price_is each_least in
          let same = worth_is in
          omega (arith, ints, sum, same)

      pub more : (k : ℕ) → k < length (numbered g) → ((price k *ℤ value k) +ℤ pos 1) ≤ℤ least_worth (range_at box (suc k)) (price k) → (weigh_signed price_by (numbered g) values +ℤ pos 1) ≤ℤ arcs_worth box p.arcs
      more k within above =
          let place : suc k ≡ 1 + k = omega arith in
          let sum = worth_more price_by box 1 given.prices (numbered g) values k within prices_long (long g is joints are box values settled) price_is each_least (subst (λ (a : ℕ). ((price k *ℤ value k) +ℤ pos 1) ≤ℤ least_worth (range_at box a) (price k)) place above) in
          let same = worth_is in
          omega (arith, ints, sum, same)

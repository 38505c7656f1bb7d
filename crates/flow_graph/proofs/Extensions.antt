-- Values on the chords extend to all arcs in balance, and in one way only.
use Rattle.std.proofs.Common.{◌≡◌, ◌≢◌, ◌⊎◌, ℕ, zero, suc, ◌+◌, ◌-◌, ◌≤◌, ◌<◌, Bool, true, false, cond, ◌==◌, ◌&&◌, List, [], length, set, get_or, refl, sym, ap, ◌∙◌, subst, inl, inr, ⊎_elim, arith, Some}
use Rattle.std.specs.Prelude.{ℤ, pos, ◌+ℤ◌, ◌-ℤ◌, ◌*ℤ◌, slice_get}
use Rattle.std.specs.Option.{IsSomeAnd}
use Rattle.std.proofs.Math.IntN.{zero-*ℤ}
use Rattle.std.proofs.lemmas.Int.{ints}
use Rattle.std.proofs.lemmas.Bool.{and_from, and_parts, cases_eq, eq-eqb, eqb-true, ne_eqb, both_ways, cases_Bool}
use Rattle.std.proofs.lemmas.List.{ext_get_or, get_or-set_other, length-set}
use Rattle.std.proofs.lemmas.Option.{slice_get-get_or}
use Rattle.packing_laws.specs.Instances.{IsAmong}
use Rattle.flow_graph.specs.declared.parts.ArcKind.{ArcKind}
use Rattle.flow_graph.specs.declared.parts.ArcKind.TheVariants.{Bin, Loss, Piece}
use Rattle.flow_graph.specs.Arcs.{TypeValue, IsFlowGraph, flow_type, numbered, arc_at}
use Rattle.flow_graph.specs.Balance.{AgreeOnChords, AreBalanced, HasOneExtension, IsBalanced, signed_total, value_of, weigh_signed}
use Rattle.flow_graph.specs.Chords.{IsTreeArcOf, ends_in, is_chord, is_tree}
use Rattle.flow_graph.specs.Ends.{comes_in, goes_out}
use Rattle.flow_graph.specs.Laws.{HasOneTreeArc}
use Rattle.flow_graph.proofs.Chords.{bin_chord, chord_or_tree, chord_within, no_tree}
use Rattle.flow_graph.proofs.Joins.{Joins, joins}
use Rattle.flow_graph.proofs.ArcKinds.{arc_within, number_of, place_of, type_is}
use Rattle.flow_graph.proofs.Potentials.{and_no, source_balanced}
use Rattle.flow_graph.proofs.SignedProducts.{one_mul}
use Rattle.flow_graph.proofs.SignedSums.{AreAlike, unit_if, weigh_alike, weigh_differ, weigh_set}
use Rattle.flow_graph.proofs.Trees.{one_tree_arc, some_and}

ends_comes : (t v : ℕ) (kind : ArcKind) → ends_in t v kind ≡ true → comes_in t v kind ≡ true
ends_comes t v (Bin s) ends = cc
ends_comes t v (Loss s tail head) ends = ends
ends_comes t v (Piece s tail head item form) ends = ends

comes_ends : (t v : ℕ) (kind : ArcKind) → 2 ≤ v → comes_in t v kind ≡ true → ends_in t v kind ≡ true
comes_ends t v (Bin s) low comes = let own = eqb-true 1 v (and_parts (s == t) (1 == v) comes).1 in absurd (omega (arith, own, low))
comes_ends t v (Loss s tail head) low comes = comes
comes_ends t v (Piece s tail head item form) low comes = comes

never_bin : (t v s : ℕ) (kind : ArcKind) → ends_in t v kind ≡ true → kind ≡ Bin s → ⊥
never_bin t v s kind ends bin = both_ways (ends_in t v kind) (ap (ends_in t v) bin) ends

-- the tree arc of a node: an arc of the type that comes up to the node
record TreeArc (g : List TypeValue) (t v : ℕ) : Type 0 where
  number : ℕ
  kind : ArcKind
  at : arc_at g number ≡ Some kind
  tree : is_tree g number ≡ true
  only : (a : ℕ) → IsTreeArcOf g t v a → a ≡ number
  tail : ℕ
  up : tail < v
  comes : (s w : ℕ) → comes_in s w kind ≡ ((t == s) && (v == w))
  goes : (s w : ℕ) → goes_out g s w kind ≡ ((t == s) && (tail == w))

tree_arc : (g : List TypeValue) → IsFlowGraph g → (t : ℕ) → IsAmong t (length g) → (v : ℕ) → 2 ≤ v → v ≤ (flow_type g t).nodes → TreeArc g t v
tree_arc g is t among v low high =
    let found = one_tree_arc g is t among v low high in
    let there = some_and (arc_at g found.arc) (λ (e : ArcKind). ends_in t v e ≡ true) found.tree.1 in
    let kind : ArcKind = there.0 in
    let own = joins g is found.arc kind there.1 in
    let parts = and_parts (own.t == t) (own.head == v) (sym (own.comes t v) ∙ ends_comes t v kind there.2) in
    let types : own.t ≡ t = eqb-true own.t t parts.0 in
    let heads : own.head ≡ v = eqb-true own.head v parts.1 in
    record {
      number = found.arc;
      kind = kind;
      at = there.1;
      tree = found.tree.0;
      only = found.only;
      tail = own.tail;
      up = ⊎_elim (λ bin. absurd (never_bin t v own.t kind there.2 bin.0)) (λ rises. omega (arith, rises, heads)) own.way;
      comes = λ s w. own.comes s w ∙ (λ k. (types k == s) && (heads k == w));
      goes = λ s w. own.goes s w ∙ ap (λ (n : ℕ). (n == s) && (own.tail == w)) types;
    }

abbrev into : List TypeValue → List ℤ → ℕ → ℕ → ℤ
into g values t v = signed_total (comes_in t v) g values

abbrev from : List TypeValue → List ℤ → ℕ → ℕ → ℤ
from g values t v = signed_total (goes_out g t v) g values

-- the values, with more on one arc
abbrev raised_at : List ℤ → ℕ → ℤ → List ℤ
raised_at values i d = set values i (get_or values i (pos 0) +ℤ d)

no_and : (b c : Bool) → b ≡ false → (b && c) ≡ false
no_and b c none = ap (λ (a : Bool). a && c) none

more_if : (test : ArcKind → Bool) (g : List TypeValue) (values : List ℤ) (a : ℕ) (kind : ArcKind) (d : ℤ) → arc_at g a ≡ Some kind → length values ≡ length (numbered g) → test kind ≡ true → signed_total test g (raised_at values (a - 1) d) ≡ signed_total test g values +ℤ d
more_if test g values a kind d at size passes =
    let whole = weigh_set (unit_if test) (numbered g) values (a - 1) kind d (place_of g a kind at) size in
    let unit : unit_if test kind *ℤ d ≡ d = ap (λ (b : Bool). cond b (pos 1) (pos 0) *ℤ d) passes ∙ one_mul d in
    omega (arith, ints, whole, unit)

same_if : (test : ArcKind → Bool) (g : List TypeValue) (values : List ℤ) (a : ℕ) (kind : ArcKind) (d : ℤ) → arc_at g a ≡ Some kind → length values ≡ length (numbered g) → test kind ≡ false → signed_total test g (raised_at values (a - 1) d) ≡ signed_total test g values
same_if test g values a kind d at size fails =
    let whole = weigh_set (unit_if test) (numbered g) values (a - 1) kind d (place_of g a kind at) size in
    let unit : unit_if test kind *ℤ d ≡ pos 0 = ap (λ (b : Bool). cond b (pos 1) (pos 0) *ℤ d) fails ∙ zero-*ℤ d in
    omega (arith, ints, whole, unit)

-- the nodes of type t above v are balanced, and elsewhere nothing is changed
record IsSettled (g : List TypeValue) (t v : ℕ) (old new : List ℤ) : Type 0 where
  size : length new ≡ length (numbered g)
  chords : AgreeOnChords g new old
  balanced : (w : ℕ) → v < w → w ≤ (flow_type g t).nodes → IsBalanced g new t w
  others : (s w : ℕ) → s ≢ t → IsBalanced g old s w → IsBalanced g new s w

settle_node : (g : List TypeValue) → IsFlowGraph g → (t : ℕ) → IsAmong t (length g) → (v : ℕ) → 2 ≤ suc v → suc v ≤ (flow_type g t).nodes → (old new : List ℤ) → IsSettled g t (suc v) old new → (next : List ℤ) × IsSettled g t v old next
settle_node g is t among v low high old new settled =
    let arc = tree_arc g is t among (suc v) low high in
    let i : ℕ = arc.number - 1 in
    let d : ℤ = from g new t (suc v) -ℤ into g new t (suc v) in
    let next : List ℤ = raised_at new i d in
    let within = arc_within g arc.number arc.kind arc.at in
    let up = arc.up in
    let none_in : (s w : ℕ) → comes_in s w arc.kind ≡ false → into g next s w ≡ into g new s w = λ s w fails. same_if (comes_in s w) g new arc.number arc.kind d arc.at settled.size fails in
    let none_out : (s w : ℕ) → goes_out g s w arc.kind ≡ false → from g next s w ≡ from g new s w = λ s w fails. same_if (goes_out g s w) g new arc.number arc.kind d arc.at settled.size fails in
    let not_out : (w : ℕ) → suc v ≤ w → goes_out g t w arc.kind ≡ false = λ w above. arc.goes t w ∙ and_no (t == t) (arc.tail == w) (ne_eqb arc.tail w (λ e. omega (arith, e, above, up))) in
    let here : IsBalanced g next t (suc v) =
    let more = more_if (comes_in t (suc v)) g new arc.number arc.kind d arc.at settled.size (arc.comes t (suc v) ∙ and_from (t == t) (suc v == suc v) (eq-eqb t t refl) (eq-eqb (suc v) (suc v) refl)) in
    let same = none_out t (suc v) (not_out (suc v) (omega arith)) in
    omega (arith, ints, more, same) in (
      next,
      record {
        size = length-set new i (get_or new i (pos 0) +ℤ d) ∙ settled.size;
        chords = λ a chord. get_or-set_other new i (a - 1) (get_or new i (pos 0) +ℤ d) (pos 0) (λ e. not_the_chord a chord e) ∙ settled.chords a chord;
        balanced = λ w above most. ⊎_elim
            (λ same. subst (IsBalanced g next t) (sym same) here)
            (λ apart.
            let one = none_in t w (arc.comes t w ∙ and_no (t == t) (suc v == w) (ne_eqb (suc v) w (λ e. apart (sym e)))) in
            let two = none_out t w (not_out w (omega (arith, above))) in
            one ∙ settled.balanced w (omega (arith, above, apart)) most ∙ sym two)
            (cases_eq w (suc v));
        others = λ s w apart held.
            let one = none_in s w (arc.comes s w ∙ no_and (t == s) (suc v == w) (ne_eqb t s (λ e. apart (sym e)))) in
            let two = none_out s w (arc.goes s w ∙ no_and (t == s) (arc.tail == w) (ne_eqb t s (λ e. apart (sym e)))) in
            one ∙ settled.others s w apart held ∙ sym two;
      },
    ) where
      not_the_chord : (a : ℕ) → is_chord g a ≡ true → a - 1 ≡ (tree_arc g is t among (suc v) low high).number - 1 → ⊥
      not_the_chord a chord e =
          let arc = tree_arc g is t among (suc v) low high in
          let within = arc_within g arc.number arc.kind arc.at in
          let own = chord_within g a chord in
          let same : a ≡ arc.number = omega (arith, e, within.0, own.0) in
          both_ways (is_tree g arc.number) (subst (λ (n : ℕ). is_tree g n ≡ false) same (no_tree g a chord)) arc.tree

-- all nodes of a type above v
settle_above : (g : List TypeValue) → IsFlowGraph g → (t : ℕ) → IsAmong t (length g) → (old : List ℤ) → length old ≡ length (numbered g) → (steps v : ℕ) → 1 ≤ v → v + steps ≡ (flow_type g t).nodes → (new : List ℤ) × IsSettled g t v old new
settle_above g is t among old size zero v low far = (
  old,
  record {
    size = size;
    chords = λ a chord. refl;
    balanced = λ w above most. absurd (omega (arith, above, most, far));
    others = λ s w apart held. held;
  },
)
settle_above g is t among old size (suc steps) v low far =
    let above = settle_above g is t among old size steps (suc v) (omega arith) (omega (arith, far)) in
    settle_node g is t among v (omega (arith, low)) (omega (arith, far)) old above.0 above.1

-- all nodes of the first n types are balanced, but for their sources
record AreSettled (g : List TypeValue) (n : ℕ) (old new : List ℤ) : Type 0 where
  size : length new ≡ length (numbered g)
  chords : AgreeOnChords g new old
  balanced : (t w : ℕ) → IsAmong t n → 2 ≤ w → w ≤ (flow_type g t).nodes → IsBalanced g new t w

settle_types : (g : List TypeValue) → IsFlowGraph g → (old : List ℤ) → length old ≡ length (numbered g) → (n : ℕ) → n ≤ length g → (new : List ℤ) × AreSettled g n old new
settle_types g is old size zero few = (
  old,
  record {
    size = size;
    chords = λ a chord. refl;
    balanced = λ t w among low high. absurd (omega (arith, among.0, among.1));
  },
)
settle_types g is old size (suc n) few =
    let first = settle_types g is old size n (omega (arith, few)) in
    let among : IsAmong (suc n) (length g) = (omega arith, few) in
    let source = (type_is g is (suc n) among).source in
    let last = settle_above g is (suc n) among first.0 first.1.size ((flow_type g (suc n)).nodes - 1) 1 (omega arith) (omega (arith, source)) in (
      last.0,
      record {
        size = last.1.size;
        chords = λ a chord. last.1.chords a chord ∙ first.1.chords a chord;
        balanced = λ t w own low high. ⊎_elim
            (λ same. subst (λ (s : ℕ). IsBalanced g last.0 s w) (sym same) (last.1.balanced w low (subst (λ (s : ℕ). w ≤ (flow_type g s).nodes) same high)))
            (λ apart. last.1.others t w apart (first.1.balanced t w (own.0, omega (arith, own.1, apart)) low high))
            (cases_eq t (suc n));
      },
    )

-- the values of two balanced lists that agree on the chords, on the arcs of a type above v
module _ (g : List TypeValue) (is : IsFlowGraph g) (xs ys : List ℤ) (long : length xs ≡ length (numbered g)) (far : length ys ≡ length (numbered g)) (agree : AgreeOnChords g xs ys) (left : AreBalanced g xs) (right : AreBalanced g ys) (t : ℕ) (among : IsAmong t (length g)) where
  -- the arc ends above v: the values are the same
  abbrev SameAbove : ℕ → Type 0
  SameAbove v = (a : ℕ) (kind : ArcKind) (w : ℕ) → arc_at g a ≡ Some kind → ends_in t w kind ≡ true → v < w → value_of xs a ≡ value_of ys a

  number_place : (i : ℕ) → suc i - 1 ≡ i
  number_place i = omega arith

  -- at a place of the row
  at_place : (i : ℕ) → value_of xs (suc i) ≡ value_of ys (suc i) → get_or xs i (pos 0) ≡ get_or ys i (pos 0)
  at_place i same = subst (λ (n : ℕ). get_or xs n (pos 0) ≡ get_or ys n (pos 0)) (number_place i) same

  out_alike : (v : ℕ) → SameAbove v → (i : ℕ) (kind : ArcKind) → slice_get (numbered g) i ≡ Some kind → AreAlike (unit_if (goes_out g t v) kind) (get_or xs i (pos 0)) (get_or ys i (pos 0))
  out_alike v above i kind at =
      let here = number_of g i kind at in
      let own = joins g is (suc i) kind here in
      ⊎_elim
      (λ passes.
      let parts = and_parts (own.t == t) (own.tail == v) (sym (own.goes t v) ∙ passes) in
      let types : own.t ≡ t = eqb-true own.t t parts.0 in
      let tails : own.tail ≡ v = eqb-true own.tail v parts.1 in
      inr (at_place i (⊎_elim
      (λ bin. agree (suc i) (bin_chord g (suc i) own.t (here ∙ ap Some bin.0)))
      (λ rises.
      let comes : comes_in t own.head kind ≡ true = own.comes t own.head ∙ and_from (own.t == t) (own.head == own.head) (eq-eqb own.t t types) (eq-eqb own.head own.head refl) in
      above (suc i) kind own.head here (comes_ends t own.head kind (omega (arith, rises, own.from.0)) comes) (omega (arith, rises, tails)))
      own.way)))
      (λ fails. inl (ap (λ (b : Bool). cond b (pos 1) (pos 0)) fails))
      (cases_Bool (goes_out g t v kind))

  in_alike : (v : ℕ) → 2 ≤ v → (arc : TreeArc g t v) → (j : ℕ) (kind : ArcKind) → slice_get (numbered g) j ≡ Some kind → j ≢ arc.number - 1 → AreAlike (unit_if (comes_in t v) kind) (get_or xs j (pos 0)) (get_or ys j (pos 0))
  in_alike v low arc j kind at apart =
      let here = number_of g j kind at in
      ⊎_elim
      (λ passes.
      let ends = comes_ends t v kind low passes in
      inr (at_place j (⊎_elim
      (λ tree. let own : suc j ≡ arc.number = arc.only (suc j) (tree, subst (λ o. IsSomeAnd o (λ e. ends_in t v e ≡ true)) (sym here) ends) in absurd (apart (omega (arith, own))))
      (λ chord. agree (suc j) chord)
      (chord_or_tree g (suc j) kind here))))
      (λ fails. inl (ap (λ (b : Bool). cond b (pos 1) (pos 0)) fails))
      (cases_Bool (comes_in t v kind))

  tree_same : (v : ℕ) → 2 ≤ v → v ≤ (flow_type g t).nodes → SameAbove v → (arc : TreeArc g t v) → value_of xs arc.number ≡ value_of ys arc.number
  tree_same v low high above arc =
      let i : ℕ = arc.number - 1 in
      let unit : unit_if (comes_in t v) arc.kind ≡ pos 1 = ap (λ (b : Bool). cond b (pos 1) (pos 0)) (arc.comes t v ∙ and_from (t == t) (v == v) (eq-eqb t t refl) (eq-eqb v v refl)) in
      let differ = weigh_differ (unit_if (comes_in t v)) (numbered g) xs ys i arc.kind (place_of g arc.number arc.kind arc.at) unit long far (in_alike v low arc) in
      let same = weigh_alike (unit_if (goes_out g t v)) (numbered g) xs ys long far (out_alike v above) in
      let one = left t v among (omega (arith, low), high) in
      let two = right t v among (omega (arith, low), high) in
      omega (arith, ints, differ, same, one, two)

  same_above : (steps v : ℕ) → 1 ≤ v → v + steps ≡ (flow_type g t).nodes → SameAbove v
  same_above zero v low all a kind w at ends over =
      let own = joins g is a kind at in
      let parts = and_parts (own.t == t) (own.head == w) (sym (own.comes t w) ∙ ends_comes t w kind ends) in
      let types : own.t ≡ t = eqb-true own.t t parts.0 in
      let heads : own.head ≡ w = eqb-true own.head w parts.1 in
      let top : own.head ≤ (flow_type g t).nodes = subst (λ (s : ℕ). own.head ≤ (flow_type g s).nodes) types own.to.1 in
      absurd (omega (arith, heads, top, over, all))
  same_above (suc steps) v low all a kind w at ends over =
      let higher = same_above steps (suc v) (omega arith) (omega (arith, all)) in
      ⊎_elim
      (λ here. ⊎_elim
      (λ tree.
      let arc = tree_arc g is t among (suc v) (omega (arith, low)) (omega (arith, all)) in
      let own : a ≡ arc.number = arc.only a (tree, subst (λ o. IsSomeAnd o (λ e. ends_in t (suc v) e ≡ true)) (sym at) (subst (λ (n : ℕ). ends_in t n kind ≡ true) here ends)) in
      let same = tree_same (suc v) (omega (arith, low)) (omega (arith, all)) higher arc in
      subst (λ (n : ℕ). value_of xs n ≡ value_of ys n) (sym own) same)
      (λ chord. agree a chord)
      (chord_or_tree g a kind at))
      (λ apart. higher a kind w at ends (omega (arith, over, apart)))
      (cases_eq w (suc v))

  pub arcs_same : (a : ℕ) (kind : ArcKind) (w : ℕ) → arc_at g a ≡ Some kind → ends_in t w kind ≡ true → 2 ≤ w → value_of xs a ≡ value_of ys a
  arcs_same a kind w at ends low =
      let source = (type_is g is t among).source in
      same_above ((flow_type g t).nodes - 1) 1 (omega arith) (omega (arith, source)) a kind w at ends low

all_same : (g : List TypeValue) (is : IsFlowGraph g) (xs ys : List ℤ) → length xs ≡ length (numbered g) → length ys ≡ length (numbered g) → AgreeOnChords g xs ys → AreBalanced g xs → AreBalanced g ys → (a : ℕ) (kind : ArcKind) → arc_at g a ≡ Some kind → value_of xs a ≡ value_of ys a
all_same g is xs ys long far agree left right a kind at =
    let own = joins g is a kind at in
    ⊎_elim
    (λ bin. agree a (bin_chord g a own.t (at ∙ ap Some bin.0)))
    (λ rises.
    let low : 2 ≤ own.head = omega (arith, rises, own.from.0) in
    let comes : comes_in own.t own.head kind ≡ true = own.comes own.t own.head ∙ and_from (own.t == own.t) (own.head == own.head) (eq-eqb own.t own.t refl) (eq-eqb own.head own.head refl) in
    arcs_same g is xs ys long far agree left right own.t own.of_type a kind own.head at (comes_ends own.t own.head kind low comes) low)
    own.way

lists_same : (g : List TypeValue) (is : IsFlowGraph g) (xs ys : List ℤ) → length xs ≡ length (numbered g) → length ys ≡ length (numbered g) → AgreeOnChords g xs ys → AreBalanced g xs → AreBalanced g ys → xs ≡ ys
lists_same g is xs ys long far agree left right = ext_get_or (pos 0) xs ys (long ∙ sym far) (λ i within.
    let short : i < length (numbered g) = omega (arith, within, long) in
    let kind : ArcKind = get_or (numbered g) i (Bin 0) in
    let at = number_of g i kind (slice_get-get_or (numbered g) i (Bin 0) short) in
    let e : suc i - 1 ≡ i = omega arith in
    subst (λ (n : ℕ). get_or xs n (pos 0) ≡ get_or ys n (pos 0)) e (all_same g is xs ys long far agree left right (suc i) kind at))

pub chords_extend : (g : List TypeValue) → IsFlowGraph g → (values : List ℤ) → length values ≡ length (numbered g) → HasOneExtension g values
chords_extend g is values size =
    let found = settle_types g is values size (length g) (omega arith) in
    let whole : List ℤ = found.0 in
    let settled = found.1 in
    let balanced : AreBalanced g whole = λ t v type node. ⊎_elim
    (λ first. subst (IsBalanced g whole t) (sym first) (source_balanced g is whole t type (type_is g is t type).source (λ w low high. settled.balanced t w type low high)))
    (λ later. settled.balanced t v type (omega (arith, node.0, later)) node.1)
    (cases_eq v 1) in
    record {
      whole = whole;
      size = settled.size;
      chords = settled.chords;
      balanced = balanced;
      only = λ other long agree held. lists_same g is other whole long settled.size (λ a chord. agree a chord ∙ sym (settled.chords a chord)) held balanced;
    }

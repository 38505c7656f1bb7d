-- What the way of one bin adds to a flow.
use Rattle.std.proofs.Common.{◌≡◌, ℕ, ◌+◌, ◌-◌, ◌<◌, ◌≤◌, Bool, cond, ◌==◌, ◌&&◌, List, [], ◌∷◌, length, refl, sym, ap, ◌∙◌, ⊎_elim, arith, All, sum_by, Some}
use Rattle.std.specs.Prelude.{Contains, count_by}
use Rattle.std.proofs.lemmas.Bool.{cases_eq, eq-eqb, ne_eqb, cond-true, cond-false}
use Rattle.std.proofs.lemmas.List.Sums.{sum_by-cons}
use Rattle.std.proofs.lemmas.List.Elements.{All-contains}
use Rattle.packing_laws.specs.declared.packings.Count.{Count}
use Rattle.packing_laws.specs.Instances.{InstanceValue, IsAmong}
use Rattle.packing_laws.specs.Packings.{Content, count_of_item, cost_at}
use Rattle.packing_laws.proofs.SameContents.{same-item}
use Rattle.flow_graph.specs.declared.parts.TypeArc.{TypeArc}
use Rattle.flow_graph.specs.declared.parts.ArcKind.{ArcKind}
use Rattle.flow_graph.specs.declared.parts.ArcKind.TheVariants.{Bin, Loss, Piece}
use Rattle.flow_graph.specs.Arcs.{TypeValue, IsFlowType, IsFlowGraph, flow_type, numbered, arc_at, kind_of, first_arc}
use Rattle.flow_graph.specs.Faithful.{IsPath, AreNumbersOf, content_of, unit_of}
use Rattle.flow_graph.proofs.ArcKinds.{comes_kind, goes_kind, kind_cases, some_same, tail_kind, tail_of}
use Rattle.flow_graph.proofs.Places.{has_numbers}
use Rattle.flow_graph.specs.Ends.{comes_in, goes_out}
use Rattle.flow_model.specs.Flows.{carries, arc_cost}
use Rattle.flow_model.specs.Packed.{IsWayOf}
use Rattle.flow_model.proofs.Counts.{at, at_arc, at_path, sum_by-zero}

-- f of a unit of flow on the way of a bin
pub way_sum : (g : List TypeValue) (f : ArcKind → ℕ) (bin : ℕ × Content) (way : List ℕ) → IsAmong bin.0 (length g) → (is : IsWayOf g bin way) → sum_by (at f (numbered g) 1) way ≡ f (Bin bin.0) + sum_by (λ e. f (kind_of bin.0 e)) is.path
way_sum g f bin way among is =
    let first = at_arc g f (first_arc g bin.0) (Bin bin.0) (has_numbers g bin.0 among).bin in
    let rest = at_path g f bin.0 is.numbers is.path is.are in
    let whole : sum_by (at f (numbered g) 1) (first_arc g bin.0 ∷ is.numbers) ≡ at f (numbered g) 1 (first_arc g bin.0) + sum_by (at f (numbered g) 1) is.numbers = sum_by-cons (at f (numbered g) 1) (first_arc g bin.0) is.numbers in
    ap (sum_by (at f (numbered g) 1)) is.closed ∙ omega (arith, first, rest, whole)

-- a path leaves each node as often as it enters it, but for its two ends
pub path_conserved : (arcs : List TypeArc) (q : Bool) (v a b : ℕ) (path : List TypeArc) → IsPath arcs a b path → sum_by (λ e. cond (q && (e.head == v)) 1 0) path + cond (q && (a == v)) 1 0 ≡ sum_by (λ e. cond (q && (e.tail == v)) 1 0) path + cond (q && (b == v)) 1 0
path_conserved arcs q v a b [] leads = ap (λ (n : ℕ). 0 + cond (q && (n == v)) 1 0) leads
path_conserved arcs q v a b (e ∷ path) leads =
    let rest = path_conserved arcs q v e.head b path leads.2 in
    let here : cond {A = ℕ} (q && (e.tail == v)) 1 0 ≡ cond (q && (a == v)) 1 0 = ap (λ (n : ℕ). cond {A = ℕ} (q && (n == v)) 1 0) leads.1 in
    let heads : sum_by (λ (f : TypeArc). cond (q && (f.head == v)) 1 0) (e ∷ path) ≡ cond (q && (e.head == v)) 1 0 + sum_by (λ (f : TypeArc). cond (q && (f.head == v)) 1 0) path = sum_by-cons (λ (f : TypeArc). cond (q && (f.head == v)) 1 0) e path in
    let tails : sum_by (λ (f : TypeArc). cond (q && (f.tail == v)) 1 0) (e ∷ path) ≡ cond (q && (e.tail == v)) 1 0 + sum_by (λ (f : TypeArc). cond (q && (f.tail == v)) 1 0) path = sum_by-cons (λ (f : TypeArc). cond (q && (f.tail == v)) 1 0) e path in
    omega (arith, rest, here, heads, tails)

abbrev pub one_if : (ArcKind → Bool) → ArcKind → ℕ
one_if test kind = cond (test kind) 1 0

pub way_conserved : (g : List TypeValue) (t v : ℕ) (bin : ℕ × Content) (way : List ℕ) → IsAmong bin.0 (length g) → IsWayOf g bin way → sum_by (at (one_if (comes_in t v)) (numbered g) 1) way ≡ sum_by (at (one_if (goes_out g t v)) (numbered g) 1) way
way_conserved g t v bin way among is =
    let s : ℕ = bin.0 in
    let n : ℕ = (flow_type g s).nodes in
    let one = way_sum g (one_if (comes_in t v)) bin way among is in
    let two = way_sum g (one_if (goes_out g t v)) bin way among is in
    let heads : sum_by (λ e. one_if (comes_in t v) (kind_of s e)) is.path ≡ sum_by (λ e. cond ((s == t) && (e.head == v)) 1 0) is.path = λ k. sum_by (λ (e : TypeArc). cond {A = ℕ} (comes_kind t v s e k) 1 0) is.path in
    let tails : sum_by (λ e. one_if (goes_out g t v) (kind_of s e)) is.path ≡ sum_by (λ e. cond ((s == t) && (e.tail == v)) 1 0) is.path = λ k. sum_by (λ (e : TypeArc). cond {A = ℕ} (goes_kind g t v s e k) 1 0) is.path in
    let whole = path_conserved (flow_type g s).arcs (s == t) v 1 n is.path is.leads in
    omega (arith, one, two, heads, tails, whole)

-- only the bin arc costs
pub cost_kind : (I : InstanceValue) (s : ℕ) (e : TypeArc) → arc_cost I (kind_of s e) ≡ 0
cost_kind I s e = kind_cases (λ kind. arc_cost I kind ≡ 0) s e refl refl

pub way_cost : (I : InstanceValue) (g : List TypeValue) (bin : ℕ × Content) (way : List ℕ) → IsAmong bin.0 (length g) → IsWayOf g bin way → sum_by (at (arc_cost I) (numbered g) 1) way ≡ cost_at I bin.0
way_cost I g bin way among is =
    let one = way_sum g (arc_cost I) bin way among is in
    let none = sum_by-zero (λ (e : TypeArc). arc_cost I (kind_of bin.0 e)) is.path (cost_kind I bin.0) in
    omega (arith, one, none)

-- a path carries as many units of an item as its content has
pub path_carries : (i s : ℕ) → 1 ≤ i → (path : List TypeArc) → sum_by (λ e. one_if (carries i) (kind_of s e)) path ≡ count_of_item i (content_of path)
path_carries i s low [] = refl
path_carries i s low (e ∷ path) =
    let rest = path_carries i s low path in
    let first : sum_by (λ e. one_if (carries i) (kind_of s e)) (e ∷ path) ≡ one_if (carries i) (kind_of s e) + sum_by (λ e. one_if (carries i) (kind_of s e)) path = sum_by-cons (λ (e : TypeArc). one_if (carries i) (kind_of s e)) e path in
    ⊎_elim
    (λ none.
    let test = eq-eqb e.item 0 none in
    let loss : kind_of s e ≡ Loss s e.tail e.head = cond-true (e.item == 0) (Loss s e.tail e.head) (Piece s e.tail e.head e.item e.form) test in
    let content : content_of (e ∷ path) ≡ content_of path = cond-true (e.item == 0) (content_of path) (unit_of e ∷ content_of path) test in
    let nothing : one_if (carries i) (kind_of s e) ≡ 0 = ap (one_if (carries i)) loss in
    let same : count_of_item i (content_of (e ∷ path)) ≡ count_of_item i (content_of path) = ap (count_of_item i) content in
    omega (arith, rest, first, nothing, same))
    (λ some.
    let test = ne_eqb e.item 0 some in
    let piece : kind_of s e ≡ Piece s e.tail e.head e.item e.form = cond-false (e.item == 0) (Loss s e.tail e.head) (Piece s e.tail e.head e.item e.form) test in
    let content : content_of (e ∷ path) ≡ unit_of e ∷ content_of path = cond-false (e.item == 0) (content_of path) (unit_of e ∷ content_of path) test in
    let unit : one_if (carries i) (kind_of s e) ≡ cond (e.item == i) 1 0 = ap (one_if (carries i)) piece in
    let more : count_of_item i (unit_of e ∷ content_of path) ≡ cond (e.item == i) 1 0 + count_of_item i (content_of path) = sum_by-cons (λ (n : Count). cond (n.item == i) n.count 0) (unit_of e) (content_of path) in
    let same : count_of_item i (content_of (e ∷ path)) ≡ count_of_item i (unit_of e ∷ content_of path) = ap (count_of_item i) content in
    omega (arith, rest, first, unit, more, same))
    (cases_eq e.item 0)

pub way_carries : (g : List TypeValue) (i : ℕ) → 1 ≤ i → (bin : ℕ × Content) (way : List ℕ) → IsAmong bin.0 (length g) → IsWayOf g bin way → sum_by (at (one_if (carries i)) (numbered g) 1) way ≡ count_of_item i bin.1
way_carries g i low bin way among is =
    let one = way_sum g (one_if (carries i)) bin way among is in
    let path = path_carries i bin.0 low is.path in
    let same = same-item i (content_of is.path) bin.1 is.content in
    omega (arith, one, path, same)

-- an arc that goes out before a node is on no path from there on, and no arc is twice on a path
module _ (g : List TypeValue) (s : ℕ) (up : All (λ e. (1 ≤ e.tail) × (e.tail < e.head) × (e.head ≤ (flow_type g s).nodes)) (flow_type g s).arcs) (a : ℕ) (kind : ArcKind) (is : arc_at g a ≡ Some kind) where
  rises : (e : TypeArc) → Contains (flow_type g s).arcs e → e.tail < e.head
  rises e has = (All-contains (λ (e : TypeArc). (1 ≤ e.tail) × (e.tail < e.head) × (e.head ≤ (flow_type g s).nodes)) (flow_type g s).arcs e up has).1

  same_tail : (m : ℕ) (e : TypeArc) → arc_at g m ≡ Some (kind_of s e) → m ≡ a → e.tail ≡ tail_of kind
  same_tail m e at same = sym (tail_kind s e) ∙ ap tail_of (some_same (kind_of s e) kind (sym at ∙ ap (arc_at g) same ∙ is))

  pub not_later : (u w : ℕ) (numbers : List ℕ) (path : List TypeArc) → IsPath (flow_type g s).arcs u w path → AreNumbersOf g s numbers path → tail_of kind < u → count_by (λ m. m == a) numbers ≡ 0
  not_later u w [] [] leads are before = refl
  not_later u w [] (e ∷ path) leads are before = absurd are
  not_later u w (m ∷ numbers) [] leads are before = absurd are
  not_later u w (m ∷ numbers) (e ∷ path) leads are before =
      let up_here = rises e leads.0 in
      let tail = leads.1 in
      let rest = not_later e.head w numbers path leads.2 are.1 (omega (arith, before, up_here, tail)) in
      let other : cond {A = ℕ} (m == a) 1 0 ≡ 0 = cond-false (m == a) 1 0 (ne_eqb m a (λ same. let own = same_tail m e are.0 same in omega (arith, own, before, tail))) in
      rw sum_by-cons (omega (arith, rest, other))

  pub at_most_once : (u w : ℕ) (numbers : List ℕ) (path : List TypeArc) → IsPath (flow_type g s).arcs u w path → AreNumbersOf g s numbers path → count_by (λ m. m == a) numbers ≤ 1
  at_most_once u w [] [] leads are = omega arith
  at_most_once u w [] (e ∷ path) leads are = absurd are
  at_most_once u w (m ∷ numbers) [] leads are = absurd are
  at_most_once u w (m ∷ numbers) (e ∷ path) leads are =
      let rest = at_most_once e.head w numbers path leads.2 are.1 in
      let up_here = rises e leads.0 in
      ⊎_elim
      (λ same.
      let own = same_tail m e are.0 same in
      let none = not_later e.head w numbers path leads.2 are.1 (omega (arith, own, up_here)) in
      let one : cond {A = ℕ} (m == a) 1 0 ≡ 1 = cond-true (m == a) 1 0 (eq-eqb m a same) in
      rw sum_by-cons (omega (arith, one, none)))
      (λ apart.
      let other : cond {A = ℕ} (m == a) 1 0 ≡ 0 = cond-false (m == a) 1 0 (ne_eqb m a apart) in
      rw sum_by-cons (omega (arith, rest, other)))
      (cases_eq m a)

-- how often an arc is on the way of a bin, at most
abbrev pub most : ArcKind → ℕ × Content → ℕ
most (Bin t) bin = cond (bin.0 == t) 1 0
most (Loss t tail head) bin = 1
most (Piece t tail head item form) bin = 1

-- the bin arc of a way, and the arcs of its path
pub record Found (g : List TypeValue) (a : ℕ) (kind : ArcKind) (s count : ℕ) : Type 0 where
  first : arc_at g (first_arc g s) ≡ Some (Bin s)
  others : ℕ
  whole : count ≡ cond (first_arc g s == a) 1 0 + others
  once : others ≤ 1
  none : tail_of kind < 1 → others ≡ 0

pub found : (g : List TypeValue) → IsFlowGraph g → (a : ℕ) (kind : ArcKind) → arc_at g a ≡ Some kind → (bin : ℕ × Content) (way : List ℕ) → IsAmong bin.0 (length g) → IsWayOf g bin way → Found g a kind bin.0 (count_by (λ m. m == a) way)
found g graph a kind at bin way among is =
    let s : ℕ = bin.0 in
    let own : IsFlowType (flow_type g s) = graph.each (s - 1) (record { nodes = 1; arcs = [] }) (omega (arith, among.0, among.1)) in
    record {
      first = (has_numbers g s among).bin;
      others = count_by (λ m. m == a) is.numbers;
      whole = ap (count_by (λ m. m == a)) is.closed ∙ sum_by-cons (λ m. cond (m == a) 1 0) (first_arc g s) is.numbers;
      once = at_most_once g s own.climbs a kind at 1 (flow_type g s).nodes is.numbers is.path is.leads is.are;
      none = λ before. not_later g s own.climbs a kind at 1 (flow_type g s).nodes is.numbers is.path is.leads is.are before;
    }

pub bin_same : (s t : ℕ) → Some (Bin s) ≡ Some (Bin t) → s ≡ t
bin_same s t h = cc

pub not_loss : (s t tail head : ℕ) → Some (Bin s) ≡ Some (Loss t tail head) → ⊥
not_loss s t tail head h = cc

pub not_piece : (s t tail head item form : ℕ) → Some (Bin s) ≡ Some (Piece t tail head item form) → ⊥
not_piece s t tail head item form h = cc

pub other_arc : (g : List TypeValue) (a : ℕ) (kind : ArcKind) (s count : ℕ) → Found g a kind s count → (first_arc g s ≡ a → ⊥) → count ≤ 1
other_arc g a kind s count is apart =
    let none : cond {A = ℕ} (first_arc g s == a) 1 0 ≡ 0 = cond-false (first_arc g s == a) 1 0 (ne_eqb (first_arc g s) a apart) in
    let whole = is.whole in
    let once = is.once in
    omega (arith, none, whole, once)

pub way_most : (g : List TypeValue) → IsFlowGraph g → (a : ℕ) (kind : ArcKind) → arc_at g a ≡ Some kind → (bin : ℕ × Content) (way : List ℕ) → IsAmong bin.0 (length g) → IsWayOf g bin way → count_by (λ m. m == a) way ≤ most kind bin
way_most g graph a (Bin t) at bin way among is =
    let there = found g graph a (Bin t) at bin way among is in
    let whole = there.whole in
    let rest = there.none (omega arith) in
    ⊎_elim
    (λ same.
    let types : bin.0 ≡ t = bin_same bin.0 t (sym there.first ∙ ap (arc_at g) same ∙ at) in
    let one : cond {A = ℕ} (first_arc g bin.0 == a) 1 0 ≡ 1 = cond-true (first_arc g bin.0 == a) 1 0 (eq-eqb (first_arc g bin.0) a same) in
    let own : cond {A = ℕ} (bin.0 == t) 1 0 ≡ 1 = cond-true (bin.0 == t) 1 0 (eq-eqb bin.0 t types) in
    omega (arith, whole, rest, one, own))
    (λ apart.
    let none : cond {A = ℕ} (first_arc g bin.0 == a) 1 0 ≡ 0 = cond-false (first_arc g bin.0 == a) 1 0 (ne_eqb (first_arc g bin.0) a apart) in
    omega (arith, whole, rest, none))
    (cases_eq (first_arc g bin.0) a)
way_most g graph a (Loss t tail head) at bin way among is =
    let there = found g graph a (Loss t tail head) at bin way among is in
    other_arc g a (Loss t tail head) bin.0 (count_by (λ m. m == a) way) there (λ same. not_loss bin.0 t tail head (sym there.first ∙ ap (arc_at g) same ∙ at))
way_most g graph a (Piece t tail head item form) at bin way among is =
    let there = found g graph a (Piece t tail head item form) at bin way among is in
    other_arc g a (Piece t tail head item form) bin.0 (count_by (λ m. m == a) way) there (λ same. not_piece bin.0 t tail head item form (sym there.first ∙ ap (arc_at g) same ∙ at))

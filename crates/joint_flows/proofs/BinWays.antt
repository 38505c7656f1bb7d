-- The numbers of the arcs of a joint graph, and those of a path to the target of a type and the bin arc that closes it.
use Rattle.std.proofs.Common.{◌≡◌, ℕ, zero, suc, ◌+◌, ◌-◌, ◌<◌, ◌≤◌, cond, ◌==◌, List, [], ◌∷◌, length, map, refl, sym, ap, ◌∙◌, ⊎_elim, arith, sum_by, Some}
use Rattle.std.specs.Prelude.{Contains, count_by, slice_get, option_map}
use Rattle.std.proofs.lemmas.Bool.{cases_eq, eq-eqb, ne_eqb, cond-true, cond-false}
use Rattle.std.proofs.lemmas.Option.{slice_get-get_or, slice_get-map}
use Rattle.std.proofs.lemmas.List.{length-map}
use Rattle.std.proofs.lemmas.List.Sums.{sum_by-cons}
use Rattle.std.proofs.lemmas.List.Elements.{All-contains}
use Rattle.packing_laws.specs.Instances.{IsAmong}
use Rattle.flow_graph.specs.declared.parts.TypeArc.{TypeArc}
use Rattle.flow_graph.specs.declared.parts.ArcKind.{ArcKind}
use Rattle.flow_graph.specs.declared.parts.ArcKind.TheVariants.{Bin}
use Rattle.flow_graph.specs.Arcs.{kind_of}
use Rattle.flow_graph.specs.Faithful.{IsPath}
use Rattle.flow_graph.proofs.ArcKinds.{some_same, tail_kind, tail_of}
use Rattle.flow_graph.proofs.Places.{slice_get-append-add, slice_get-append-left}
use Rattle.flow_model.specs.Flows.{up_to}
use Rattle.flow_model.proofs.Counts.{at, at_place}
use Rattle.flow_model.proofs.Solutions.{length_up_to, up_to_at}
use Rattle.joint_arcs.specs.Joined.{JointValue, Climbs, IsJoint, arc_at, numbered}
use Rattle.joint_arcs.proofs.Rows.{bin_row}

pub arc_at-suc : (g : JointValue) (i : ℕ) → arc_at g (suc i) ≡ slice_get (numbered g) i
arc_at-suc g i =
    let e : suc i - 1 ≡ i = omega arith in
    rw (ne_eqb (suc i) 0 (λ same. omega (arith, same)), e) refl

bin_count : (g : JointValue) → length (bin_row g.types) ≡ g.types
bin_count g = length-map (up_to g.types) (λ t. Bin t) ∙ length_up_to g.types

-- the bin arc of a type has the number of the type
pub bin_number : (g : JointValue) (t : ℕ) → IsAmong t g.types → arc_at g t ≡ Some (Bin t)
bin_number g t among =
    let e : suc (t - 1) ≡ t = omega (arith, among.0) in
    let own : slice_get (bin_row g.types) (t - 1) ≡ Some (Bin t) = slice_get-map (λ t. Bin t) (up_to g.types) (t - 1) ∙ ap (option_map (λ t. Bin t)) (up_to_at g.types t among) in
    ap (arc_at g) (sym e) ∙ arc_at-suc g (t - 1) ∙ slice_get-append-left (bin_row g.types) (map (kind_of 1) g.arcs) (t - 1) (Bin t) own

-- the numbers of the other arcs follow
pub arc_number : (g : JointValue) (k : ℕ) (e : TypeArc) → slice_get g.arcs k ≡ Some e → arc_at g (suc (g.types + k)) ≡ Some (kind_of 1 e)
arc_number g k e there =
    let own : slice_get (map (kind_of 1) g.arcs) k ≡ Some (kind_of 1 e) = slice_get-map (kind_of 1) g.arcs k ∙ ap (option_map (kind_of 1)) there in
    arc_at-suc g (g.types + k) ∙ ap (λ (n : ℕ). slice_get (numbered g) (n + k)) (sym (bin_count g)) ∙ slice_get-append-add (bin_row g.types) (map (kind_of 1) g.arcs) k ∙ own

-- at the number of an arc stands what f says of it
pub at_arc : (g : JointValue) (f : ArcKind → ℕ) (a : ℕ) (kind : ArcKind) → arc_at g a ≡ Some kind → at f (numbered g) 1 a ≡ f kind
at_arc g f zero kind h = cc
at_arc g f (suc i) kind h =
    let e : 1 + i ≡ suc i = omega arith in
    rw e at (at_place f (numbered g) 1 i kind (sym (arc_at-suc g i) ∙ h))

-- the numbers are those of the arcs of a list, none of them a bin arc
abbrev pub AreNumbers : JointValue → List ℕ → List TypeArc → Type 0
AreNumbers g [] [] = Unit {0}
AreNumbers g [] (e ∷ path) = ⊥
AreNumbers g (a ∷ numbers) [] = ⊥
AreNumbers g (a ∷ numbers) (e ∷ path) = (g.types < a) × (arc_at g a ≡ Some (kind_of 1 e)) × AreNumbers g numbers path

-- the numbers of the arcs of a path
pub path_numbers : (g : JointValue) (path : List TypeArc) (u w : ℕ) → IsPath g.arcs u w path → (numbers : List ℕ) × AreNumbers g numbers path
path_numbers g [] u w leads = ([], tt)
path_numbers g (e ∷ path) u w leads =
    let rest = path_numbers g path e.head w leads.2 in
    let place : ℕ = leads.0.0 in
    let own : slice_get g.arcs place ≡ Some e = slice_get-get_or g.arcs place e leads.0.1 ∙ ap Some leads.0.2 in
    (suc (g.types + place) ∷ rest.0, (omega arith, arc_number g place e own, rest.1))

pub at_path : (g : JointValue) (f : ArcKind → ℕ) (numbers : List ℕ) (path : List TypeArc) → AreNumbers g numbers path → sum_by (at f (numbered g) 1) numbers ≡ sum_by (λ e. f (kind_of 1 e)) path
at_path g f [] [] are = refl
at_path g f [] (e ∷ path) are = absurd are
at_path g f (a ∷ numbers) [] are = absurd are
at_path g f (a ∷ numbers) (e ∷ path) are =
    let first = at_arc g f a (kind_of 1 e) are.1 in
    let rest = at_path g f numbers path are.2 in
    rw (sum_by-cons (at f (numbered g) 1) a numbers, sum_by-cons (λ (e : TypeArc). f (kind_of 1 e)) e path) (omega (arith, first, rest))

-- f of a unit of flow on a path and its bin arc
pub at_way : (g : JointValue) (f : ArcKind → ℕ) (t : ℕ) (numbers : List ℕ) (path : List TypeArc) → IsAmong t g.types → AreNumbers g numbers path → sum_by (at f (numbered g) 1) (t ∷ numbers) ≡ f (Bin t) + sum_by (λ e. f (kind_of 1 e)) path
at_way g f t numbers path among are =
    let first = at_arc g f t (Bin t) (bin_number g t among) in
    let rest = at_path g f numbers path are in
    let whole : sum_by (at f (numbered g) 1) (t ∷ numbers) ≡ at f (numbered g) 1 t + sum_by (at f (numbered g) 1) numbers = sum_by-cons (at f (numbered g) 1) t numbers in
    omega (arith, first, rest, whole)

-- how often number a is among some numbers, one more first
counted_more : (a m : ℕ) (numbers : List ℕ) → count_by (λ l. l == a) (m ∷ numbers) ≡ cond (m == a) 1 0 + count_by (λ l. l == a) numbers
counted_more a m numbers = sum_by-cons (λ l. cond (l == a) 1 0) m numbers

counted_same : (a m : ℕ) → m ≡ a → cond {A = ℕ} (m == a) 1 0 ≡ 1
counted_same a m same = cond-true (m == a) 1 0 (eq-eqb m a same)

counted_other : (a m : ℕ) → (m ≡ a → ⊥) → cond {A = ℕ} (m == a) 1 0 ≡ 0
counted_other a m apart = cond-false (m == a) 1 0 (ne_eqb m a apart)

-- the number of a bin arc is on no path
pub no_bin : (g : JointValue) (a : ℕ) (numbers : List ℕ) (path : List TypeArc) → a ≤ g.types → AreNumbers g numbers path → count_by (λ l. l == a) numbers ≡ 0
no_bin g a [] [] low are = refl
no_bin g a [] (e ∷ path) low are = absurd are
no_bin g a (m ∷ numbers) [] low are = absurd are
no_bin g a (m ∷ numbers) (e ∷ path) low are =
    let rest = no_bin g a numbers path low are.2 in
    let more = counted_more a m numbers in
    let other = counted_other a m (λ same. omega (arith, same, low, are.0)) in
    omega (arith, rest, more, other)

-- no arc is twice on a path
module _ (g : JointValue) (joint : IsJoint g) (a : ℕ) where
  rises : (e : TypeArc) → Contains g.arcs e → e.tail < e.head
  rises e has = (All-contains (Climbs g) g.arcs e joint.climbs has).up

  same_tail : (m : ℕ) (e f : TypeArc) → arc_at g m ≡ Some (kind_of 1 e) → arc_at g a ≡ Some (kind_of 1 f) → m ≡ a → e.tail ≡ f.tail
  same_tail m e f one two same = sym (tail_kind 1 e) ∙ ap tail_of (some_same (kind_of 1 e) (kind_of 1 f) (sym one ∙ ap (arc_at g) same ∙ two)) ∙ tail_kind 1 f

  -- an arc that goes out before a node is on no path from there on
  not_later : (f : TypeArc) → arc_at g a ≡ Some (kind_of 1 f) → (u w : ℕ) (numbers : List ℕ) (path : List TypeArc) → IsPath g.arcs u w path → AreNumbers g numbers path → f.tail < u → count_by (λ l. l == a) numbers ≡ 0
  not_later f at u w [] [] leads are before = refl
  not_later f at u w [] (e ∷ path) leads are before = absurd are
  not_later f at u w (m ∷ numbers) [] leads are before = absurd are
  not_later f at u w (m ∷ numbers) (e ∷ path) leads are before =
      let up = rises e leads.0 in
      let tail = leads.1 in
      let rest = not_later f at e.head w numbers path leads.2 are.2 (omega (arith, before, up, tail)) in
      let more = counted_more a m numbers in
      let other = counted_other a m (λ same. let own = same_tail m e f are.1 at same in omega (arith, own, before, tail)) in
      omega (arith, rest, more, other)

  pub at_most_once : (u w : ℕ) (numbers : List ℕ) (path : List TypeArc) → IsPath g.arcs u w path → AreNumbers g numbers path → count_by (λ l. l == a) numbers ≤ 1
  at_most_once u w [] [] leads are = omega arith
  at_most_once u w [] (e ∷ path) leads are = absurd are
  at_most_once u w (m ∷ numbers) [] leads are = absurd are
  at_most_once u w (m ∷ numbers) (e ∷ path) leads are =
      let rest = at_most_once e.head w numbers path leads.2 are.2 in
      let more = counted_more a m numbers in
      ⊎_elim
      (λ same.
      let here : arc_at g a ≡ Some (kind_of 1 e) = ap (arc_at g) (sym same) ∙ are.1 in
      let up = rises e leads.0 in
      let none = not_later e here e.head w numbers path leads.2 are.2 up in
      let one = counted_same a m same in
      omega (arith, more, none, one))
      (λ apart. let other = counted_other a m apart in omega (arith, rest, more, other))
      (cases_eq m a)

-- a bin arc is on a way as often as the way closes with it
pub bins_on_way : (g : JointValue) (a t : ℕ) (numbers : List ℕ) (path : List TypeArc) → a ≤ g.types → AreNumbers g numbers path → count_by (λ l. l == a) (t ∷ numbers) ≡ cond (t == a) 1 0
bins_on_way g a t numbers path low are =
    let more = counted_more a t numbers in
    let none = no_bin g a numbers path low are in
    omega (arith, more, none)

-- another arc is on a way at most once
pub others_on_way : (g : JointValue) → IsJoint g → (a t w : ℕ) (numbers : List ℕ) (path : List TypeArc) → t ≤ g.types → g.types < a → IsPath g.arcs 1 w path → AreNumbers g numbers path → count_by (λ l. l == a) (t ∷ numbers) ≤ 1
others_on_way g joint a t w numbers path low high leads are =
    let more = counted_more a t numbers in
    let other = counted_other a t (λ same. omega (arith, same, low, high)) in
    let once = at_most_once g joint a 1 w numbers path leads are in
    omega (arith, more, other, once)

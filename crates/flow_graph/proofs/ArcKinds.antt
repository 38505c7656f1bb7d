-- What each number of an arc is, and that no two numbers are those of the same arc.
use Rattle.std.proofs.Common.{◌≡◌, ◌⊎◌, ℕ, zero, suc, ◌+◌, ◌-◌, ◌<◌, ◌≤◌, Bool, true, false, cond, ◌==◌, ◌&&◌, List, [], length, get_or, refl, sym, ap, ◌∙◌, subst, ⊎_elim, arith, Some, All}
use Rattle.std.specs.Prelude.{Contains, slice_get}
use Rattle.std.proofs.lemmas.Bool.{cases_eq, cases_order, eq-eqb, ne_eqb}
use Rattle.std.proofs.lemmas.Option.{slice_get-get_or, slice_get_within, get_or_from_slice_get}
use Rattle.std.proofs.lemmas.List.Elements.{All-contains, Contains-get_or}
use Rattle.packing_laws.specs.Instances.{IsAmong}
use Rattle.flow_graph.specs.declared.parts.TypeArc.{TypeArc}
use Rattle.flow_graph.specs.declared.parts.ArcKind.{ArcKind}
use Rattle.flow_graph.specs.declared.parts.ArcKind.TheVariants.{Bin, Loss, Piece}
use Rattle.flow_graph.specs.Arcs.{TypeValue, ArcBefore, IsFlowType, IsFlowGraph, flow_type, kind_of, numbered, arc_at, first_arc}
use Rattle.flow_graph.specs.Ends.{comes_in, goes_out}
use Rattle.flow_graph.specs.Laws.{IsKindAt, is_bin, is_arc}
use Rattle.flow_graph.proofs.Places.{arc_at-suc, has_numbers, some_type}

-- an arc where there is none
abbrev pub nothing : TypeArc
nothing = record { tail = 0; head = 0; item = 0; form = 0 }

pub some_same : {X : Type 0} (x y : X) → Some x ≡ Some y → x ≡ y
some_same x y h = cc

pub type_is : (g : List TypeValue) → IsFlowGraph g → (t : ℕ) → IsAmong t (length g) → IsFlowType (flow_type g t)
type_is g is t among = is.each (t - 1) (record { nodes = 1; arcs = [] }) (omega (arith, among.0, among.1))

pub arc_climbs : (x : TypeValue) → IsFlowType x → (e : TypeArc) → Contains x.arcs e → (1 ≤ e.tail) × (e.tail < e.head) × (e.head ≤ x.nodes)
arc_climbs x is e has = All-contains (λ (e : TypeArc). (1 ≤ e.tail) × (e.tail < e.head) × (e.head ≤ x.nodes)) x.arcs e is.climbs has

-- what stands at a place is one of the list
pub among_list : {X : Type 0} (xs : List X) (k : ℕ) (x : X) → slice_get xs k ≡ Some x → Contains xs x
among_list xs k x at = subst (Contains xs) (get_or_from_slice_get xs k x x at) (Contains-get_or xs k x (slice_get_within xs k x at))

pub kind_at : (g : List TypeValue) (a : ℕ) (kind : ArcKind) → arc_at g a ≡ Some kind → IsKindAt g a kind
kind_at g zero kind at = cc
kind_at g (suc k) kind at =
    let there : slice_get (numbered g) k ≡ Some kind = sym (arc_at-suc g k) ∙ at in
    let found = some_type g (suc k) (omega arith, slice_get_within (numbered g) k kind there) in
    let t : ℕ = found.0 in
    let own = has_numbers g t found.1 in
    ⊎_elim
    (λ first. is_bin t found.1 (sym first) (some_same kind (Bin t) (sym at ∙ ap (arc_at g) (sym first) ∙ own.bin)))
    (λ later.
    let arcs : List TypeArc = (flow_type g t).arcs in
    let j : ℕ = k - first_arc g t in
    let low = found.2 in
    let high = found.3 in
    let short : j < length arcs = omega (arith, low, high, later) in
    let place : suc k ≡ first_arc g t + 1 + j = omega (arith, low, later) in
    let e : TypeArc = get_or arcs j nothing in
    let here : slice_get arcs j ≡ Some e = slice_get-get_or arcs j nothing short in
    is_arc t found.1 j e here place (some_same kind (kind_of t e) (sym at ∙ ap (arc_at g) place ∙ own.arcs j e here)))
    (cases_eq (first_arc g t) (suc k))

-- whatever is said alike of arcs that carry nothing and of others is said of the arc of a type
pub kind_cases : (Q : ArcKind → Type 0) (t : ℕ) (e : TypeArc) → Q (Loss t e.tail e.head) → Q (Piece t e.tail e.head e.item e.form) → Q (kind_of t e)
kind_cases Q t e loss piece = ⊎_elim
    (λ none. rw (eq-eqb e.item 0 none) loss)
    (λ some. rw (ne_eqb e.item 0 some) piece)
    (cases_eq e.item 0)

pub comes_kind : (t v s : ℕ) (e : TypeArc) → comes_in t v (kind_of s e) ≡ ((s == t) && (e.head == v))
comes_kind t v s e = kind_cases (λ kind. comes_in t v kind ≡ ((s == t) && (e.head == v))) s e refl refl

pub goes_kind : (g : List TypeValue) (t v s : ℕ) (e : TypeArc) → goes_out g t v (kind_of s e) ≡ ((s == t) && (e.tail == v))
goes_kind g t v s e = kind_cases (λ kind. goes_out g t v kind ≡ ((s == t) && (e.tail == v))) s e refl refl

-- what an arc says of itself; a bin arc has no nodes of its own, and an arc that carries nothing no item
abbrev pub type_of : ArcKind → ℕ
type_of (Bin t) = t
type_of (Loss t tail head) = t
type_of (Piece t tail head item form) = t

abbrev pub tail_of : ArcKind → ℕ
tail_of (Bin t) = 0
tail_of (Loss t tail head) = tail
tail_of (Piece t tail head item form) = tail

abbrev head_of : ArcKind → ℕ
head_of (Bin t) = 0
head_of (Loss t tail head) = head
head_of (Piece t tail head item form) = head

abbrev item_of : ArcKind → ℕ
item_of (Bin t) = 0
item_of (Loss t tail head) = 0
item_of (Piece t tail head item form) = item

abbrev form_of : ArcKind → ℕ
form_of (Bin t) = 0
form_of (Loss t tail head) = 0
form_of (Piece t tail head item form) = form

pub type_kind : (s : ℕ) (e : TypeArc) → type_of (kind_of s e) ≡ s
type_kind s e = kind_cases (λ kind. type_of kind ≡ s) s e refl refl

pub tail_kind : (s : ℕ) (e : TypeArc) → tail_of (kind_of s e) ≡ e.tail
tail_kind s e = kind_cases (λ kind. tail_of kind ≡ e.tail) s e refl refl

head_kind : (s : ℕ) (e : TypeArc) → head_of (kind_of s e) ≡ e.head
head_kind s e = kind_cases (λ kind. head_of kind ≡ e.head) s e refl refl

item_kind : (s : ℕ) (e : TypeArc) → item_of (kind_of s e) ≡ e.item
item_kind s e = ⊎_elim
    (λ none. rw (eq-eqb e.item 0 none) (sym none))
    (λ some. rw (ne_eqb e.item 0 some) refl)
    (cases_eq e.item 0)

form_kind : (s : ℕ) (e : TypeArc) → (e.item ≡ 0 → e.form ≡ 0) → form_of (kind_of s e) ≡ e.form
form_kind s e marks = ⊎_elim
    (λ none. rw (eq-eqb e.item 0 none) (sym (marks none)))
    (λ some. rw (ne_eqb e.item 0 some) refl)
    (cases_eq e.item 0)

not_bin : (t s : ℕ) (e : TypeArc) → Bin t ≡ kind_of s e → ⊥
not_bin t s e = kind_cases (λ kind. Bin t ≡ kind → ⊥) s e (λ h. cc) (λ h. cc)

bins_same : (t s : ℕ) → Bin t ≡ Bin s → t ≡ s
bins_same t s h = ap type_of h

not_before : (e f : TypeArc) → e.tail ≡ f.tail → e.head ≡ f.head → e.item ≡ f.item → e.form ≡ f.form → ArcBefore e f → ⊥
not_before e f tails heads items forms before = ⊎_elim
    (λ lower. omega (arith, lower, tails))
    (λ rest. ⊎_elim
    (λ lower. omega (arith, lower, heads))
    (λ rest. ⊎_elim
    (λ lower. omega (arith, lower, items))
    (λ rest. omega (arith, rest.1, forms))
    rest.1)
    rest.1)
    before

marks_at : (x : TypeValue) → IsFlowType x → (k : ℕ) (e : TypeArc) → slice_get x.arcs k ≡ Some e → e.item ≡ 0 → e.form ≡ 0
marks_at x is k e at = (All-contains (λ (e : TypeArc). (e.item ≡ 0 → e.form ≡ 0) × (e.form ≡ 0 → e.item ≡ 0)) x.arcs e is.marks (among_list x.arcs k e at)).0

ordered_at : (x : TypeValue) → IsFlowType x → (j k : ℕ) (e f : TypeArc) → slice_get x.arcs j ≡ Some e → slice_get x.arcs k ≡ Some f → j < k → ArcBefore e f
ordered_at x is j k e f here there before =
    let first : get_or x.arcs j nothing ≡ e = get_or_from_slice_get x.arcs j e nothing here in
    let second : get_or x.arcs k nothing ≡ f = get_or_from_slice_get x.arcs k f nothing there in
    let order : ArcBefore (get_or x.arcs j nothing) (get_or x.arcs k nothing) = is.ordered j k nothing before (slice_get_within x.arcs k f there) in
    subst (λ (d : TypeArc). ArcBefore d f) first (subst (ArcBefore (get_or x.arcs j nothing)) second order)

-- equal arcs of a type stand at one place
same_place : (x : TypeValue) → IsFlowType x → (t j k : ℕ) (e f : TypeArc) → slice_get x.arcs j ≡ Some e → slice_get x.arcs k ≡ Some f → kind_of t e ≡ kind_of t f → j ≡ k
same_place x is t j k e f here there same =
    let tails : e.tail ≡ f.tail = sym (tail_kind t e) ∙ ap tail_of same ∙ tail_kind t f in
    let heads : e.head ≡ f.head = sym (head_kind t e) ∙ ap head_of same ∙ head_kind t f in
    let items : e.item ≡ f.item = sym (item_kind t e) ∙ ap item_of same ∙ item_kind t f in
    let forms : e.form ≡ f.form = sym (form_kind t e (marks_at x is j e here)) ∙ ap form_of same ∙ form_kind t f (marks_at x is k f there) in
    ⊎_elim
    (λ equal. equal)
    (λ apart. ⊎_elim
    (λ before. absurd (not_before e f tails heads items forms (ordered_at x is j k e f here there before)))
    (λ after. absurd (not_before f e (sym tails) (sym heads) (sym items) (sym forms) (ordered_at x is k j f e there here after)))
    apart)
    (cases_order j k)

same_number : (g : List TypeValue) → IsFlowGraph g → (a b : ℕ) (kind : ArcKind) → IsKindAt g a kind → IsKindAt g b kind → a ≡ b
same_number g is a b kind (is_bin t among place own) (is_bin s other there its) =
    place ∙ ap (first_arc g) (bins_same t s (sym own ∙ its)) ∙ sym there
same_number g is a b kind (is_bin t among place own) (is_arc s other k f at there its) = absurd (not_bin t s f (sym own ∙ its))
same_number g is a b kind (is_arc t among j e at place own) (is_bin s other there its) = absurd (not_bin s t e (sym its ∙ own))
same_number g is a b kind (is_arc t among j e at place own) (is_arc s other k f here there its) =
    let types : s ≡ t = sym (type_kind s f) ∙ ap type_of (sym its ∙ own) ∙ type_kind t e in
    let moved : slice_get (flow_type g t).arcs k ≡ Some f = subst (λ (u : ℕ). slice_get (flow_type g u).arcs k ≡ Some f) types here in
    let kinds : kind_of t e ≡ kind_of t f = sym own ∙ its ∙ ap (λ (u : ℕ). kind_of u f) types in
    let places = same_place (flow_type g t) (type_is g is t among) t j k e f at moved kinds in
    let firsts : first_arc g s ≡ first_arc g t = ap (first_arc g) types in
    omega (arith, place, there, places, firsts)

pub unique_number : (g : List TypeValue) → IsFlowGraph g → (a b : ℕ) (kind : ArcKind) → arc_at g a ≡ Some kind → arc_at g b ≡ Some kind → a ≡ b
unique_number g is a b kind here there = same_number g is a b kind (kind_at g a kind here) (kind_at g b kind there)

pub arc_within : (g : List TypeValue) (a : ℕ) (kind : ArcKind) → arc_at g a ≡ Some kind → IsAmong a (length (numbered g))
arc_within g zero kind at = cc
arc_within g (suc i) kind at = (omega arith, slice_get_within (numbered g) i kind (sym (arc_at-suc g i) ∙ at))

-- the place of a number in the row
pub place_of : (g : List TypeValue) (a : ℕ) (kind : ArcKind) → arc_at g a ≡ Some kind → slice_get (numbered g) (a - 1) ≡ Some kind
place_of g zero kind at = cc
place_of g (suc i) kind at = let e : suc i - 1 ≡ i = omega arith in rw e (sym (arc_at-suc g i) ∙ at)

-- the number of a place
pub number_of : (g : List TypeValue) (i : ℕ) (kind : ArcKind) → slice_get (numbered g) i ≡ Some kind → arc_at g (suc i) ≡ Some kind
number_of g i kind at = arc_at-suc g i ∙ at

-- The places from which the next way on is looked for.
use Rattle.std.proofs.Common.{◌≡◌, ◌≢◌, ℕ, ◌+◌, ◌-◌, ◌<◌, ◌≤◌, List, length, get_or, set, sym, ap, ◌∙◌, subst, ⊎_elim, arith}
use Rattle.std.specs.Prelude.{Some, Contains, slice_get}
use Rattle.std.proofs.lemmas.Bool.{cases_lt, cases_eq}
use Rattle.std.proofs.lemmas.Option.{get_or_from_slice_get, slice_get-get_or, slice_get_within}
use Rattle.std.proofs.lemmas.List.{get_or-set_same, get_or-set_other}
use Rattle.flow_graph.specs.declared.parts.TypeArc.{TypeArc}
use Rattle.flow_graph.specs.declared.parts.ArcKind.{ArcKind}
use Rattle.flow_graph.specs.Arcs.{kind_of}
use Rattle.flow_graph.proofs.ArcKinds.{among_list}
use Rattle.joint_arcs.specs.Joined.{JointValue, IsJoint, numbered}
use Rattle.joint_extract.specs.inner.Circuits.{AreCursors, IsWayOn, start_of}
use Rattle.joint_extract.proofs.RowPlaces.{IsPlaced, is_arc, is_bin, climbs-at, placed, start-kind}

pub way-kind : (row : List ArcKind) (left : List ℕ) (v k : ℕ) (d : ArcKind) (way : IsWayOn row left v k) → get_or row k d ≡ way.kind
way-kind row left v k d way = get_or_from_slice_get row k way.kind d way.there

pub way-within : (row : List ArcKind) (left : List ℕ) (v k : ℕ) → IsWayOn row left v k → k < length row
way-within row left v k way = slice_get_within row k way.kind way.there

-- what is no way on
pub not-on : (row : List ArcKind) (left : List ℕ) (v k start : ℕ) (d : ArcKind) → start ≡ start_of (get_or row k d) → (start ≡ v → ⊥) → IsWayOn row left v k → ⊥
not-on row left v k start d is other way = other (is ∙ ap start_of (way-kind row left v k d way) ∙ way.starts)

pub none-left : (row : List ArcKind) (left : List ℕ) (v k : ℕ) → get_or left k 0 ≤ 0 → IsWayOn row left v k → ⊥
none-left row left v k none way = let some = way.some in omega (arith, none, some)

-- a place before which there is no way on
pub first-way : (row : List ArcKind) (left : List ℕ) (v from place : ℕ) → ((k : ℕ) → from ≤ k → k < place → IsWayOn row left v k → ⊥) → (k : ℕ) → from ≤ k → IsWayOn row left v k → place ≤ k
first-way row left v from place none k low way = ⊎_elim (λ lt. absurd (none k low lt way)) (λ ge. ge) (cases_lt k place)

pub no-way-more : (row : List ArcKind) (left : List ℕ) (v from place : ℕ) → ((k : ℕ) → from ≤ k → k < place → IsWayOn row left v k → ⊥) → (IsWayOn row left v place → ⊥) → (k : ℕ) → from ≤ k → k < place + 1 → IsWayOn row left v k → ⊥
no-way-more row left v from place none here k low high way =
    ⊎_elim
    (λ lt. none k low lt way)
    (λ ge. let same : k ≡ place = omega (arith, ge, high) in here (subst (IsWayOn row left v) same way))
    (cases_lt k place)

-- a cursor that is moved on to the next way
pub cursors-set : (g : JointValue) (left cursors : List ℕ) (node place : ℕ) → AreCursors g left cursors → 1 ≤ node → node ≤ length cursors → ((k : ℕ) → get_or cursors (node - 1) 0 ≤ k → IsWayOn (numbered g) left node k → place ≤ k) → AreCursors g left (set cursors (node - 1) place)
cursors-set g left cursors node place are low high first v k one way =
    ⊎_elim
    (λ same.
    let within : node - 1 < length cursors = omega (arith, low, high) in
    let own : IsWayOn (numbered g) left node k = subst (λ (u : ℕ). IsWayOn (numbered g) left u k) same way in
    let value : get_or (set cursors (node - 1) place) (node - 1) 0 ≡ place = get_or-set_same cursors (node - 1) place 0 within in
    let most : place ≤ k = first k (are node k low own) own in
    subst (λ (u : ℕ). get_or (set cursors (node - 1) place) (u - 1) 0 ≤ k) (sym same) (omega (arith, value, most)))
    (λ other.
    let apart : v - 1 ≢ node - 1 = λ e. other (omega (arith, e, low, one)) in
    let value : get_or (set cursors (node - 1) place) (v - 1) 0 ≡ get_or cursors (v - 1) 0 = get_or-set_other cursors (node - 1) (v - 1) place 0 apart in
    omega (arith, value, are v k one way))
    (cases_eq v node)

-- where less is left, no more ways are on
pub cursors-falls : (g : JointValue) (left less cursors : List ℕ) → ((k : ℕ) → get_or less k 0 ≤ get_or left k 0) → AreCursors g left cursors → AreCursors g less cursors
cursors-falls g left less cursors falls are v k one way =
    let some = way.some in
    let fall = falls k in
    are v k one (record { kind = way.kind; there = way.there; starts = way.starts; some = omega (arith, some, fall) })

-- a way on from a node goes over an arc of the graph that begins in it
pub record IsArcFrom (g : JointValue) (v k : ℕ) (kind : ArcKind) : Type 0 where
  pub arc : TypeArc
  pub among : Contains g.arcs arc
  pub place : g.types ≤ k
  pub same : kind ≡ kind_of 1 arc
  pub tail : arc.tail ≡ v

pub arc-from : (g : JointValue) (v k : ℕ) (kind : ArcKind) → 1 ≤ v → start_of kind ≡ v → IsPlaced g k kind → IsArcFrom g v k kind
arc-from g v k kind low starts (is_bin within same) =
    let none : 0 ≡ v = sym (ap start_of same) ∙ starts in
    absurd (omega (arith, low, none))
arc-from g v k kind low starts (is_arc j e at place same) = record {
  arc = e;
  among = among_list g.arcs j e at;
  place = omega (arith, place);
  same = same;
  tail = sym (start-kind e) ∙ sym (ap start_of same) ∙ starts;
}

pub way-arc : (g : JointValue) (left : List ℕ) (v k : ℕ) (way : IsWayOn (numbered g) left v k) → 1 ≤ v → IsArcFrom g v k way.kind
way-arc g left v k way low = arc-from g v k way.kind low way.starts (placed g k way.kind way.there)

-- the place for the node in which an arc begins is that of the arc, or an earlier one
abbrev pub AreFirst : JointValue → List ℕ → ℕ → Type 0
AreFirst g places n = (v k : ℕ) (kind : ArcKind) → 1 ≤ v → n ≤ k → slice_get (numbered g) k ≡ Some kind → start_of kind ≡ v → get_or places (v - 1) 0 ≤ k

pub first-none : (g : JointValue) (places : List ℕ) → AreFirst g places (length (numbered g))
first-none g places v k kind one low at starts = let within = slice_get_within (numbered g) k kind at in absurd (omega (arith, low, within))

-- where the arc at a place that is no bin arc begins
pub start-inside : (g : JointValue) (k : ℕ) (kind : ArcKind) → IsJoint g → g.types ≤ k → IsPlaced g k kind → (1 ≤ start_of kind) × (start_of kind ≤ g.inner)
start-inside g k kind is low (is_bin within same) = absurd (omega (arith, low, within))
start-inside g k kind is low (is_arc j e at place same) =
    let up = climbs-at g j e is at in
    let start : start_of kind ≡ e.tail = ap start_of same ∙ start-kind e in
    let one = up.low in
    let most = up.from_inner in
    (omega (arith, start, one), omega (arith, start, most))

pub start-there : (g : JointValue) (row : List ArcKind) (k start : ℕ) (d : ArcKind) → IsJoint g → row ≡ numbered g → g.types ≤ k → k < length row → start ≡ start_of (get_or row k d) → (1 ≤ start) × (start ≤ g.inner)
start-there g row k start d is same low within at =
    let kind : ArcKind = get_or row k d in
    let there : slice_get (numbered g) k ≡ Some kind = ap (λ (r : List ArcKind). slice_get r k) (sym same) ∙ slice_get-get_or row k d within in
    let inside = start-inside g k kind is low (placed g k kind there) in
    (omega (arith, at, inside.0), omega (arith, at, inside.1))

pub first-more : (g : JointValue) (places : List ℕ) (n : ℕ) (d : ArcKind) → IsJoint g → length places ≡ g.inner → g.types ≤ n → n < length (numbered g) → AreFirst g places (n + 1) → AreFirst g (set places (start_of (get_or (numbered g) n d) - 1) n) n
first-more g places n d is nodes low within are v k kind one from at starts =
    let own : ArcKind = get_or (numbered g) n d in
    let start : ℕ = start_of own in
    let there : slice_get (numbered g) n ≡ Some own = slice_get-get_or (numbered g) n d within in
    let inside = start-inside g n own is low (placed g n own there) in
    let place : start - 1 < length places = omega (arith, inside.0, inside.1, nodes) in
    ⊎_elim
    (λ same.
    let value : get_or (set places (start - 1) n) (start - 1) 0 ≡ n = get_or-set_same places (start - 1) n 0 place in
    subst (λ (u : ℕ). get_or (set places (start - 1) n) (u - 1) 0 ≤ k) (sym same) (omega (arith, value, from)))
    (λ other.
    let later : n + 1 ≤ k =
    ⊎_elim
    (λ e.
    let here : kind ≡ own = get_or-kind k kind own there at e in
    absurd (other (sym starts ∙ ap start_of here)))
    (λ apart. omega (arith, from, apart))
    (cases_eq k n) in
    let apart : v - 1 ≢ start - 1 = λ e. other (omega (arith, e, one, inside.0)) in
    let value : get_or (set places (start - 1) n) (v - 1) 0 ≡ get_or places (v - 1) 0 = get_or-set_other places (start - 1) (v - 1) n 0 apart in
    let before = are v k kind one later at starts in
    omega (arith, value, before))
    (cases_eq v start)
  where
    get_or-kind : (k : ℕ) (kind own : ArcKind) → slice_get (numbered g) n ≡ Some own → slice_get (numbered g) k ≡ Some kind → k ≡ n → kind ≡ own
    get_or-kind k kind own there at e = sym (get_or_from_slice_get (numbered g) k kind kind at) ∙ ap (λ (i : ℕ). get_or (numbered g) i kind) e ∙ get_or_from_slice_get (numbered g) n own kind there

pub cursors-first : (g : JointValue) (places : List ℕ) → AreFirst g places g.types → (left : List ℕ) → AreCursors g left places
cursors-first g places are left v k one way =
    let from = way-arc g left v k way one in
    are v k way.kind one from.place way.there way.starts

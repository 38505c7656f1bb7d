-- The places from which the next way on is looked for.
use Rattle.std.proofs.Common.{◌≡◌, ◌≢◌, ℕ, ◌+◌, ◌-◌, ◌<◌, ◌≤◌, Bool, true, false, List, length, get_or, set, sym, ap, ◌∙◌, subst, ⊎_elim, arith}
use Rattle.std.proofs.lemmas.Bool.{cases_lt, cases_eq}
use Rattle.std.proofs.lemmas.Option.{get_or_from_slice_get, slice_get_within}
use Rattle.std.proofs.lemmas.List.{get_or-set_same, get_or-set_other}
use Rattle.flow_graph.specs.declared.parts.ArcKind.{ArcKind}
use Rattle.flow_graph.specs.Arcs.{TypeValue, IsFlowType, flow_type, numbered, first_arc}
use Rattle.pattern_extract.specs.inner.Walks.{goes_on, IsWayOn, AreCursors}
use Rattle.flow_graph.proofs.ArcKinds.{nothing}
use Rattle.pattern_extract.proofs.Places.{arc_from, climbs_at}

pub way-kind : (kinds : List ArcKind) (left : List ℕ) (t v k : ℕ) (d : ArcKind) (way : IsWayOn kinds left t v k) → get_or kinds k d ≡ way.kind
way-kind kinds left t v k d way = get_or_from_slice_get kinds k way.kind d way.there

pub way-within : (kinds : List ArcKind) (left : List ℕ) (t v k : ℕ) → IsWayOn kinds left t v k → k < length kinds
way-within kinds left t v k way = slice_get_within kinds k way.kind way.there

-- what is no way on
pub not-on : (kinds : List ArcKind) (left : List ℕ) (t v k : ℕ) (d : ArcKind) (b : Bool) → b ≡ goes_on t v (get_or kinds k d) → b ≡ false → IsWayOn kinds left t v k → ⊥
not-on kinds left t v k d b is off way =
    let goes : goes_on t v (get_or kinds k d) ≡ true = ap (goes_on t v) (way-kind kinds left t v k d way) ∙ way.goes in
    let bad : false ≡ true = sym off ∙ is ∙ goes in
    cc

pub none-left : (kinds : List ArcKind) (left : List ℕ) (t v k : ℕ) → get_or left k 0 ≤ 0 → IsWayOn kinds left t v k → ⊥
none-left kinds left t v k none way = let some = way.some in omega (arith, none, some)

-- a place before which there is no way on
pub first-way : (kinds : List ArcKind) (left : List ℕ) (t v from place : ℕ) → ((k : ℕ) → from ≤ k → k < place → IsWayOn kinds left t v k → ⊥) → (k : ℕ) → from ≤ k → IsWayOn kinds left t v k → place ≤ k
first-way kinds left t v from place none k low way = ⊎_elim (λ lt. absurd (none k low lt way)) (λ ge. ge) (cases_lt k place)

pub no-way-more : (kinds : List ArcKind) (left : List ℕ) (t v from place : ℕ) → ((k : ℕ) → from ≤ k → k < place → IsWayOn kinds left t v k → ⊥) → (IsWayOn kinds left t v place → ⊥) → (k : ℕ) → from ≤ k → k < place + 1 → IsWayOn kinds left t v k → ⊥
no-way-more kinds left t v from place none here k low high way =
    ⊎_elim
    (λ lt. none k low lt way)
    (λ ge. let same : k ≡ place = omega (arith, ge, high) in here (subst (IsWayOn kinds left t v) same way))
    (cases_lt k place)

-- a cursor that is moved on to the next way
pub cursors-set : (g : List TypeValue) (t : ℕ) (left cursors : List ℕ) (node place : ℕ) → AreCursors g t left cursors → 1 ≤ node → node ≤ length cursors → ((k : ℕ) → get_or cursors (node - 1) 0 ≤ k → IsWayOn (numbered g) left t node k → place ≤ k) → AreCursors g t left (set cursors (node - 1) place)
cursors-set g t left cursors node place are low high first v k one way =
    ⊎_elim
    (λ same.
    let within : node - 1 < length cursors = omega (arith, low, high) in
    let own : IsWayOn (numbered g) left t node k = subst (λ (u : ℕ). IsWayOn (numbered g) left t u k) same way in
    let value : get_or (set cursors (node - 1) place) (node - 1) 0 ≡ place = get_or-set_same cursors (node - 1) place 0 within in
    let most : place ≤ k = first k (are node k low own) own in
    subst (λ (u : ℕ). get_or (set cursors (node - 1) place) (u - 1) 0 ≤ k) (sym same) (omega (arith, value, most)))
    (λ other.
    let apart : v - 1 ≢ node - 1 = λ e. other (omega (arith, e, low, one)) in
    let value : get_or (set cursors (node - 1) place) (v - 1) 0 ≡ get_or cursors (v - 1) 0 = get_or-set_other cursors (node - 1) (v - 1) place 0 apart in
    omega (arith, value, are v k one way))
    (cases_eq v node)

-- where less is left, no more ways are on
pub cursors-falls : (g : List TypeValue) (t : ℕ) (left less cursors : List ℕ) → ((k : ℕ) → get_or less k 0 ≤ get_or left k 0) → AreCursors g t left cursors → AreCursors g t less cursors
cursors-falls g t left less cursors falls are v k one way =
    let some = way.some in
    let fall = falls k in
    are v k one (record { kind = way.kind; there = way.there; goes = way.goes; some = omega (arith, some, fall) })

-- the place for the node from which an arc goes on is that of the arc, or an earlier one
abbrev pub AreFirst : TypeValue → ℕ → List ℕ → ℕ → Type 0
AreFirst x first places n = (j : ℕ) → n ≤ j → j < length x.arcs → get_or places ((get_or x.arcs j nothing).tail - 1) 0 ≤ first + j

pub first-more : (x : TypeValue) (first : ℕ) (places : List ℕ) (n : ℕ) → IsFlowType x → length places ≡ x.nodes → n < length x.arcs → AreFirst x first places (n + 1) → AreFirst x first (set places ((get_or x.arcs n nothing).tail - 1) (first + n)) n
first-more x first places n is nodes within are j low high =
    let tail : ℕ = (get_or x.arcs n nothing).tail in
    let own : ℕ = (get_or x.arcs j nothing).tail in
    let up = climbs_at x is n within in
    let inside : tail - 1 < length places = omega (arith, up.0, up.1, up.2, nodes) in
    ⊎_elim
    (λ same.
    let value : get_or (set places (tail - 1) (first + n)) (tail - 1) 0 ≡ first + n = get_or-set_same places (tail - 1) (first + n) 0 inside in
    subst (λ (i : ℕ). get_or (set places (tail - 1) (first + n)) i 0 ≤ first + j) (sym same) (omega (arith, value, low)))
    (λ other.
    let later : n + 1 ≤ j = ⊎_elim (λ e. absurd (other (ap (λ (i : ℕ). (get_or x.arcs i nothing).tail - 1) e))) (λ apart. omega (arith, low, apart)) (cases_eq j n) in
    let value : get_or (set places (tail - 1) (first + n)) (own - 1) 0 ≡ get_or places (own - 1) 0 = get_or-set_other places (tail - 1) (own - 1) (first + n) 0 other in
    let before = are j later high in
    omega (arith, value, before))
    (cases_eq (own - 1) (tail - 1))

pub cursors-first : (g : List TypeValue) (t : ℕ) (places : List ℕ) → AreFirst (flow_type g t) (first_arc g t) places 0 → (left : List ℕ) → AreCursors g t left places
cursors-first g t places are left v k one way =
    let at = arc_from g t v k way.kind way.there way.goes in
    let low = are at.at (omega arith) at.within in
    let place = at.place in
    subst (λ (u : ℕ). get_or places (u - 1) 0 ≤ k) at.tail (omega (arith, low, place))

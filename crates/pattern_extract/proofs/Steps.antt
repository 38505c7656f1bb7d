-- Walks, arc by arc.
use Rattle.std.proofs.Common.{◌≡◌, ◌≢◌, ℕ, suc, ◌+◌, ◌-◌, ◌*◌, ◌<◌, ◌≤◌, Bool, true, false, cond, ◌==◌, List, [], ◌∷◌, ◌++◌, length, get_or, min, inl, inr, refl, sym, ap, ◌∙◌, subst, arith, All}
use Rattle.std.specs.Prelude.{◌||◌, ◌⊎◌, Some, slice_get}
use Rattle.std.specs.List.{list_any}
use Rattle.std.proofs.lemmas.Bool.{and_parts, and_from, eqb-true, eq-eqb}
use Rattle.std.proofs.lemmas.Option.{slice_get-get_or}
use Rattle.std.proofs.lemmas.List.Elements.{Contains-get_or, All-nil, All-push, All-weaker, All-cons}
use Rattle.packing_laws.specs.Instances.{IsAmong}
use Rattle.flow_graph.specs.declared.parts.TypeArc.{TypeArc}
use Rattle.flow_graph.specs.declared.parts.ArcKind.{ArcKind}
use Rattle.flow_graph.specs.declared.parts.ArcKind.TheVariants.{Bin, Loss, Piece}
use Rattle.flow_graph.specs.Arcs.{TypeValue, IsFlowGraph, flow_type, kind_of, numbered, arc_at, first_arc}
use Rattle.flow_graph.specs.Faithful.{AreNumbersOf}
use Rattle.flow_graph.proofs.Places.{arc_at-suc, has_numbers}
use Rattle.flow_graph.proofs.Ways.{IsPath-append}
use Rattle.flow_graph.specs.Ends.{comes_in, goes_out}
use Rattle.flow_model.specs.Flows.{IsConserved}
use Rattle.pattern_extract.specs.Runs.{IsRun}
use Rattle.pattern_extract.specs.inner.Walks.{weigh, circuit_of, IsRoute, goes_on, head_of, IsWayOn, IsUsedUp}
use Rattle.pattern_extract.proofs.Weights.{weigh-part, weigh-some, weigh_arcs-weigh}
use Rattle.flow_graph.proofs.ArcKinds.{comes_kind, type_is, nothing}
use Rattle.pattern_extract.proofs.Places.{place_weight, one_if, place_weight-at, head_of-kind, arc_from, climbs_at}

-- what comes into node v of type t
abbrev pub coming : List TypeValue → List ℕ → ℕ → ℕ → ℕ
coming g left t v = weigh (place_weight (one_if (comes_in t v)) g) left

abbrev pub going : List TypeValue → List ℕ → ℕ → ℕ → ℕ
going g left t v = weigh (place_weight (one_if (goes_out g t v)) g) left

pub coming-going : (g : List TypeValue) (left : List ℕ) (t v : ℕ) → IsConserved g left t v → coming g left t v ≡ going g left t v
coming-going g left t v conserved = sym (weigh_arcs-weigh (one_if (comes_in t v)) (numbered g) left) ∙ conserved ∙ weigh_arcs-weigh (one_if (goes_out g t v)) (numbered g) left

-- an arc that comes in, with something left on it
pub coming-some : (g : List TypeValue) (left : List ℕ) (t v k : ℕ) (kind : ArcKind) → slice_get (numbered g) k ≡ Some kind → comes_in t v kind ≡ true → 0 < get_or left k 0 → 0 < coming g left t v
coming-some g left t v k kind at comes some =
    let weight : place_weight (one_if (comes_in t v)) g k ≡ 1 = place_weight-at (one_if (comes_in t v)) g k kind at ∙ ap (λ (b : Bool). cond {A = ℕ} b 1 0) comes in
    let here = weigh-part (place_weight (one_if (comes_in t v)) g) left k in
    let own : place_weight (one_if (comes_in t v)) g k * get_or left k 0 ≡ 1 * get_or left k 0 = ap (λ (n : ℕ). n * get_or left k 0) weight in
    omega (arith, here, own, some)

pub one-some : (b : Bool) → 0 < cond {A = ℕ} b 1 0 → b ≡ true
one-some true h = refl
one-some false h = absurd (omega (arith, h))

pub out-on : (g : List TypeValue) (t v : ℕ) (kind : ArcKind) → v ≢ (flow_type g t).nodes → goes_out g t v kind ≡ true → goes_on t v kind ≡ true
out-on g t v (Bin s) inner out =
    let both = and_parts (s == t) ((flow_type g s).nodes == v) out in
    let own : s ≡ t = eqb-true s t both.0 in
    absurd (inner (sym (eqb-true (flow_type g s).nodes v both.1) ∙ ap (λ (u : ℕ). (flow_type g u).nodes) own))
out-on g t v (Loss s tail head) inner out = out
out-on g t v (Piece s tail head item form) inner out = out

-- where something comes into a node before the target, there is a way on
pub way-on : (g : List TypeValue) (left : List ℕ) (t v : ℕ) → length left ≡ length (numbered g) → IsConserved g left t v → v ≢ (flow_type g t).nodes → 0 < coming g left t v → (k : ℕ) × IsWayOn (numbered g) left t v k
way-on g left t v size conserved inner some =
    let same = coming-going g left t v conserved in
    let found = weigh-some (place_weight (one_if (goes_out g t v)) g) left (omega (arith, same, some)) in
    let k : ℕ = found.0 in
    let within = found.1 in
    let kind : ArcKind = get_or (numbered g) k (Bin 0) in
    let at : slice_get (numbered g) k ≡ Some kind = slice_get-get_or (numbered g) k (Bin 0) (omega (arith, within, size)) in
    let weight = place_weight-at (one_if (goes_out g t v)) g k kind at in
    let out : goes_out g t v kind ≡ true = one-some (goes_out g t v kind) (subst (λ (n : ℕ). 0 < n) weight found.2) in
    (k, record { kind = kind; there = at; goes = out-on g t v kind inner out; some = found.3 })

pub numbers-append : (g : List TypeValue) (t : ℕ) (ns ms : List ℕ) (p q : List TypeArc) → AreNumbersOf g t ns p → AreNumbersOf g t ms q → AreNumbersOf g t (ns ++ ms) (p ++ q)
numbers-append g t [] ms [] q h k = k
numbers-append g t [] ms (e ∷ p) q h k = absurd h
numbers-append g t (n ∷ ns) ms [] q h k = absurd h
numbers-append g t (n ∷ ns) ms (e ∷ p) q h k = (h.0, numbers-append g t ns ms p q h.1 k)

-- a walk so far: from the source to a node into which something comes, over arcs on which so much is left
pub record IsWalked (g : List TypeValue) (left : List ℕ) (t node times : ℕ) (arcs : List ℕ) : Type 0 where
  pub route : IsRoute g t 1 node arcs
  pub low : 1 ≤ node
  pub high : node ≤ (flow_type g t).nodes
  pub once : 1 ≤ times
  pub bin : times ≤ get_or left (first_arc g t - 1) 0
  pub each : All (λ a. times ≤ get_or left (a - 1) 0) arcs
  pub comes : 0 < coming g left t node

pub bin-place : (g : List TypeValue) (t : ℕ) → IsAmong t (length g) → slice_get (numbered g) (first_arc g t - 1) ≡ Some (Bin t)
bin-place g t among =
    let place : first_arc g t ≡ suc (first_arc g t - 1) = omega arith in
    sym (arc_at-suc g (first_arc g t - 1)) ∙ ap (arc_at g) (sym place) ∙ (has_numbers g t among).bin

pub walk-start : (g : List TypeValue) (left : List ℕ) (t : ℕ) → IsFlowGraph g → IsAmong t (length g) → 0 < get_or left (first_arc g t - 1) 0 → IsWalked g left t 1 (get_or left (first_arc g t - 1) 0) []
walk-start g left t is among some = record {
  route = ([], refl, tt);
  low = omega arith;
  high = (type_is g is t among).source;
  once = some;
  bin = omega arith;
  each = All-nil (λ a. get_or left (first_arc g t - 1) 0 ≤ get_or left (a - 1) 0);
  comes = coming-some g left t 1 (first_arc g t - 1) (Bin t) (bin-place g t among) (and_from (t == t) (1 == 1) (eq-eqb t t refl) refl) some;
}

-- a way on goes up, but not past the target
pub way-up : (g : List TypeValue) (left : List ℕ) (t node k : ℕ) (way : IsWayOn (numbered g) left t node k) → IsFlowGraph g → (node < head_of way.kind) × (head_of way.kind ≤ (flow_type g t).nodes)
way-up g left t node k way is =
    let from = arc_from g t node k way.kind way.there way.goes in
    let up = climbs_at (flow_type g t) (type_is g is t from.among) from.at from.within in
    let arc : TypeArc = get_or (flow_type g t).arcs from.at nothing in
    let head : head_of way.kind ≡ arc.head = ap head_of from.same ∙ head_of-kind t arc in
    let tail = from.tail in
    (omega (arith, up.1, head, tail), omega (arith, up.2, head))

pub route-more : (g : List TypeValue) (left : List ℕ) (t node k : ℕ) (arcs : List ℕ) (way : IsWayOn (numbered g) left t node k) → IsRoute g t 1 node arcs → IsRoute g t 1 (head_of way.kind) (arcs ++ (k + 1) ∷ [])
route-more g left t node k arcs way route =
    let from = arc_from g t node k way.kind way.there way.goes in
    let arc : TypeArc = get_or (flow_type g t).arcs from.at nothing in
    let head : arc.head ≡ head_of way.kind = sym (ap head_of from.same ∙ head_of-kind t arc) in
    let place : k + 1 ≡ suc k = omega arith in
    let number : arc_at g (k + 1) ≡ Some (kind_of t arc) = ap (arc_at g) place ∙ arc_at-suc g k ∙ way.there ∙ ap Some from.same in (
      route.0 ++ arc ∷ [],
      IsPath-append (flow_type g t).arcs 1 node (head_of way.kind) route.0 (arc ∷ []) route.1 (Contains-get_or (flow_type g t).arcs from.at nothing from.within, from.tail, head),
      numbers-append g t arcs ((k + 1) ∷ []) route.0 (arc ∷ []) route.2 (number, tt),
    )

pub any-more : (a : ℕ) (ns : List ℕ) (n : ℕ) → list_any (λ m. m == a) (ns ++ n ∷ []) ≡ (list_any (λ m. m == a) ns || (n == a))
any-more a [] n = by (n == a)
  where
    by : (b : Bool) → (b || false) ≡ b
    by true = refl
    by false = refl
any-more a (m ∷ ns) n = by (m == a) (any-more a ns n)
  where
    by : (b : Bool) → list_any (λ m. m == a) (ns ++ n ∷ []) ≡ (list_any (λ m. m == a) ns || (n == a)) → (b || list_any (λ m. m == a) (ns ++ n ∷ [])) ≡ ((b || list_any (λ m. m == a) ns) || (n == a))
    by true h = refl
    by false h = h

pub or-right : (a b : Bool) → b ≡ true → (a || b) ≡ true
or-right true b h = refl
or-right false b h = h

pub either-least : (a b c : ℕ) → c ≡ min a b → (c ≡ a) ⊎ (c ≡ b)
either-least a b c h = grind arith

-- at the start nothing would be left on the bin arc
pub used-start : (left : List ℕ) (a : ℕ) → IsUsedUp left (get_or left (a - 1) 0) (a ∷ [])
used-start left a = record { arc = a; among = ap (λ (b : Bool). b || false) (eq-eqb a a refl); all = refl }

-- one more arc, with the least of what is left
pub used-more : (left : List ℕ) (times k more : ℕ) (ns : List ℕ) → more ≡ min times (get_or left k 0) → IsUsedUp left times ns → IsUsedUp left more (ns ++ (k + 1) ∷ [])
used-more left times k more ns least used = by (either-least times (get_or left k 0) more least)
  where
    by : (more ≡ times) ⊎ (more ≡ get_or left k 0) → IsUsedUp left more (ns ++ (k + 1) ∷ [])
    by (inl same) = record {
      arc = used.arc;
      among = any-more used.arc ns (k + 1) ∙ ap (λ (b : Bool). b || (k + 1 == used.arc)) used.among;
      all = used.all ∙ sym same;
    }
    by (inr here) = record {
      arc = k + 1;
      among = any-more (k + 1) ns (k + 1) ∙ or-right (list_any (λ m. m == k + 1) ns) (k + 1 == k + 1) (eq-eqb (k + 1) (k + 1) refl);
      all = ap (λ (n : ℕ). get_or left n 0) place ∙ sym here;
    }
      where
        place : k + 1 - 1 ≡ k
        place = omega arith

pub walk-more : (g : List TypeValue) (left : List ℕ) (t node times k more : ℕ) (arcs : List ℕ) (way : IsWayOn (numbered g) left t node k) → IsFlowGraph g → IsWalked g left t node times arcs → more ≡ min times (get_or left k 0) → IsWalked g left t (head_of way.kind) more (arcs ++ (k + 1) ∷ [])
walk-more g left t node times k more arcs way is walked least =
    let from = arc_from g t node k way.kind way.there way.goes in
    let arc : TypeArc = get_or (flow_type g t).arcs from.at nothing in
    let up = way-up g left t node k way is in
    let some = way.some in
    let once = walked.once in
    let bin = walked.bin in
    let place : k + 1 - 1 ≡ k = omega arith in
    let here : more ≤ get_or left (k + 1 - 1) 0 = rw place (omega (arith, least)) in
    let comes : comes_in t (head_of way.kind) way.kind ≡ true =
    ap (λ (z : ArcKind). comes_in t (head_of z) z) from.same ∙ ap (λ (n : ℕ). comes_in t n (kind_of t arc)) (head_of-kind t arc) ∙ comes_kind t arc.head t arc ∙ and_from (t == t) (arc.head == arc.head) (eq-eqb t t refl) (eq-eqb arc.head arc.head refl) in
    record {
      route = route-more g left t node k arcs way walked.route;
      low = let low = walked.low in omega (arith, low, up.0);
      high = up.1;
      once = omega (arith, least, some, once);
      bin = omega (arith, least, bin);
      each = All-push (λ a. more ≤ get_or left (a - 1) 0) arcs (k + 1) (All-weaker (λ a. times ≤ get_or left (a - 1) 0) (λ a. more ≤ get_or left (a - 1) 0) (λ a most. omega (arith, least, most)) arcs walked.each) here;
      comes = coming-some g left t (head_of way.kind) k way.kind way.there comes way.some;
    }

-- a walk that has come to the target
pub walk-run : (g : List TypeValue) (left : List ℕ) (t times : ℕ) (arcs : List ℕ) → IsAmong t (length g) → IsWalked g left t (flow_type g t).nodes times arcs → IsRun g (record { t = t; times = times; arcs = arcs })
walk-run g left t times arcs among walked = record { of_type = among; times = walked.once; path = walked.route }

pub walk-most : (g : List TypeValue) (left : List ℕ) (t node times : ℕ) (arcs : List ℕ) → IsWalked g left t node times arcs → All (λ a. times ≤ get_or left (a - 1) 0) (circuit_of g (record { t = t; times = times; arcs = arcs }))
walk-most g left t node times arcs walked = All-cons (λ a. times ≤ get_or left (a - 1) 0) (first_arc g t) arcs walked.bin walked.each

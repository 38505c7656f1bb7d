-- What stands at a place of the row of arcs.
use Rattle.std.proofs.Common.{◌≡◌, ℕ, suc, ◌+◌, ◌-◌, ◌<◌, ◌≤◌, Bool, true, false, cond, ◌==◌, List, length, get_or, map, refl, sym, ap, ◌∙◌, subst, arith}
use Rattle.std.specs.Prelude.{Some, slice_get, option_map, ◌&&◌}
use Rattle.std.proofs.lemmas.Bool.{and_parts, eqb-true}
use Rattle.std.proofs.lemmas.Option.{slice_get-map, slice_get_within, get_or_from_slice_get}
use Rattle.std.proofs.lemmas.List.Elements.{Contains-get_or}
use Rattle.packing_laws.specs.Instances.{IsAmong}
use Rattle.flow_graph.specs.declared.parts.TypeArc.{TypeArc}
use Rattle.flow_graph.specs.declared.parts.ArcKind.{ArcKind}
use Rattle.flow_graph.specs.declared.parts.ArcKind.TheVariants.{Bin, Loss, Piece}
use Rattle.flow_graph.specs.Arcs.{TypeValue, IsFlowType, flow_type, kind_of, numbered, arc_at, first_arc}
use Rattle.flow_graph.specs.Laws.{IsKindAt, is_bin, is_arc}
use Rattle.flow_graph.proofs.ArcKinds.{arc_climbs, kind_at, nothing, number_of, place_of}
use Rattle.pattern_extract.specs.inner.Walks.{goes_on, head_of}

-- a weight of each arc, by the place of the arc
abbrev pub place_weight : (ArcKind → ℕ) → List TypeValue → ℕ → ℕ
place_weight w g k = get_or (map w (numbered g)) k 0

-- 1 for the arcs that pass a test
abbrev pub one_if : (ArcKind → Bool) → ArcKind → ℕ
one_if test kind = cond (test kind) 1 0

pub place_weight-at : (w : ArcKind → ℕ) (g : List TypeValue) (k : ℕ) (kind : ArcKind) → slice_get (numbered g) k ≡ Some kind → place_weight w g k ≡ w kind
place_weight-at w g k kind at = get_or_from_slice_get (map w (numbered g)) k (w kind) 0 (slice_get-map w (numbered g) k ∙ ap (option_map w) at)

pub number_weight-at : (w : ArcKind → ℕ) (g : List TypeValue) (a : ℕ) (kind : ArcKind) → arc_at g a ≡ Some kind → place_weight w g (a - 1) ≡ w kind
number_weight-at w g a kind at = place_weight-at w g (a - 1) kind (place_of g a kind at)

-- what stands at a place
pub kind_there : (g : List TypeValue) (k : ℕ) (kind : ArcKind) → slice_get (numbered g) k ≡ Some kind → IsKindAt g (suc k) kind
kind_there g k kind at = kind_at g (suc k) kind (number_of g k kind at)

pub either_goes : (b : Bool) (s t v tail head item form : ℕ) → goes_on t v (cond b (Loss s tail head) (Piece s tail head item form)) ≡ ((s == t) && (tail == v))
either_goes true s t v tail head item form = refl
either_goes false s t v tail head item form = refl

pub either_head : (b : Bool) (s tail head item form : ℕ) → head_of (cond b (Loss s tail head) (Piece s tail head item form)) ≡ head
either_head true s tail head item form = refl
either_head false s tail head item form = refl

pub goes_on-kind : (s t v : ℕ) (e : TypeArc) → goes_on t v (kind_of s e) ≡ ((s == t) && (e.tail == v))
goes_on-kind s t v e = either_goes (e.item == 0) s t v e.tail e.head e.item e.form

pub head_of-kind : (s : ℕ) (e : TypeArc) → head_of (kind_of s e) ≡ e.head
head_of-kind s e = either_head (e.item == 0) s e.tail e.head e.item e.form

-- an arc of type t that goes on from node v
pub record IsArcFrom (g : List TypeValue) (t v k : ℕ) (kind : ArcKind) : Type 0 where
  pub among : IsAmong t (length g)
  pub at : ℕ
  pub within : at < length (flow_type g t).arcs
  pub place : k ≡ first_arc g t + at
  pub same : kind ≡ kind_of t (get_or (flow_type g t).arcs at nothing)
  pub tail : (get_or (flow_type g t).arcs at nothing).tail ≡ v

pub goes-from : (g : List TypeValue) (t v k : ℕ) (kind : ArcKind) → goes_on t v kind ≡ true → IsKindAt g (suc k) kind → IsArcFrom g t v k kind
goes-from g t v k kind goes (is_bin s among place same) = let bad : goes_on t v (Bin s) ≡ true = ap (goes_on t v) (sym same) ∙ goes in cc
goes-from g t v k kind goes (is_arc s among j e at place same) =
    let both = and_parts (s == t) (e.tail == v) (sym (goes_on-kind s t v e) ∙ ap (goes_on t v) (sym same) ∙ goes) in
    let own : s ≡ t = eqb-true s t both.0 in
    let here : slice_get (flow_type g t).arcs j ≡ Some e = subst (λ (u : ℕ). slice_get (flow_type g u).arcs j ≡ Some e) own at in
    let read : get_or (flow_type g t).arcs j nothing ≡ e = get_or_from_slice_get (flow_type g t).arcs j e nothing here in
    let there : suc k ≡ first_arc g t + 1 + j = subst (λ (u : ℕ). suc k ≡ first_arc g u + 1 + j) own place in
    record {
      among = subst (λ (u : ℕ). IsAmong u (length g)) own among;
      at = j;
      within = slice_get_within (flow_type g t).arcs j e here;
      place = omega (arith, there);
      same = same ∙ (λ i. kind_of (own i) (sym read i));
      tail = ap (λ (f : TypeArc). f.tail) read ∙ eqb-true e.tail v both.1;
    }

pub arc_from : (g : List TypeValue) (t v k : ℕ) (kind : ArcKind) → slice_get (numbered g) k ≡ Some kind → goes_on t v kind ≡ true → IsArcFrom g t v k kind
arc_from g t v k kind at goes = goes-from g t v k kind goes (kind_there g k kind at)

pub climbs_at : (x : TypeValue) → IsFlowType x → (j : ℕ) → j < length x.arcs → (1 ≤ (get_or x.arcs j nothing).tail) × ((get_or x.arcs j nothing).tail < (get_or x.arcs j nothing).head) × ((get_or x.arcs j nothing).head ≤ x.nodes)
climbs_at x is j within = arc_climbs x is (get_or x.arcs j nothing) (Contains-get_or x.arcs j nothing within)

-- Walks from the source to a target, arc by arc.
use Rattle.std.proofs.Common.{◌≡◌, ◌≢◌, ℕ, ◌+◌, ◌-◌, ◌*◌, ◌<◌, ◌≤◌, Bool, true, false, cond, ◌==◌, List, [], ◌∷◌, ◌++◌, length, get_or, min, refl, sym, ap, ◌∙◌, subst, arith, All}
use Rattle.std.specs.Prelude.{Some, slice_get, sum_by}
use Rattle.std.specs.Option.{option_to_list}
use Rattle.std.proofs.lemmas.Bool.{eqb-true, eq-eqb}
use Rattle.std.proofs.lemmas.Option.{get_or_from_slice_get, slice_get-get_or, slice_get_within}
use Rattle.std.proofs.lemmas.List.Sums.{sum_by_push}
use Rattle.std.proofs.lemmas.List.Elements.{All-contains, All-nil, All-push, All-weaker}
use Rattle.std.proofs.lemmas.List.Quantifiers.{all_pairs_push}
use Rattle.packing_laws.specs.Packings.{Content}
use Rattle.packing_laws.specs.Instances.{IsAmong}
use Rattle.flow_graph.specs.declared.parts.TypeArc.{TypeArc}
use Rattle.flow_graph.specs.declared.parts.ArcKind.{ArcKind}
use Rattle.flow_graph.specs.declared.parts.ArcKind.TheVariants.{Bin, Loss, Piece}
use Rattle.flow_graph.specs.Arcs.{kind_of}
use Rattle.flow_graph.specs.Faithful.{IsPath, content_of, unit_of}
use Rattle.flow_graph.proofs.Ways.{IsPath-append}
use Rattle.pattern_extract.specs.Extracts.{unit_on}
use Rattle.pattern_extract.proofs.Places.{one_if}
use Rattle.pattern_extract.proofs.Steps.{one-some}
use Rattle.pattern_extract.proofs.Weights.{weigh-part, weigh-some}
use Rattle.joint_arcs.specs.Joined.{JointValue, Climbs, IsJoint, head_of, node_count, numbered, tail_of}
use Rattle.joint_arcs.specs.Flows.{IsConserved, comes_in, goes_out, total_of}
use Rattle.joint_extract.specs.inner.Circuits.{HasBins, HaveLeft, IsCircuit, IsWayOn, row_weight, start_of, weight_along}
use Rattle.joint_extract.proofs.RowPlaces.{IsPlaced, is_arc, is_bin, bin-there, climbs-at, head-kind, placed, row_sum, row_weight-at, start-kind, tail-kind}
use Rattle.joint_extract.proofs.Cursors.{IsArcFrom, way-arc, way-kind, way-within}

-- an arc that passes a test, with something on it
pub total-some : (test : ArcKind → Bool) (g : JointValue) (left : List ℕ) (k : ℕ) (kind : ArcKind) → slice_get (numbered g) k ≡ Some kind → test kind ≡ true → 0 < get_or left k 0 → 0 < total_of test g left
total-some test g left k kind at passes some =
    let all = row_sum (one_if test) g left in
    let weight : row_weight (one_if test) g k ≡ 1 = row_weight-at (one_if test) g k kind at ∙ ap (λ (b : Bool). cond {A = ℕ} b 1 0) passes in
    let here = weigh-part (row_weight (one_if test) g) left k in
    let own : row_weight (one_if test) g k * get_or left k 0 ≡ 1 * get_or left k 0 = ap (λ (n : ℕ). n * get_or left k 0) weight in
    omega (arith, all, here, own, some)

-- an arc that goes out of a node, with something on it
pub record IsOut (g : JointValue) (left : List ℕ) (v : ℕ) : Type 0 where
  pub place : ℕ
  pub kind : ArcKind
  pub there : slice_get (numbered g) place ≡ Some kind
  pub tail : tail_of g kind ≡ v
  pub some : 0 < get_or left place 0

-- where something comes into a node, something goes out of it
pub out-of : (g : JointValue) (left : List ℕ) (v : ℕ) → length left ≡ length (numbered g) → IsConserved g left v → 0 < total_of (comes_in v) g left → IsOut g left v
out-of g left v size conserved some =
    let all = row_sum (one_if (goes_out g v)) g left in
    let found = weigh-some (row_weight (one_if (goes_out g v)) g) left (omega (arith, conserved, some, all)) in
    let k : ℕ = found.0 in
    let within = found.1 in
    let kind : ArcKind = get_or (numbered g) k (Bin 0) in
    let at : slice_get (numbered g) k ≡ Some kind = slice_get-get_or (numbered g) k (Bin 0) (omega (arith, within, size)) in
    let weight = row_weight-at (one_if (goes_out g v)) g k kind at in
    let out : goes_out g v kind ≡ true = one-some (goes_out g v kind) (subst (λ (n : ℕ). 0 < n) weight found.2) in
    record { place = k; kind = kind; there = at; tail = eqb-true (tail_of g kind) v out; some = found.3 }

-- from a node that is no target it is a way on
pub starts-there : (g : JointValue) (v k : ℕ) (kind : ArcKind) → v ≤ g.inner → tail_of g kind ≡ v → IsPlaced g k kind → start_of kind ≡ v
starts-there g v k kind high tail (is_bin within same) =
    let far : g.inner + (k + 1) ≡ v = sym (ap (tail_of g) same) ∙ tail in
    absurd (omega (arith, far, high))
starts-there g v k kind high tail (is_arc j e at place same) = ap start_of same ∙ start-kind e ∙ sym (tail-kind g e) ∙ sym (ap (tail_of g) same) ∙ tail

pub way-on : (g : JointValue) (left : List ℕ) (v : ℕ) → v ≤ g.inner → IsOut g left v → (k : ℕ) × IsWayOn (numbered g) left v k
way-on g left v high out = (out.place, record { kind = out.kind; there = out.there; starts = starts-there g v out.place out.kind high out.tail (placed g out.place out.kind out.there); some = out.some })

-- from a target it is the bin arc of the target's type
pub bin-of-target : (g : JointValue) (v k : ℕ) (kind : ArcKind) → IsJoint g → g.inner < v → tail_of g kind ≡ v → IsPlaced g k kind → k ≡ v - g.inner - 1
bin-of-target g v k kind is low tail (is_bin within same) =
    let far : g.inner + (k + 1) ≡ v = sym (ap (tail_of g) same) ∙ tail in
    omega (arith, far)
bin-of-target g v k kind is low tail (is_arc j e at place same) =
    let inner = (climbs-at g j e is at).from_inner in
    let own : e.tail ≡ v = sym (tail-kind g e) ∙ sym (ap (tail_of g) same) ∙ tail in
    absurd (omega (arith, inner, own, low))

pub bin-left : (g : JointValue) (left : List ℕ) (v : ℕ) → IsJoint g → g.inner < v → IsOut g left v → 0 < get_or left (v - g.inner - 1) 0
bin-left g left v is low out =
    let here = bin-of-target g v out.place out.kind is low out.tail (placed g out.place out.kind out.there) in
    subst (λ (k : ℕ). 0 < get_or left k 0) here out.some

-- where the arc with this number begins
abbrev pub tail_at : JointValue → ℕ → ℕ
tail_at g a = tail_of g (get_or (numbered g) (a - 1) (Bin 0))

-- a walk so far: from the source to a node into which something comes, over arcs on which so much is left
pub record IsWalked (g : JointValue) (left : List ℕ) (node times : ℕ) (arcs : List ℕ) (counts : Content) : Type 0 where
  pub path : List TypeArc
  pub leads : IsPath g.arcs 1 node path
  pub content : counts ≡ content_of path
  pub weights : (w : ArcKind → ℕ) → weight_along (row_weight w g) arcs ≡ sum_by (λ e. w (kind_of 1 e)) path
  pub low : 1 ≤ node
  pub high : node ≤ node_count g
  pub once : 1 ≤ times
  pub have : HaveLeft left times arcs
  pub before : All (λ a. tail_at g a < node) arcs
  pub comes : 0 < total_of (comes_in node) g left

pub walk-start : (g : JointValue) (left : List ℕ) (times : ℕ) → IsJoint g → HasBins g left → 1 ≤ times → IsWalked g left 1 times [] []
walk-start g left times is bins once = record {
  path = [];
  leads = refl;
  content = refl;
  weights = λ w. refl;
  low = omega arith;
  high = let source = is.source in omega (arith, source);
  once = once;
  have = record { apart = λ i j d lt within. absurd (omega (arith, within)); each = All-nil (λ a. (1 ≤ a) × (a ≤ length left) × (times ≤ get_or left (a - 1) 0)) };
  before = All-nil (λ a. tail_at g a < 1);
  comes = total-some (comes_in 1) g left (bins.t - 1) (Bin bins.t) (bin-there g bins.t bins.of_type) refl bins.some;
}

pub either-unit : (b : Bool) (t tail head item form : ℕ) → cond b [] (record { item = item; form = form; count = 1 } ∷ []) ≡ option_to_list (unit_on (cond b (Loss t tail head) (Piece t tail head item form)))
either-unit true t tail head item form = refl
either-unit false t tail head item form = refl

pub either-first : (b : Bool) (c d : Content) (e : TypeArc) → cond b (c ++ d) (unit_of e ∷ (c ++ d)) ≡ cond b c (unit_of e ∷ c) ++ d
either-first true c d e = refl
either-first false c d e = refl

-- what a path with one more arc carries
pub content-more : (path : List TypeArc) (e : TypeArc) → content_of (path ++ e ∷ []) ≡ content_of path ++ option_to_list (unit_on (kind_of 1 e))
content-more [] e = either-unit (e.item == 0) 1 e.tail e.head e.item e.form
content-more (f ∷ path) e =
    let unit : Content = option_to_list (unit_on (kind_of 1 e)) in
    ap (λ (c : Content). cond (f.item == 0) c (unit_of f ∷ c)) (content-more path e) ∙ either-first (f.item == 0) (content_of path) unit f

-- one more arc that begins where none of the others does
module _ (g : JointValue) (left : List ℕ) (node times more k : ℕ) (arcs : List ℕ) where
  pub left-more : HaveLeft left times arcs → All (λ a. tail_at g a < node) arcs → more ≡ min times (get_or left k 0) → k < length left → tail_at g (k + 1) ≡ node → HaveLeft left more (arcs ++ (k + 1) ∷ [])
  left-more have before least within tail =
      let place : k + 1 - 1 ≡ k = omega arith in
      let here : more ≤ get_or left (k + 1 - 1) 0 = subst (λ (n : ℕ). more ≤ get_or left n 0) (sym place) (omega (arith, least)) in
      record {
        apart = all_pairs_push (λ a b. a ≢ b) arcs (k + 1) have.apart (λ i d short same.
            let early : tail_at g (get_or arcs i d) < node = before i d short in
            let own : tail_at g (get_or arcs i d) ≡ node = ap (tail_at g) same ∙ tail in
            omega (arith, early, own));
        each = All-push (λ a. (1 ≤ a) × (a ≤ length left) × (more ≤ get_or left (a - 1) 0)) arcs (k + 1)
            (All-weaker (λ a. (1 ≤ a) × (a ≤ length left) × (times ≤ get_or left (a - 1) 0)) (λ a. (1 ≤ a) × (a ≤ length left) × (more ≤ get_or left (a - 1) 0)) (λ a own. (own.0, own.1, omega (arith, least, own.2))) arcs have.each)
            (omega arith, omega (arith, within), here);
      }

-- a way on goes up, but not past the targets
pub record IsUp (g : JointValue) (node head : ℕ) : Type 0 where
  pub rises : node < head
  pub high : head ≤ node_count g

module _ (g : JointValue) (left : List ℕ) (node times more k : ℕ) (arcs : List ℕ) (counts : Content) (way : IsWayOn (numbered g) left node k) (is : IsJoint g) (size : length left ≡ length (numbered g)) (walked : IsWalked g left node times arcs counts) where
  from : IsArcFrom g node k way.kind
  from = way-arc g left node k way walked.low

  head : head_of way.kind ≡ from.arc.head
  head = ap head_of from.same ∙ head-kind from.arc

  tail : tail_at g (k + 1) ≡ node
  tail =
      let place : k + 1 - 1 ≡ k = omega arith in
      ap (λ (n : ℕ). tail_of g (get_or (numbered g) n (Bin 0))) place ∙ ap (tail_of g) (way-kind (numbered g) left node k (Bin 0) way ∙ from.same) ∙ tail-kind g from.arc ∙ from.tail

  pub way-up : IsUp g node (head_of way.kind)
  way-up =
      let climbs = All-contains (Climbs g) g.arcs from.arc is.climbs from.among in
      let up = climbs.up in
      let high = climbs.high in
      let own = from.tail in
      let end = head in
      record { rises = omega (arith, up, own, end); high = omega (arith, high, end) }

  pub walk-more : more ≡ min times (get_or left k 0) → IsWalked g left (head_of way.kind) more (arcs ++ (k + 1) ∷ []) (counts ++ option_to_list (unit_on way.kind))
  walk-more least =
      let e : TypeArc = from.arc in
      let same : way.kind ≡ kind_of 1 e = from.same in
      let up = way-up in
      let rises = up.rises in
      let some = way.some in
      let once = walked.once in
      let here = tail in
      let place : k + 1 - 1 ≡ k = omega arith in
      let within = way-within (numbered g) left node k way in
      record {
        path = walked.path ++ e ∷ [];
        leads = IsPath-append g.arcs 1 node (head_of way.kind) walked.path (e ∷ []) walked.leads (from.among, from.tail, sym head);
        content = ap (λ (c : Content). c ++ option_to_list (unit_on way.kind)) walked.content ∙ ap (λ (kind : ArcKind). content_of walked.path ++ option_to_list (unit_on kind)) same ∙ sym (content-more walked.path e);
        weights = λ w.
            let before = walked.weights w in
            let one = sum_by_push (λ (a : ℕ). row_weight w g (a - 1)) arcs (k + 1) in
            let two = sum_by_push (λ (f : TypeArc). w (kind_of 1 f)) walked.path e in
            let own : row_weight w g (k + 1 - 1) ≡ w (kind_of 1 e) = ap (row_weight w g) place ∙ row_weight-at w g k way.kind way.there ∙ ap w same in
            omega (arith, before, one, two, own);
        low = let low = walked.low in omega (arith, low, rises);
        high = up.high;
        once = omega (arith, least, some, once);
        have = left-more g left node times more k arcs walked.have walked.before least (omega (arith, within, size)) tail;
        before = All-push (λ a. tail_at g a < head_of way.kind) arcs (k + 1) (All-weaker (λ a. tail_at g a < node) (λ a. tail_at g a < head_of way.kind) (λ a early. omega (arith, early, rises)) arcs walked.before) (omega (arith, here, rises));
        comes = total-some (comes_in (head_of way.kind)) g left k way.kind way.there (eq-eqb (head_of way.kind) (head_of way.kind) refl) way.some;
      }

-- a walk that has come to a target, and goes back by the bin arc of the target's type
module _ (g : JointValue) (left : List ℕ) (node t times : ℕ) (arcs : List ℕ) (counts : Content) (is : IsJoint g) (size : length left ≡ length (numbered g)) (far : g.inner < node) (type_is : t ≡ node - g.inner) (walked : IsWalked g left node times arcs counts) (out : IsOut g left node) where
  pub of-type : IsAmong t g.types
  of-type = let high = walked.high in (omega (arith, far, type_is), omega (arith, high, type_is))

  some : 0 < get_or left (t - 1) 0
  some = subst (λ (n : ℕ). 0 < get_or left (n - 1) 0) (sym type_is) (bin-left g left node is far out)

  place : slice_get (numbered g) (t - 1) ≡ Some (Bin t)
  place = bin-there g t of-type

  pub bin-inside : t - 1 < length left
  bin-inside = let within = slice_get_within (numbered g) (t - 1) (Bin t) place in omega (arith, within, size)

  number : t - 1 + 1 ≡ t
  number = let own = of-type in omega (arith, own.0)

  pub walk-left : (more : ℕ) → more ≡ min times (get_or left (t - 1) 0) → HaveLeft left more (arcs ++ t ∷ [])
  walk-left more least =
      let own = of-type in
      let tail : tail_at g (t - 1 + 1) ≡ node =
      ap (tail_at g) number ∙ ap (tail_of g) (get_or_from_slice_get (numbered g) (t - 1) (Bin t) (Bin 0) place) ∙ omega (arith, far, type_is) in
      subst (λ (a : ℕ). HaveLeft left more (arcs ++ a ∷ [])) number (left-more g left node times more (t - 1) arcs walked.have walked.before least bin-inside tail)

  pub walk-circuit : (more : ℕ) → more ≡ min times (get_or left (t - 1) 0) → IsCircuit g (record { bin_type = t; times = more; counts = counts }) (arcs ++ t ∷ [])
  walk-circuit more least =
      let once = walked.once in
      let here = some in
      let target : node ≡ g.inner + t = omega (arith, far, type_is) in
      record {
        of_type = of-type;
        times = omega (arith, least, once, here);
        path = walked.path;
        leads = subst (λ (v : ℕ). IsPath g.arcs 1 v walked.path) target walked.leads;
        content = walked.content;
        weights = λ w.
            let before = walked.weights w in
            let pushed = sum_by_push (λ (a : ℕ). row_weight w g (a - 1)) arcs t in
            let own = row_weight-at w g (t - 1) (Bin t) place in
            omega (arith, before, pushed, own);
      }

-- The heaviest ways from the source.
use Rattle.std.proofs.Common.{◌≡◌, ◌↔◌, ℕ, ◌+◌, ◌-◌, ◌^◌, ◌<◌, ◌≤◌, List, [], ◌∷◌, ◌++◌, length, get_or, set, take, refl, sym, ap, ◌∙◌, subst, ⊎_elim, arith}
use Rattle.std.specs.Prelude.{Contains}
use Rattle.std.specs.Ordering.{nat_cmp}
use Rattle.std.specs.Cmp.Lexicographic.{slice_cmp}
use Rattle.std.proofs.lemmas.Cmp.{nat_list_cmp_total}
use Rattle.std.proofs.lemmas.List.{get_or_default, get_or_read, get_or-take, length-take, take_more}
use Rattle.std.proofs.lemmas.List.Elements.{Contains-get_or}
use Rattle.weight_vec.specs.Weight.{Before, IsInRange, higher, plus}
use Rattle.weight_vec.proofs.Places.{get_or-plus}
use Rattle.label_graph.specs.declared.parts.GraphArc.{GraphArc}
use Rattle.label_graph.specs.declared.parts.Piece.{Piece}
use Rattle.label_graph.specs.Graph.{ArcBefore, IsPath, IsKnown, weight_in, mark_weight, label_of}
use Rattle.label_graph.proofs.Paths.{IsPath-append, weight-append}
use Rattle.final_compress.proofs.Arriving.{AreBrought, brought-more}
use Rattle.joint_graph.specs.Joints.{JointValue, IsJoint, IsNode, IsInner, node_count}
use Rattle.joint_graph.specs.Ways.{IsWayTo, HaveSameWeights}
use Rattle.joint_graph.specs.inner.Passes.{AreWaysTo, weight_at}
use Rattle.joint_graph.specs.inner.Ranks.{AreRanks}
use Rattle.joint_graph.specs.inner.Classes.{class_at, AreNumbered, RiseAlong}
use Rattle.joint_graph.proofs.JointPaths.{before-tail, climbs-at, known-at, tail-inner, tail-node, path-begin, path-range}
use Rattle.joint_graph.proofs.Weighing.{heaviest-one, way-arrives, at-most-cases, loss-only, carried-narrow}
use Rattle.joint_graph.proofs.RankLemmas.{rank-same, rank-equal, rank-less, rank-onto}
use Rattle.joint_graph.proofs.ClassLemmas.{inner-node}

module _ (N : ℕ) (g : JointValue N) (is : IsJoint N g) where
  within-take : (i : ℕ) (f : GraphArc) → i ≤ length g.arcs → Contains (take i g.arcs) f → (k : ℕ) × (k < i) × (get_or g.arcs k f ≡ f)
  within-take i f high m =
      let lt : m.0 < length (take i g.arcs) = m.1 in
      let low : m.0 < i = omega (arith, length-take i g.arcs) in
      (m.0, low, sym (get_or-take i g.arcs m.0 f low) ∙ m.2)

  before-take : (i : ℕ) (d f : GraphArc) → i < length g.arcs → Contains (take i g.arcs) f → f.tail ≤ (get_or g.arcs i d).tail
  before-take i d f lt m =
      let w = within-take i f (omega arith) m in
      let pair : ArcBefore (get_or g.arcs w.0 f) (get_or g.arcs i f) = is.ordered w.0 i f w.1 lt in
      let here : get_or g.arcs i f ≡ get_or g.arcs i d = get_or_default g.arcs i f d lt in
      omega (arith, before-tail (get_or g.arcs w.0 f) (get_or g.arcs i f) pair, ap (λ (x : GraphArc). x.tail) w.2, ap (λ (x : GraphArc). x.tail) here)

  whole-path : (i : ℕ) → i ≤ length g.arcs → (path : List GraphArc) (a b : ℕ) → IsPath (take i g.arcs) a b path → IsPath g.arcs a b path
  whole-path i high [] a b h = h
  whole-path i high (f ∷ path) a b h =
      let w = within-take i f high h.0 in
      ((w.0, omega (arith, w.1), w.2), h.1, whole-path i high path f.head b h.2)

  module _ (ps : List (Piece N)) (seen : List GraphArc) (ps_are : ps ≡ g.pieces) (seen_are : seen ≡ g.arcs) (i : ℕ) (d : GraphArc) (lt : i < length g.arcs) (labels : List (List ℕ)) (are : AreBrought g.pieces (take i g.arcs) (node_count g) labels) where
    abbrev arc : GraphArc
    arc = get_or seen i d

    arc-is : arc ≡ get_or g.arcs i d
    arc-is = ap (λ (xs : List GraphArc). get_or xs i d) seen_are

    pub arc-there : Contains g.arcs arc
    arc-there = subst (λ (e : GraphArc). Contains g.arcs e) (sym arc-is) (Contains-get_or g.arcs i d lt)

    pub arc-ends : (1 ≤ arc.tail) × (arc.tail < arc.head) × (arc.head ≤ node_count g)
    arc-ends = let up = climbs-at N g is arc arc-there in (up.low, up.up, up.high)

    pub arc-known : IsKnown ps arc.mark
    arc-known = subst (λ (qs : List (Piece N)). IsKnown qs arc.mark) (sym ps_are) (known-at N g is arc arc-there)

    there-is : (there : List ℕ) → there ≡ get_or labels (arc.tail - 1) there → there ≡ label_of labels arc.tail
    there-is there at = get_or_read labels (arc.tail - 1) there (omega (arith, arc-ends.0, arc-ends.1, arc-ends.2, are.count)) at []

    here-is : (here : List ℕ) → here ≡ get_or labels (arc.head - 1) here → here ≡ label_of labels arc.head
    here-is here at = get_or_read labels (arc.head - 1) here (omega (arith, arc-ends.0, arc-ends.1, arc-ends.2, are.count)) at []

    sum-range : (k : ℕ) → get_or (plus (label_of labels arc.tail) (mark_weight g.pieces arc.mark)) k 0 < 2 ^ 32
    sum-range k =
        let up = arc-ends in
        let way = are.heaviest arc.tail k up.0 (omega (arith, up.1, up.2)) in
        let front : IsPath g.arcs way.first arc.tail way.path = whole-path i (omega arith) way.path way.first arc.tail way.leads in
        let leads : IsPath g.arcs way.first arc.head (way.path ++ arc ∷ []) = IsPath-append g.arcs way.first arc.tail arc.head way.path (arc ∷ []) front (arc-there, refl, refl) in
        let first : IsNode g way.first = path-begin N g is way.path way.first arc.tail (tail-node N g is arc arc-there) front in
        let range = path-range N g is (way.path ++ arc ∷ []) way.first arc.head first leads k in
        omega (arith, get_or-plus (label_of labels arc.tail) (mark_weight g.pieces arc.mark) k, weight-append g.pieces k way.path (arc ∷ []), way.weighs)

    pub arc-range : (there : List ℕ) → there ≡ get_or labels (arc.tail - 1) there → IsInRange (plus there (mark_weight ps arc.mark))
    arc-range there at =
        subst (λ (qs : List (Piece N)). IsInRange (plus there (mark_weight qs arc.mark))) (sym ps_are)
        (subst (λ (l : List ℕ). IsInRange (plus l (mark_weight g.pieces arc.mark))) (sym (there-is there at)) sum-range)

    pub arc-step : (here there brought new : List ℕ) → here ≡ get_or labels (arc.head - 1) here → there ≡ get_or labels (arc.tail - 1) there → brought ≡ plus there (mark_weight ps arc.mark) → new ≡ higher here brought → AreBrought g.pieces (take (i + 1) g.arcs) (node_count g) (set labels (arc.head - 1) new)
    arc-step here there brought new at at_there brought_is new_is =
        let whole : take (i + 1) g.arcs ≡ take i g.arcs ++ arc ∷ [] = take_more g.arcs i d lt ∙ (λ k. take i g.arcs ++ sym arc-is k ∷ []) in
        let before : (f : GraphArc) → Contains (take i g.arcs) f → f.tail ≤ arc.tail = λ f m. omega (arith, ap (λ (x : GraphArc). x.tail) arc-is, before-take i d f lt m) in
        let more = brought-more g.pieces (node_count g) (take i g.arcs) arc before arc-ends labels (carried-narrow N g is arc.mark) are in
        let sum : plus (label_of labels arc.tail) (mark_weight g.pieces arc.mark) ≡ brought = (λ k. plus (sym (there-is there at_there) k) (mark_weight (sym ps_are k) arc.mark)) ∙ sym brought_is in
        let value : higher (label_of labels arc.head) (plus (label_of labels arc.tail) (mark_weight g.pieces arc.mark)) ≡ new = (λ k. higher (sym (here-is here at) k) (sum k)) ∙ sym new_is in
        subst (λ (arcs : List GraphArc). AreBrought g.pieces arcs (node_count g) (set labels (arc.head - 1) new)) (sym whole)
        (subst (λ (l : List ℕ). AreBrought g.pieces (take i g.arcs ++ arc ∷ []) (node_count g) (set labels (arc.head - 1) l)) value more)

  -- the heaviest way that arrives at a node comes from the source
  pub ways-to : (labels : List (List ℕ)) → AreBrought g.pieces g.arcs (node_count g) labels → AreWaysTo g labels
  ways-to labels are =
      record {
        count = are.count;
        each = λ v node. record {
          sized = are.sized v node.0 node.1;
          each = λ d.
              let way = are.heaviest v d node.0 node.1 in
              let first = path-begin N g is way.path way.first v node way.leads in
              let front = is.comes way.first first in
              let path = front.0 ++ way.path in
              let leads : IsPath g.arcs 1 v path = IsPath-append g.arcs 1 way.first v front.0 way.path front.1 way.leads in
              let most : weight_in g.pieces d path ≤ get_or (label_of labels v) d 0 = way.most path 1 leads in
              record {
                path = path;
                leads = leads;
                weighs = omega (arith, weight-append g.pieces d front.0 way.path, way.weighs);
                most = λ other h. way.most other 1 h;
              };
        };
      }

  -- ranks of the nodes that are no targets, by their weights
  module _ (weights : List (List ℕ)) (to : AreWaysTo g weights) (inner_weights : List (List ℕ)) (inner_are : inner_weights ≡ take g.inner weights) (distinct : List (List ℕ)) (numbers : List ℕ) (are : AreRanks (slice_cmp nat_cmp) inner_weights distinct numbers) where
    sized : length inner_weights ≡ g.inner
    sized = ap length inner_are ∙ omega (arith, length-take g.inner weights, to.count)

    index-low : (v : ℕ) → IsInner g v → v - 1 < length inner_weights
    index-low v inner = omega (arith, inner.0, inner.1, sized)

    weight-is : (v : ℕ) → IsInner g v → get_or inner_weights (v - 1) [] ≡ weight_at weights v
    weight-is v inner = ap (λ (ws : List (List ℕ)). get_or ws (v - 1) []) inner_are ∙ get_or-take g.inner weights (v - 1) [] (omega (arith, inner.0, inner.1))

    way-is : (v : ℕ) (way : List ℕ) → IsInner g v → IsWayTo g v way → way ≡ weight_at weights v
    way-is v way inner is_way = heaviest-one g.pieces g.arcs 1 v way (weight_at weights v) is_way (to.each v (inner-node N g is v inner))

    pub ranks-numbered : AreNumbered g numbers (length distinct)
    ranks-numbered =
        record {
          sized = are.sized ∙ sized;
          few = omega (arith, are.few, sized);
          low = λ v inner. (are.each (v - 1) [] (index-low v inner)).low;
          high = λ v inner. (are.each (v - 1) [] (index-low v inner)).high;
          onto = λ w low high.
              let found = rank-onto (slice_cmp nat_cmp) nat_list_cmp_total inner_weights distinct numbers are [] w low high in
              let same : found.0 + 1 - 1 ≡ found.0 = omega arith in
              (found.0 + 1, (omega arith, omega (arith, found.1, sized)), ap (λ (k : ℕ). get_or numbers k 0) same ∙ found.2);
        }

    pub ranks-same : (v w : ℕ) → IsInner g v → IsInner g w → (class_at numbers v ≡ class_at numbers w) ↔ HaveSameWeights g v w
    ranks-same v w a b = (
      λ same.
          let equal = rank-same (slice_cmp nat_cmp) nat_list_cmp_total inner_weights distinct numbers are (v - 1) (w - 1) [] (index-low v a) (index-low w b) same in
          let one : weight_at weights w ≡ weight_at weights v = sym (weight-is w b) ∙ sym equal ∙ weight-is v a in
          (weight_at weights v, to.each v (inner-node N g is v a), subst (λ (l : List ℕ). IsWayTo g w l) one (to.each w (inner-node N g is w b))),
      λ h.
          let equal : get_or inner_weights (v - 1) [] ≡ get_or inner_weights (w - 1) [] = weight-is v a ∙ sym (way-is v h.0 a h.1) ∙ way-is w h.0 b h.2 ∙ sym (weight-is w b) in
          rank-equal (slice_cmp nat_cmp) nat_list_cmp_total inner_weights distinct numbers are (v - 1) (w - 1) [] (index-low v a) (index-low w b) equal,
    )

    pub ranks-sorted : (v w : ℕ) (lighter heavier : List ℕ) → IsInner g v → IsInner g w → IsWayTo g v lighter → IsWayTo g w heavier → Before lighter heavier → class_at numbers v < class_at numbers w
    ranks-sorted v w lighter heavier a b one two before =
        let less : Before (get_or inner_weights (v - 1) []) (get_or inner_weights (w - 1) []) = subst (λ (l : List ℕ). Before l (get_or inner_weights (w - 1) [])) (way-is v lighter a one ∙ sym (weight-is v a)) (subst (λ (l : List ℕ). Before lighter l) (way-is w heavier b two ∙ sym (weight-is w b)) before) in
        rank-less (slice_cmp nat_cmp) nat_list_cmp_total inner_weights distinct numbers are (v - 1) (w - 1) [] (index-low v a) (index-low w b) less

    pub ranks-rise : RiseAlong g numbers
    ranks-rise e m head =
        let tail = tail-inner N g is e m in
        let one = to.each e.tail (inner-node N g is e.tail tail) in
        let two = to.each e.head (inner-node N g is e.head head) in
        let grows : (d : ℕ) → get_or (weight_at weights e.tail) d 0 + get_or (mark_weight g.pieces e.mark) d 0 ≤ get_or (weight_at weights e.head) d 0 = λ d. way-arrives g.pieces g.arcs e 1 d (weight_at weights e.tail) (weight_at weights e.head) m one two in (
          ⊎_elim
              (λ same. omega (arith, (ranks-same e.tail e.head tail head).1 (weight_at weights e.tail, one, subst (λ (l : List ℕ). IsWayTo g e.head l) (sym same) two)))
              (λ before. omega (arith, ranks-sorted e.tail e.head (weight_at weights e.tail) (weight_at weights e.head) tail head one two before))
              (at-most-cases (weight_at weights e.tail) (weight_at weights e.head) (one.sized ∙ sym two.sized) (λ d. omega (arith, grows d))),
          λ same.
              let shared = (ranks-same e.tail e.head tail head).0 same in
              let equal : weight_at weights e.tail ≡ weight_at weights e.head = sym (way-is e.tail shared.0 tail shared.1) ∙ way-is e.head shared.0 head shared.2 in
              loss-only N g is e.mark (known-at N g is e m) (λ d. omega (arith, grows d, ap (λ (l : List ℕ). get_or l d 0) equal)),
        )

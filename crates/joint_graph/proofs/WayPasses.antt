-- One pass over the arcs of a joint graph, from the last to the first.
use Rattle.std.proofs.Common.{◌≡◌, ◌≢◌, ℕ, zero, suc, ◌+◌, ◌-◌, ◌<◌, ◌≤◌, Option, Some, None, List, [], ◌∷◌, ◌++◌, length, get_or, set, drop, replicate, refl, sym, ap, ◌∙◌, subst, ⊎_elim, arith}
use Rattle.std.specs.Prelude.{Contains}
use Rattle.std.proofs.lemmas.Bool.{cases_eq}
use Rattle.std.proofs.lemmas.List.{get_or_default, get_or_read, get_or-drop, length-drop, drop_more, length-set, get_or-set_same, get_or-set_other}
use Rattle.std.proofs.lemmas.List.Elements.{Contains-get_or}
use Rattle.weight_vec.specs.Weight.{IsInRange, plus}
use Rattle.weight_vec.proofs.Places.{get_or-plus}
use Rattle.label_graph.specs.declared.parts.Piece.{Piece}
use Rattle.label_graph.specs.declared.parts.GraphArc.{GraphArc}
use Rattle.label_graph.specs.Graph.{ArcBefore, IsKnown, IsPath, mark_weight}
use Rattle.label_graph.proofs.Members.{contains_cons}
use Rattle.joint_graph.specs.Joints.{JointValue, IsJoint, IsType, node_count, target_at}
use Rattle.joint_graph.specs.Ways.{IsWay, AreHeaviest}
use Rattle.joint_graph.specs.inner.Passes.{relax, way_at, AreWaysAlong}
use Rattle.joint_graph.proofs.JointPaths.{before-tail, climbs-at, known-at, tail-node, head-node, path-range}
use Rattle.joint_graph.proofs.WaysOn.{way-itself, way-nowhere, way-other, way-tail}
use Rattle.joint_graph.proofs.Weighing.{carried-narrow}

-- one more node without a way
pub none-more : (ways : List (Option (List ℕ))) → ((k : ℕ) → get_or ways k None ≡ None) → (k : ℕ) → get_or (ways ++ None ∷ []) k None ≡ None
none-more [] empty zero = refl
none-more [] empty (suc k) = refl
none-more (way ∷ ways) empty zero = empty 0
none-more (way ∷ ways) empty (suc k) = none-more ways (λ j. empty (suc j)) k

module _ (N : ℕ) (g : JointValue N) (is : IsJoint N g) (t : ℕ) where
  -- without arcs the target alone has a way on
  pub ways-start : IsType g.caps t → (none : List (Option (List ℕ))) → length none ≡ node_count g → ((k : ℕ) → get_or none k None ≡ None) → (index : ℕ) → index ≡ g.inner + t - 1 → AreWaysAlong g t [] (set none index (Some (replicate N 0)))
  ways-start is_type none sized empty index at =
      let ways : List (Option (List ℕ)) = set none index (Some (replicate N 0)) in
      let lt : index < length none = omega (arith, sized, is_type.0, is_type.1) in
      record {
        count = length-set none index (Some (replicate N 0)) ∙ sized;
        each = λ v node. ⊎_elim
            (λ same.
            let place : v - 1 ≡ index = omega (arith, same, at) in
            let here : way_at ways v ≡ Some (replicate N 0) = ap (λ (k : ℕ). get_or ways k None) place ∙ get_or-set_same none index (Some (replicate N 0)) None lt in
            subst (λ (o : Option (List ℕ)). IsWay g.pieces [] v (target_at g t) o) (sym here) (way-itself g.pieces (target_at g t) v same))
            (λ ne.
            let place : v - 1 ≢ index = omega (arith, at, node.0, is_type.0) in
            let here : way_at ways v ≡ None = get_or-set_other none index (v - 1) (Some (replicate N 0)) None place ∙ empty (v - 1) in
            subst (λ (o : Option (List ℕ)). IsWay g.pieces [] v (target_at g t) o) (sym here) (λ path h. way-nowhere g.pieces (target_at g t) v ne path h))
            (cases_eq v (target_at g t));
      }

  -- one more arc in front
  ways-more : (e : GraphArc) (arcs : List GraphArc) → Contains g.arcs e → ((f : GraphArc) → Contains arcs f → e.tail ≤ f.tail) → ((f : GraphArc) → Contains arcs f → Contains g.arcs f) → (ways : List (Option (List ℕ))) → AreWaysAlong g t arcs ways → AreWaysAlong g t (e ∷ arcs) (set ways (e.tail - 1) (relax (mark_weight g.pieces e.mark) (way_at ways e.tail) (way_at ways e.head)))
  ways-more e arcs there after within ways are =
      let tail = tail-node N g is e there in
      let head = head-node N g is e there in
      let climbs : (f : GraphArc) → Contains (e ∷ arcs) f → f.tail < f.head = λ f m. ⊎_elim
      (λ same. subst (λ (x : GraphArc). x.tail < x.head) same (climbs-at N g is e there).up)
      (λ later. (climbs-at N g is f (within f later)).up)
      (contains_cons e arcs f m) in
      let new = relax (mark_weight g.pieces e.mark) (way_at ways e.tail) (way_at ways e.head) in
      let all = set ways (e.tail - 1) new in
      let made : IsWay g.pieces (e ∷ arcs) e.tail (target_at g t) new = way-tail g.pieces (target_at g t) e arcs after climbs (way_at ways e.tail) (way_at ways e.head) (carried-narrow N g is e.mark) (are.each e.tail tail) (are.each e.head head) in
      record {
        count = length-set ways (e.tail - 1) new ∙ are.count;
        each = λ v node. ⊎_elim
            (λ same.
            let here : way_at all v ≡ new = ap (λ (k : ℕ). way_at all k) same ∙ get_or-set_same ways (e.tail - 1) new None (omega (arith, tail.0, tail.1, are.count)) in
            subst (λ (o : Option (List ℕ)). IsWay g.pieces (e ∷ arcs) v (target_at g t) o) (sym here)
            (subst (λ (k : ℕ). IsWay g.pieces (e ∷ arcs) k (target_at g t) new) (sym same) made))
            (λ ne.
            let here : way_at all v ≡ way_at ways v = get_or-set_other ways (e.tail - 1) (v - 1) new None (omega (arith, tail.0, node.0)) in
            subst (λ (o : Option (List ℕ)). IsWay g.pieces (e ∷ arcs) v (target_at g t) o) (sym here)
            (way-other g.pieces (target_at g t) e arcs after climbs v (way_at ways v) ne (are.each v node)))
            (cases_eq v e.tail);
      }

  within-drop : (j : ℕ) (f : GraphArc) → Contains (drop j g.arcs) f → Contains g.arcs f
  within-drop j f m =
      let lt : m.0 < length (drop j g.arcs) = m.1 in
      (j + m.0, omega (arith, length-drop j g.arcs), sym (get_or-drop j g.arcs m.0 f) ∙ m.2)

  after-drop : (i j : ℕ) (d f : GraphArc) → i < j → Contains (drop j g.arcs) f → (get_or g.arcs i d).tail ≤ f.tail
  after-drop i j d f low m =
      let lt : m.0 < length (drop j g.arcs) = m.1 in
      let sized : length (drop j g.arcs) ≡ length g.arcs - j = length-drop j g.arcs in
      let pair : ArcBefore (get_or g.arcs i f) (get_or g.arcs (j + m.0) f) = is.ordered i (j + m.0) f (omega arith) (omega arith) in
      let there : get_or g.arcs (j + m.0) f ≡ f = sym (get_or-drop j g.arcs m.0 f) ∙ m.2 in
      let here : get_or g.arcs i f ≡ get_or g.arcs i d = get_or_default g.arcs i f d (omega arith) in
      let tails : (get_or g.arcs i f).tail ≤ (get_or g.arcs (j + m.0) f).tail = before-tail (get_or g.arcs i f) (get_or g.arcs (j + m.0) f) pair in
      omega (arith, ap (λ (x : GraphArc). x.tail) there, ap (λ (x : GraphArc). x.tail) here)

  whole-path : (j : ℕ) (path : List GraphArc) (a b : ℕ) → IsPath (drop j g.arcs) a b path → IsPath g.arcs a b path
  whole-path j [] a b h = h
  whole-path j (f ∷ path) a b h = (within-drop j f h.0, h.1, whole-path j path f.head b h.2)

  module _ (ps : List (Piece N)) (seen : List GraphArc) (ps_are : ps ≡ g.pieces) (seen_are : seen ≡ g.arcs) (j : ℕ) (d : GraphArc) (low : 1 ≤ j) (high : j ≤ length g.arcs) (ways : List (Option (List ℕ))) (are : AreWaysAlong g t (drop j g.arcs) ways) where
    abbrev arc : GraphArc
    arc = get_or seen (j - 1) d

    arc-is : arc ≡ get_or g.arcs (j - 1) d
    arc-is = ap (λ (xs : List GraphArc). get_or xs (j - 1) d) seen_are

    pub arc-there : Contains g.arcs arc
    arc-there = subst (λ (e : GraphArc). Contains g.arcs e) (sym arc-is) (Contains-get_or g.arcs (j - 1) d (omega arith))

    pub arc-ends : (1 ≤ arc.tail) × (arc.tail < arc.head) × (arc.head ≤ node_count g)
    arc-ends = let up = climbs-at N g is arc arc-there in (up.low, up.up, up.high)

    pub arc-known : IsKnown ps arc.mark
    arc-known = subst (λ (qs : List (Piece N)). IsKnown qs arc.mark) (sym ps_are) (known-at N g is arc arc-there)

    behind-is : (behind : Option (List ℕ)) → behind ≡ get_or ways (arc.head - 1) behind → behind ≡ way_at ways arc.head
    behind-is behind at = get_or_read ways (arc.head - 1) behind (omega (arith, arc-ends.0, arc-ends.1, arc-ends.2, are.count)) at None

    here-is : (here : Option (List ℕ)) → here ≡ get_or ways (arc.tail - 1) here → here ≡ way_at ways arc.tail
    here-is here at = get_or_read ways (arc.tail - 1) here (omega (arith, arc-ends.0, arc-ends.1, arc-ends.2, are.count)) at None

    pub arc-range : (behind : Option (List ℕ)) → behind ≡ get_or ways (arc.head - 1) behind → (b : List ℕ) → behind ≡ Some b → IsInRange (plus b (mark_weight ps arc.mark))
    arc-range behind at b some k =
        let way : AreHeaviest g.pieces (drop j g.arcs) arc.head (target_at g t) b = subst (λ (o : Option (List ℕ)). IsWay g.pieces (drop j g.arcs) arc.head (target_at g t) o) (sym (behind-is behind at) ∙ some) (are.each arc.head (head-node N g is arc arc-there)) in
        let on = way.each k in
        let leads : IsPath g.arcs arc.tail (target_at g t) (arc ∷ on.path) = (arc-there, refl, whole-path j on.path arc.head (target_at g t) on.leads) in
        let range = path-range N g is (arc ∷ on.path) arc.tail (target_at g t) (tail-node N g is arc arc-there) leads k in
        let same : get_or (mark_weight ps arc.mark) k 0 ≡ get_or (mark_weight g.pieces arc.mark) k 0 = ap (λ (qs : List (Piece N)). get_or (mark_weight qs arc.mark) k 0) ps_are in
        omega (arith, range, on.weighs, same, get_or-plus b (mark_weight ps arc.mark) k)

    pub arc-step : (here behind new : Option (List ℕ)) → here ≡ get_or ways (arc.tail - 1) here → behind ≡ get_or ways (arc.head - 1) behind → new ≡ relax (mark_weight ps arc.mark) here behind → AreWaysAlong g t (drop (j - 1) g.arcs) (set ways (arc.tail - 1) new)
    arc-step here behind new at at_behind new_is =
        let index : j - 1 + 1 ≡ j = omega arith in
        let whole : drop (j - 1) g.arcs ≡ arc ∷ drop j g.arcs = drop_more g.arcs (j - 1) d (omega arith) ∙ (λ i. sym arc-is i ∷ drop (index i) g.arcs) in
        let after : (f : GraphArc) → Contains (drop j g.arcs) f → arc.tail ≤ f.tail = λ f m. omega (arith, ap (λ (x : GraphArc). x.tail) arc-is, after-drop (j - 1) j d f (omega arith) m) in
        let more = ways-more arc (drop j g.arcs) arc-there after (within-drop j) ways are in
        let value : relax (mark_weight g.pieces arc.mark) (way_at ways arc.tail) (way_at ways arc.head) ≡ new = (λ i. relax (mark_weight (sym ps_are i) arc.mark) (sym (here-is here at) i) (sym (behind-is behind at_behind) i)) ∙ sym new_is in
        subst (λ (arcs : List GraphArc). AreWaysAlong g t arcs (set ways (arc.tail - 1) new)) (sym whole)
        (subst (λ (o : Option (List ℕ)). AreWaysAlong g t (arc ∷ drop j g.arcs) (set ways (arc.tail - 1) o)) value more)

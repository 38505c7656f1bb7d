-- Paths of the image are no heavier than paths of the graph: at each node into which several are merged, a path is
-- exchanged for one as heavy.
use Rattle.std.proofs.Common.{◌≡◌, ℕ, ◌+◌, ◌≤◌, Option, Some, None, List, [], ◌∷◌, ◌++◌, length, get_or, refl, sym, ◌∙◌, subst, ⊎_elim, arith}
use Rattle.label_graph.specs.declared.parts.GraphArc.{GraphArc}
use Rattle.label_graph.specs.Graph.{IsPath, weight_in, mark_weight}
use Rattle.label_graph.proofs.Paths.{IsPath-append, weight-append}
use Rattle.joint_graph.specs.Joints.{JointValue, IsJoint, IsNode, IsType, target_at, cap_at}
use Rattle.joint_graph.specs.Ways.{IsWayOn, HaveSameRooms, HaveSameWeights}
use Rattle.joint_graph.specs.Merged.{node_into, Merges, IsImage, BecomesArc}
use Rattle.joint_graph.proofs.JointPaths.{tail-node, head-node, target-node, source-node}
use Rattle.joint_graph.proofs.ImageNodes.{same-cases, arc-from, target-into}

-- a path that is at least as heavy in dimension d
pub record IsAsHeavy {N : ℕ} (g : JointValue N) (a b d weight : ℕ) : Type 0 where
  pub path : List GraphArc
  pub leads : IsPath g.arcs a b path
  pub heavy : weight ≤ weight_in g.pieces d path

module _ (N : ℕ) (g : JointValue N) (is : IsJoint N g) (into : List ℕ) (image : JointValue N) (im : IsImage g into image) where
  mark-same : (x e : GraphArc) → BecomesArc into e x → (d : ℕ) → get_or (mark_weight image.pieces x.mark) d 0 ≡ get_or (mark_weight g.pieces e.mark) d 0
  mark-same x e b d = λ i. get_or (mark_weight (im.pieces i) (b.mark i)) d 0

  module _ (t : ℕ) (is_type : IsType g.caps t) (d : ℕ) (merges : Merges g into (HaveSameRooms g (length g.caps))) where
    heavy-on : (way : Option (List ℕ)) (v w : ℕ) (path : List GraphArc) → IsWayOn g t v way → IsWayOn g t w way → IsPath g.arcs v (target_at g t) path → IsAsHeavy g w (target_at g t) d (weight_in g.pieces d path)
    heavy-on None v w path one two h = absurd (one path h)
    heavy-on (Some weights) v w path one two h =
        let other = two.each d in
        record { path = other.path; leads = other.leads; heavy = omega (arith, other.weighs, (one.each d).most path h) }

    exchange-on : (v w : ℕ) (path : List GraphArc) → IsNode g v → IsNode g w → node_into into v ≡ node_into into w → IsPath g.arcs v (target_at g t) path → IsAsHeavy g w (target_at g t) d (weight_in g.pieces d path)
    exchange-on v w path one two same h =
        ⊎_elim
        (λ inner.
        let rooms = (merges v w inner.0 inner.1).0 same t is_type.0 is_type.1 in
        heavy-on rooms.0 v w path rooms.1 rooms.2 h)
        (λ equal. record { path = path; leads = subst (λ (a : ℕ). IsPath g.arcs a (target_at g t) path) equal h; heavy = omega arith })
        (same-cases N g into image im v w one two same)

    pub path-on : (path : List GraphArc) (w : ℕ) → IsPath image.arcs w (target_at image t) path → (v : ℕ) → IsNode g v → node_into into v ≡ w → IsAsHeavy g v (target_at g t) d (weight_in image.pieces d path)
    path-on [] w h v node at =
        exchange-on (target_at g t) v [] (target-node N g is t is_type) node (target-into N g into image im t is_type ∙ sym h ∙ sym at) refl
    path-on (x ∷ path) w h v node at =
        let from = arc-from N g into image im x h.0 in
        let e = from.0 in
        let b = from.2 in
        let rest = path-on path x.head h.2 e.head (head-node N g is e from.1) (sym b.head) in
        let leads : IsPath g.arcs e.tail (target_at g t) (e ∷ rest.path) = (from.1, refl, rest.leads) in
        let found = exchange-on e.tail v (e ∷ rest.path) (tail-node N g is e from.1) node (sym b.tail ∙ h.1 ∙ sym at) leads in
        record { path = found.path; leads = found.leads; heavy = omega (arith, found.heavy, rest.heavy, mark-same x e b d) }

  module _ (d : ℕ) (merges : Merges g into (HaveSameWeights g)) where
    exchange-to : (v w : ℕ) (path : List GraphArc) → IsNode g v → IsNode g w → node_into into v ≡ node_into into w → IsPath g.arcs 1 v path → IsAsHeavy g 1 w d (weight_in g.pieces d path)
    exchange-to v w path one two same h =
        ⊎_elim
        (λ inner.
        let weights = (merges v w inner.0 inner.1).0 same in
        let other = weights.2.each d in
        record { path = other.path; leads = other.leads; heavy = omega (arith, other.weighs, (weights.1.each d).most path h) })
        (λ equal. record { path = path; leads = subst (λ (b : ℕ). IsPath g.arcs 1 b path) equal h; heavy = omega arith })
        (same-cases N g into image im v w one two same)

    pub path-to : (path : List GraphArc) (a w : ℕ) → IsPath image.arcs a w path → (u : ℕ) (front : List GraphArc) → IsNode g u → node_into into u ≡ a → IsPath g.arcs 1 u front → (v : ℕ) → IsNode g v → node_into into v ≡ w → IsAsHeavy g 1 v d (weight_in g.pieces d front + weight_in image.pieces d path)
    path-to [] a w h u front node at leads v end ends =
        let found = exchange-to u v front node end (at ∙ h ∙ sym ends) leads in
        record { path = found.path; leads = found.leads; heavy = omega (arith, found.heavy) }
    path-to (x ∷ path) a w h u front node at leads v end ends =
        let from = arc-from N g into image im x h.0 in
        let e = from.0 in
        let b = from.2 in
        let tail = tail-node N g is e from.1 in
        let next = exchange-to u e.tail front node tail (at ∙ sym h.1 ∙ b.tail) leads in
        let on : IsPath g.arcs 1 e.head (next.path ++ e ∷ []) = IsPath-append g.arcs 1 e.tail e.head next.path (e ∷ []) next.leads (from.1, refl, refl) in
        let found = path-to path x.head w h.2 e.head (next.path ++ e ∷ []) (head-node N g is e from.1) (sym b.head) on v end ends in
        record { path = found.path; leads = found.leads; heavy = omega (arith, found.heavy, next.heavy, mark-same x e b d, weight-append g.pieces d next.path (e ∷ [])) }

  -- where the first node stays the first, the paths of the image fit as those of the graph do
  pub fits-on : Merges g into (HaveSameRooms g (length g.caps)) → (t : ℕ) → IsType g.caps t → (path : List GraphArc) → IsPath image.arcs 1 (target_at image t) path → (d : ℕ) → weight_in image.pieces d path ≤ get_or (cap_at g.caps t) d 0
  fits-on merges t is_type path h d =
      let found = path-on t is_type d merges path 1 h 1 (source-node N g is) im.merging.first in
      omega (arith, found.heavy, is.fits t is_type found.path found.leads d)

  pub fits-to : Merges g into (HaveSameWeights g) → (t : ℕ) → IsType g.caps t → (path : List GraphArc) → IsPath image.arcs 1 (target_at image t) path → (d : ℕ) → weight_in image.pieces d path ≤ get_or (cap_at g.caps t) d 0
  fits-to merges t is_type path h d =
      let found = path-to d merges path 1 (target_at image t) h 1 [] (source-node N g is) im.merging.first refl (target_at g t) (target-node N g is t is_type) (target-into N g into image im t is_type) in
      omega (arith, found.heavy, is.fits t is_type found.path found.leads d)

-- Paths of joint graphs: where they end, and what they weigh.
use Rattle.std.proofs.Common.{ℕ, ◌-◌, ◌^◌, ◌<◌, ◌≤◌, List, [], ◌∷◌, ◌++◌, ⊎_elim, arith}
use Rattle.std.specs.Prelude.{Contains}
use Rattle.std.proofs.lemmas.List.Elements.{All-contains}
use Rattle.label_graph.specs.declared.parts.GraphArc.{GraphArc}
use Rattle.label_graph.specs.Graph.{ArcBefore, IsPath, IsKnown, weight_in}
use Rattle.label_graph.proofs.Paths.{IsPath-append, weight-append}
use Rattle.joint_graph.specs.Joints.{JointValue, IsJoint, IsNode, IsInner, ClimbsIn, IsType, target_at}

-- arcs in order stand by their tails
pub before-tail : (e f : GraphArc) → ArcBefore e f → e.tail ≤ f.tail
before-tail e f h = ⊎_elim (λ lt. omega arith) (λ w. omega (arith, w.0)) h

module _ (N : ℕ) (g : JointValue N) (is : IsJoint N g) where
  pub climbs-at : (e : GraphArc) → Contains g.arcs e → ClimbsIn g e
  climbs-at e m = All-contains (λ (e : GraphArc). ClimbsIn g e) g.arcs e is.climbs m

  pub known-at : (e : GraphArc) → Contains g.arcs e → IsKnown g.pieces e.mark
  known-at e m = All-contains (λ (e : GraphArc). IsKnown g.pieces e.mark) g.arcs e is.known m

  pub tail-inner : (e : GraphArc) → Contains g.arcs e → IsInner g e.tail
  tail-inner e m = let up = climbs-at e m in (up.low, up.from_inner)

  pub tail-node : (e : GraphArc) → Contains g.arcs e → IsNode g e.tail
  tail-node e m = let up = climbs-at e m in (up.low, omega (arith, up.from_inner))

  pub head-node : (e : GraphArc) → Contains g.arcs e → IsNode g e.head
  head-node e m = let up = climbs-at e m in (omega (arith, up.low, up.up), up.high)

  pub target-node : (t : ℕ) → IsType g.caps t → IsNode g (target_at g t)
  target-node t is_type = (omega (arith, is_type.0), omega (arith, is_type.1))

  pub source-node : IsNode g 1
  source-node = (omega arith, omega (arith, is.source))

  pub path-end : (path : List GraphArc) (a b : ℕ) → IsNode g a → IsPath g.arcs a b path → IsNode g b
  path-end [] a b node h = (omega (arith, node.0, h), omega (arith, node.1, h))
  path-end (e ∷ path) a b node h = path-end path e.head b (head-node e h.0) h.2

  pub path-begin : (path : List GraphArc) (a b : ℕ) → IsNode g b → IsPath g.arcs a b path → IsNode g a
  path-begin [] a b node h = (omega (arith, node.0, h), omega (arith, node.1, h))
  path-begin (e ∷ path) a b node h = let tail = tail-node e h.0 in (omega (arith, tail.0, h.1), omega (arith, tail.1, h.1))

  -- a path goes up
  pub path-climbs : (path : List GraphArc) (a b : ℕ) → IsPath g.arcs a b path → a ≤ b
  path-climbs [] a b h = omega (arith, h)
  path-climbs (e ∷ path) a b h = let up = climbs-at e h.0 in omega (arith, up.up, h.1, path-climbs path e.head b h.2)

  -- a path weighs less than a number can have
  pub path-range : (path : List GraphArc) (a b : ℕ) → IsNode g a → IsPath g.arcs a b path → (d : ℕ) → weight_in g.pieces d path < 2 ^ 32
  path-range path a b node h d =
      let front = is.comes a node in
      let back = is.goes b (path-end path a b node h) in
      let t = back.0 in
      let rest = back.2 in
      let tail : IsPath g.arcs a (target_at g t) (path ++ rest.0) = IsPath-append g.arcs a b (target_at g t) path rest.0 h rest.1 in
      let whole : IsPath g.arcs 1 (target_at g t) (front.0 ++ (path ++ rest.0)) = IsPath-append g.arcs 1 a (target_at g t) front.0 (path ++ rest.0) front.1 tail in
      let fits = is.fits t back.1 (front.0 ++ (path ++ rest.0)) whole d in
      let range = is.caps_ranged (t - 1) [] (omega (arith, back.1.0, back.1.1)) d in
      omega (arith, fits, range, weight-append g.pieces d front.0 (path ++ rest.0), weight-append g.pieces d path rest.0)

-- The nodes and arcs of the image of a joint graph, and those that become them.
use Rattle.std.proofs.Common.{◌≡◌, ℕ, ◌-◌, ◌≤◌, ◌⊎◌, List, length, ap, inl, inr, ⊎_elim, arith}
use Rattle.std.specs.Prelude.{Contains}
use Rattle.std.proofs.lemmas.Bool.{cases_lt}
use Rattle.label_graph.specs.declared.parts.GraphArc.{GraphArc}
use Rattle.joint_graph.specs.Joints.{JointValue, IsNode, IsInner, IsType, target_at}
use Rattle.joint_graph.specs.Merged.{node_into, BecomesArc, IsImage}

module _ (N : ℕ) (g : JointValue N) (into : List ℕ) (image : JointValue N) (im : IsImage g into image) where
  pub types-same : length image.caps ≡ length g.caps
  types-same = ap length im.caps

  -- a node that is no target, or the target of a type
  pub node-cases : (v : ℕ) → IsNode g v → IsInner g v ⊎ ((t : ℕ) × IsType g.caps t × (v ≡ target_at g t))
  node-cases v node =
      ⊎_elim
      (λ lt. inr (v - g.inner, (omega arith, omega (arith, node.1)), omega arith))
      (λ ge. inl (node.0, omega arith))
      (cases_lt g.inner v)

  pub target-into : (t : ℕ) → IsType g.caps t → node_into into (target_at g t) ≡ target_at image t
  target-into t is_type = im.merging.targets t is_type

  pub into-node : (v : ℕ) → IsNode g v → IsNode image (node_into into v)
  into-node v node =
      ⊎_elim
      (λ inner. (im.merging.low v inner, omega (arith, im.merging.high v inner)))
      (λ w. (omega (arith, w.1.0, target-into w.0 w.1, ap (node_into into) w.2), omega (arith, types-same, w.1.1, target-into w.0 w.1, ap (node_into into) w.2)))
      (node-cases v node)

  -- nodes that are merged are both no targets, or the same
  pub same-cases : (v w : ℕ) → IsNode g v → IsNode g w → node_into into v ≡ node_into into w → (IsInner g v × IsInner g w) ⊎ (v ≡ w)
  same-cases v w one two same =
      ⊎_elim
      (λ a. ⊎_elim
      (λ b. inl (a, b))
      (λ b. absurd (omega (arith, same, im.merging.high v a, target-into b.0 b.1, ap (node_into into) b.2, b.1.0)))
      (node-cases w two))
      (λ a. ⊎_elim
      (λ b. absurd (omega (arith, same, im.merging.high w b, target-into a.0 a.1, ap (node_into into) a.2, a.1.0)))
      (λ b. inr (omega (arith, same, target-into a.0 a.1, ap (node_into into) a.2, target-into b.0 b.1, ap (node_into into) b.2, a.2, b.2)))
      (node-cases w two))
      (node-cases v one)

  -- each node of the image is one into which a node is merged
  pub comes-from : (w : ℕ) → IsNode image w → (v : ℕ) × IsNode g v × (node_into into v ≡ w)
  comes-from w node =
      ⊎_elim
      (λ lt.
      let is_type : IsType g.caps (w - image.inner) = (omega arith, omega (arith, node.1, types-same)) in
      (target_at g (w - image.inner), (omega (arith, is_type.0), omega (arith, is_type.1)), omega (arith, target-into (w - image.inner) is_type)))
      (λ ge.
      let found = im.merging.onto w node.0 (omega arith) in
      (found.0, (found.1.0, omega (arith, found.1.1)), found.2))
      (cases_lt image.inner w)

  pub arc-from : (x : GraphArc) → Contains image.arcs x → (e : GraphArc) × Contains g.arcs e × BecomesArc into e x
  arc-from x m = (im.arcs x).0 m

  -- what becomes a node that is no target is none
  pub inner-from : (v : ℕ) → IsNode g v → node_into into v ≤ image.inner → IsInner g v
  inner-from v node low =
      ⊎_elim
      (λ inner. inner)
      (λ w. absurd (omega (arith, w.1.0, low, target-into w.0 w.1, ap (node_into into) w.2)))
      (node-cases v node)

  pub into-inner : (v : ℕ) → IsInner g v → IsInner image (node_into into v)
  into-inner v inner = (im.merging.low v inner, im.merging.high v inner)

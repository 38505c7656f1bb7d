-- There is but one joint final graph, whatever the numbers of the nodes of the main graph.
use Rattle.std.proofs.Common.{◌≡◌, ℕ, ◌+◌, ◌<◌, List, length, refl, sym, ap, ◌∙◌, subst, ⊎_elim, arith}
use Rattle.std.specs.Prelude.{Contains}
use Rattle.label_graph.specs.declared.parts.GraphArc.{GraphArc}
use Rattle.label_graph.specs.declared.parts.Piece.{Piece}
use Rattle.label_graph.specs.Graph.{ArcBefore}
use Rattle.label_graph.proofs.InOrder.{before-compare}
use Rattle.label_graph.proofs.OneImage.{same-list, arc-one_way}
use Rattle.joint_graph.specs.Joints.{JointValue, IsJoint, IsNode, IsInner, node_count}
use Rattle.joint_graph.specs.Ways.{IsWayTo, AreHeaviest}
use Rattle.joint_graph.specs.Merged.{node_into, IsJointFinal}
use Rattle.joint_graph.specs.JointLaws.{IsRenumbered, JointFinalsAreOne}
use Rattle.joint_graph.proofs.JointPaths.{climbs-at, tail-node, head-node}
use Rattle.joint_graph.proofs.ClassLemmas.{inner-node}
use Rattle.joint_graph.proofs.ImageNodes.{node-cases, into-inner, same-cases}
use Rattle.joint_graph.proofs.Tables.{AreAll, numbers-one, counts-one}
use Rattle.joint_graph.proofs.LikePaths.{ArcsGo, heaviest-like}
use Rattle.joint_graph.proofs.Renumbered.{arcs-no-more, nodes-no-more}
use Rattle.joint_graph.proofs.MainsOne.{mains_are_alike}

module _ (N : ℕ) (main other : JointValue N) (is : IsJoint N main) (r : IsRenumbered main other) where
  -- a node and its other number
  abbrev Like : ℕ → ℕ → Type 0
  Like v x = IsNode main v × (node_into r.into v ≡ x)

  nodes-apart : (v w : ℕ) → IsNode main v → IsNode main w → node_into r.into v ≡ node_into r.into w → v ≡ w
  nodes-apart v w a b same =
      ⊎_elim (λ inner. (r.apart v w inner.0 inner.1).0 same) (λ equal. equal) (same-cases N main r.into other r.image v w a b same)

  on : ArcsGo Like main.arcs other.arcs
  on e a m like =
      let tail = tail-node N main is e m in
      let head = head-node N main is e m in
      let x : GraphArc = record { tail = node_into r.into e.tail; head = node_into r.into e.head; mark = e.mark } in
      let there : Contains other.arcs x = (r.image.arcs x).1 (
        e,
        m,
        record {
          tail = refl;
          head = refl;
          mark = refl;
          kept = λ loop. omega (arith, (climbs-at N main is e m).up, nodes-apart e.tail e.head tail head loop.1);
        },
      ) in
      (x, there, like.1, refl, (head, refl))

  back : ArcsGo (λ (x v : ℕ). Like v x) other.arcs main.arcs
  back x v m like =
      let from = (r.image.arcs x).0 m in
      let e = from.0 in
      let b = from.2 in
      (e, from.1, nodes-apart e.tail v (tail-node N main is e from.1) like.0 (sym b.tail ∙ sym like.1), sym b.mark, (head-node N main is e from.1, sym b.head))

  one : (v x y : ℕ) → Like v x → Like v y → x ≡ y
  one v x y a b = sym a.1 ∙ b.1

  only : (v w x : ℕ) → Like v x → Like w x → v ≡ w
  only v w x a b = nodes-apart v w a.0 b.0 (a.1 ∙ sym b.1)

  first : Like 1 1
  first = ((omega arith, omega (arith, is.source)), r.image.merging.first)

  way-there : (v : ℕ) (weights : List ℕ) → IsNode main v → IsWayTo main v weights → IsWayTo other (node_into r.into v) weights
  way-there v weights node way =
      subst (λ (ps : List (Piece N)). AreHeaviest ps other.arcs 1 (node_into r.into v) weights) (sym r.image.pieces)
      (heaviest-like main.pieces Like main.arcs other.arcs on back one only 1 v 1 (node_into r.into v) weights first (node, refl) way)

  module _ (final last : JointValue N) (left : IsJointFinal main final) (right : IsJointFinal other last) where
    abbrev f : ℕ → ℕ
    f v = node_into left.into v

    abbrev h : ℕ → ℕ
    h v = node_into right.into (node_into r.into v)

    -- the weight of a node
    has-way : (v : ℕ) → IsInner main v → (weights : List ℕ) × IsWayTo main v weights
    has-way v inner = let same = (left.merges v v inner inner).0 refl in (same.0, same.1)

    new-inner : (v : ℕ) → IsInner main v → IsInner other (node_into r.into v)
    new-inner v inner = into-inner N main r.into other r.image v inner

    rises : (v w : ℕ) → IsInner main v → IsInner main w → f v < f w → h v < h w
    rises v w a b less =
        let p = has-way v a in
        let q = has-way w b in
        ⊎_elim
        (λ before. right.sorted (node_into r.into v) (node_into r.into w) p.0 q.0 (new-inner v a) (new-inner w b) (way-there v p.0 (inner-node N main is v a) p.1) (way-there w q.0 (inner-node N main is w b) q.1) before)
        (λ other_cases. ⊎_elim
        (λ same. absurd (omega (arith, (left.merges v w a b).1 (q.0, subst (λ (l : List ℕ). IsWayTo main v l) same p.1, q.1))))
        (λ after. absurd (omega (arith, left.sorted w v q.0 p.0 b a q.1 p.1 after)))
        other_cases)
        (before-compare p.0 q.0)

    falls : (v w : ℕ) → IsInner main v → IsInner main w → h v < h w → f v < f w
    falls v w a b less =
        let p = has-way v a in
        let q = has-way w b in
        let p_there = way-there v p.0 (inner-node N main is v a) p.1 in
        let q_there = way-there w q.0 (inner-node N main is w b) q.1 in
        ⊎_elim
        (λ before. left.sorted v w p.0 q.0 a b p.1 q.1 before)
        (λ other_cases. ⊎_elim
        (λ same. absurd (omega (arith, (right.merges (node_into r.into v) (node_into r.into w) (new-inner v a) (new-inner w b)).1 (q.0, subst (λ (l : List ℕ). IsWayTo other (node_into r.into v) l) same p_there, q_there))))
        (λ after. absurd (omega (arith, right.sorted (node_into r.into w) (node_into r.into v) q.0 p.0 (new-inner w b) (new-inner v a) q_there p_there after)))
        other_cases)
        (before-compare p.0 q.0)

    all-left : AreAll (IsInner main) f final.inner
    all-left = record { low = left.image.merging.low; high = left.image.merging.high; onto = left.image.merging.onto }

    all-right : AreAll (IsInner main) h last.inner
    all-right =
        record {
          low = λ v inner. right.image.merging.low (node_into r.into v) (new-inner v inner);
          high = λ v inner. right.image.merging.high (node_into r.into v) (new-inner v inner);
          onto = λ w low high.
              let x = right.image.merging.onto w low high in
              let v = r.image.merging.onto x.0 x.1.0 x.1.1 in
              (v.0, v.1, ap (node_into right.into) v.2 ∙ x.2);
        }

    inner-same : final.inner ≡ last.inner
    inner-same = counts-one (IsInner main) f h final.inner last.inner all-left all-right rises falls

    types-there : length other.caps ≡ length main.caps
    types-there = ap length r.image.caps

    node-same : (v : ℕ) → IsNode main v → f v ≡ h v
    node-same v node =
        ⊎_elim
        (λ inner. numbers-one (IsInner main) f h final.inner last.inner all-left all-right rises falls v inner)
        (λ t.
        let here = left.image.merging.targets t.0 t.1 in
        let there = r.image.merging.targets t.0 t.1 in
        let end = right.image.merging.targets t.0 (t.1.0, omega (arith, t.1.1, types-there)) in
        ap (node_into left.into) t.2 ∙ here ∙ ap (λ (n : ℕ). n + t.0) inner-same ∙ sym end ∙ ap (node_into right.into) (sym there) ∙ ap h (sym t.2))
        (node-cases N main r.into other r.image v node)

    arc-there : (x : GraphArc) → Contains final.arcs x → Contains last.arcs x
    arc-there x m =
        let from = (left.image.arcs x).0 m in
        let e = from.0 in
        let b = from.2 in
        let tail = tail-node N main is e from.1 in
        let head = head-node N main is e from.1 in
        let y = on e (node_into r.into e.tail) from.1 (tail, refl) in
        (right.image.arcs x).1 (
          y.0,
          y.1,
          record {
            tail = b.tail ∙ node-same e.tail tail ∙ ap (node_into right.into) (sym y.2);
            head = b.head ∙ node-same e.head head ∙ ap (node_into right.into) y.4.1;
            mark = b.mark ∙ sym y.3;
            kept = b.kept;
          },
        )

    arc-back : (x : GraphArc) → Contains last.arcs x → Contains final.arcs x
    arc-back x m =
        let from = (right.image.arcs x).0 m in
        let y = from.0 in
        let b = from.2 in
        let under = (r.image.arcs y).0 from.1 in
        let e = under.0 in
        let a = under.2 in
        (left.image.arcs x).1 (
          e,
          under.1,
          record {
            tail = b.tail ∙ ap (node_into right.into) a.tail ∙ sym (node-same e.tail (tail-node N main is e under.1));
            head = b.head ∙ ap (node_into right.into) a.head ∙ sym (node-same e.head (head-node N main is e under.1));
            mark = b.mark ∙ a.mark;
            kept = b.kept;
          },
        )

    pub final-same : final ≡ last
    final-same =
        let pieces : final.pieces ≡ last.pieces = left.image.pieces ∙ sym r.image.pieces ∙ sym right.image.pieces in
        let caps : final.caps ≡ last.caps = left.image.caps ∙ sym r.image.caps ∙ sym right.image.caps in
        let arcs : final.arcs ≡ last.arcs = same-list ArcBefore arc-one_way final.arcs last.arcs left.image.ordered right.image.ordered arc-there arc-back in
        λ i. record { pieces = pieces i; caps = caps i; inner = inner-same i; arcs = arcs i }

pub finals_are_one : JointFinalsAreOne
finals_are_one N pieces caps final other size more one two =
    let a = one.graphs in
    let b = two.graphs in
    let there = mains_are_alike N pieces caps one.levels two.levels one.main two.main a.levels_are b.levels_are a.main_is b.main_is in
    let back = mains_are_alike N pieces caps two.levels one.levels two.main one.main b.levels_are a.levels_are b.main_is a.main_is in
    let same : final ≡ other = final-same N one.main two.main a.main_keep there final other a.final_is b.final_is in
    let types : length two.main.caps ≡ length one.main.caps = ap length there.image.caps in
    let main_nodes : size.main_nodes ≡ more.main_nodes = omega (arith, one.main_nodes, two.main_nodes, types, nodes-no-more one.main two.main there.into there.image, nodes-no-more two.main one.main back.into back.image) in
    let main_arcs : size.main_arcs ≡ more.main_arcs = omega (arith, one.main_arcs, two.main_arcs, arcs-no-more one.main two.main there.into there.image, arcs-no-more two.main one.main back.into back.image) in
    let final_nodes : size.final_nodes ≡ more.final_nodes = one.final_nodes ∙ ap (λ (g : JointValue N). node_count g) same ∙ sym two.final_nodes in
    let final_arcs : size.final_arcs ≡ more.final_arcs = one.final_arcs ∙ ap (λ (g : JointValue N). length g.arcs) same ∙ sym two.final_arcs in
    (same, λ i. record { main_nodes = main_nodes i; main_arcs = main_arcs i; final_nodes = final_nodes i; final_arcs = final_arcs i })

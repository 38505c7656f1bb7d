-- Two images of a graph in which the same nodes become one are the same but for the numbers of nodes.
use Rattle.std.proofs.Common.{◌≡◌, ℕ, ◌≤◌, List, length, refl, sym, ap, ◌∙◌, subst, ⊎_elim, arith}
use Rattle.std.specs.Prelude.{Contains}
use Rattle.label_graph.specs.declared.parts.GraphArc.{GraphArc}
use Rattle.label_graph.specs.Graph.{ArcBefore}
use Rattle.label_graph.proofs.Fewer.{no_longer}
use Rattle.label_graph.proofs.OneImage.{arc-one_way}
use Rattle.joint_graph.specs.Joints.{JointValue, IsNode, IsInner, IsType, node_count, target_at}
use Rattle.joint_graph.specs.Merged.{node_into, BecomesArc, IsMerging, Merges, IsImage}
use Rattle.joint_graph.specs.JointLaws.{IsRenumbered}
use Rattle.joint_graph.proofs.ImageNodes.{types-same, into-node, into-inner, inner-from, same-cases, comes-from}
use Rattle.joint_graph.proofs.Tables.{IsTable, table, no-more}

-- an image has no more arcs and nodes than the graph
module _ {N : ℕ} (g image : JointValue N) (into : List ℕ) (is : IsImage g into image) where
  becomes-one : (e x z : GraphArc) → BecomesArc into e x → BecomesArc into e z → x ≡ z
  becomes-one e x z one two =
      let tails : x.tail ≡ z.tail = one.tail ∙ sym two.tail in
      let heads : x.head ≡ z.head = one.head ∙ sym two.head in
      let marks = one.mark ∙ sym two.mark in
      λ i. record { tail = tails i; head = heads i; mark = marks i }

  pub arcs-no-more : length image.arcs ≤ length g.arcs
  arcs-no-more = no_longer ArcBefore (λ x h. arc-one_way x x h h) (BecomesArc into) becomes-one image.arcs g.arcs is.ordered (λ x m. (is.arcs x).0 m)

  pub nodes-no-more : image.inner ≤ g.inner
  nodes-no-more = no-more into g.inner image.inner (λ w low high. let v = is.merging.onto w low high in (v.0, v.1.0, v.1.1, v.2))

-- nodes that become one in an image become one by other numbers too, where this is so of those that are no targets
module _ (N : ℕ) (g : JointValue N) (one two : List ℕ) (image : JointValue N) (im : IsImage g one image) (there : (v w : ℕ) → IsInner g v → IsInner g w → node_into one v ≡ node_into one w → node_into two v ≡ node_into two w) where
  pub nodes-alike : (v w : ℕ) → IsNode g v → IsNode g w → node_into one v ≡ node_into one w → node_into two v ≡ node_into two w
  nodes-alike v w a b same = ⊎_elim (λ inner. there v w inner.0 inner.1 same) (λ equal. ap (node_into two) equal) (same-cases N g one image im v w a b same)

-- a node becomes this node of the one image and that of the other
record Goes {N : ℕ} (g : JointValue N) (one two : List ℕ) (w x : ℕ) : Type 0 where
  from : ℕ
  node : IsNode g from
  here : node_into one from ≡ w
  there : node_into two from ≡ x

module _ (N : ℕ) (g : JointValue N) (first : IsNode g 1) (ends : (e : GraphArc) → Contains g.arcs e → IsNode g e.tail × IsNode g e.head) (one two : List ℕ) (main other : JointValue N) (left : IsImage g one main) (right : IsImage g two other) (there : (v w : ℕ) → IsInner g v → IsInner g w → node_into one v ≡ node_into one w → node_into two v ≡ node_into two w) (back : (v w : ℕ) → IsInner g v → IsInner g w → node_into two v ≡ node_into two w → node_into one v ≡ node_into one w) where
  all : IsTable (Goes g one two) (node_count main)
  all = table (Goes g one two) (node_count main) (λ w low high. let v = comes-from N g one main left w (low, high) in (node_into two v.0, record { from = v.0; node = v.1; here = v.2; there = refl }))

  abbrev into : List ℕ
  into = all.list

  through : (v : ℕ) → IsNode g v → node_into into (node_into one v) ≡ node_into two v
  through v node =
      let image = into-node N g one main left v node in
      let goes = all.each (node_into one v) image.0 image.1 in
      sym goes.there ∙ nodes-alike N g one two main left there goes.from v goes.node node goes.here

  new-inner : (w : ℕ) → IsInner main w → IsInner other (node_into into w)
  new-inner w inner =
      let goes = all.each w inner.0 (omega (arith, inner.1)) in
      let from = inner-from N g one main left goes.from goes.node (omega (arith, goes.here, inner.1)) in
      subst (λ (x : ℕ). IsInner other x) goes.there (into-inner N g two other right goes.from from)

  merging : IsMerging main into other.inner
  merging =
      record {
        count = all.sized;
        first = ap (node_into into) (sym left.merging.first) ∙ through 1 first ∙ right.merging.first;
        low = λ w inner. (new-inner w inner).0;
        high = λ w inner. (new-inner w inner).1;
        targets = λ t is_type.
            let here : IsType g.caps t = (is_type.0, omega (arith, is_type.1, types-same N g one main left)) in
            let node : IsNode g (target_at g t) = (omega (arith, here.0), omega (arith, here.1)) in
            ap (node_into into) (sym (left.merging.targets t here)) ∙ through (target_at g t) node ∙ right.merging.targets t here;
        onto = λ w low high.
            let v = right.merging.onto w low high in
            (node_into one v.0, into-inner N g one main left v.0 v.1, through v.0 (v.1.0, omega (arith, v.1.1)) ∙ v.2);
      }

  apart : Merges main into (λ (v w : ℕ). v ≡ w)
  apart v w a b = (
    λ same.
        let p = all.each v a.0 (omega (arith, a.1)) in
        let q = all.each w b.0 (omega (arith, b.1)) in
        sym p.here ∙ nodes-alike N g two one other right back p.from q.from p.node q.node (p.there ∙ same ∙ sym q.there) ∙ q.here,
    λ equal. ap (node_into into) equal,
  )

  arc-there : (x : GraphArc) → Contains other.arcs x → (e : GraphArc) × Contains main.arcs e × BecomesArc into e x
  arc-there x m =
      let from = (right.arcs x).0 m in
      let e = from.0 in
      let b = from.2 in
      let nodes = ends e from.1 in
      let y : GraphArc = record { tail = node_into one e.tail; head = node_into one e.head; mark = e.mark } in
      let here : Contains main.arcs y = (left.arcs y).1 (
        e,
        from.1,
        record {
          tail = refl;
          head = refl;
          mark = refl;
          kept = λ loop. b.kept (b.mark ∙ loop.0, b.tail ∙ nodes-alike N g one two main left there e.tail e.head nodes.0 nodes.1 loop.1 ∙ sym b.head);
        },
      ) in
      (y, here, record { tail = b.tail ∙ sym (through e.tail nodes.0); head = b.head ∙ sym (through e.head nodes.1); mark = b.mark; kept = b.kept })

  arc-back : (x : GraphArc) → ((e : GraphArc) × Contains main.arcs e × BecomesArc into e x) → Contains other.arcs x
  arc-back x h =
      let from = (left.arcs h.0).0 h.1 in
      let e = from.0 in
      let a = from.2 in
      let b = h.2 in
      let nodes = ends e from.1 in
      (right.arcs x).1 (e, from.1, record { tail = b.tail ∙ ap (node_into into) a.tail ∙ through e.tail nodes.0; head = b.head ∙ ap (node_into into) a.head ∙ through e.head nodes.1; mark = b.mark ∙ a.mark; kept = b.kept })

  pub renumbered : IsRenumbered main other
  renumbered =
      record {
        into = into;
        apart = apart;
        image = record {
          pieces = right.pieces ∙ sym left.pieces;
          caps = right.caps ∙ sym left.caps;
          merging = merging;
          ordered = right.ordered;
          arcs = λ x. (arc-there x, arc-back x);
        };
      }

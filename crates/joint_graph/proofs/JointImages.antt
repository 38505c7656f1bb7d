-- The image of a joint graph: its paths, and that it is a joint graph.
use Rattle.std.proofs.Common.{◌≡◌, ℕ, ◌-◌, ◌≤◌, ◌⊎◌, List, [], ◌∷◌, length, get_or, refl, sym, ap, ◌∙◌, subst, inl, inr, ⊎_elim, arith}
use Rattle.std.specs.Prelude.{Contains, All, slice_index}
use Rattle.std.proofs.lemmas.Bool.{cases_lt, cases_eq}
use Rattle.std.proofs.lemmas.List.Elements.{Contains-get_or}
use Rattle.weight_vec.specs.Weight.{IsInRange, IsZero}
use Rattle.label_graph.specs.declared.parts.Piece.{Piece}
use Rattle.label_graph.specs.declared.parts.Mark.{Mark}
use Rattle.label_graph.specs.declared.parts.Mark.TheVariants.{Loss, Piece as Carries}
use Rattle.label_graph.specs.declared.parts.GraphArc.{GraphArc}
use Rattle.label_graph.specs.Graph.{IsPath, IsKnown, weight_in, mark_copies}
use Rattle.label_graph.specs.ImageLaws.{CarriesAs}
use Rattle.joint_graph.specs.Joints.{JointValue, IsJoint, IsNode, IsInner, ClimbsIn, IsType, IsReachable, HasWayOn, target_at, cap_at}
use Rattle.joint_graph.specs.Merged.{node_into, IsImage}
use Rattle.joint_graph.proofs.JointPaths.{known-at, tail-inner, head-node}
use Rattle.joint_graph.proofs.ImageNodes.{types-same, target-into, into-node, comes-from, arc-from}

-- a loss arc from a node to itself, or another arc
abbrev pub LoopCases : Mark → ℕ → ℕ → Type 0
LoopCases m x y = ((m ≡ Loss) × (x ≡ y)) ⊎ (((m ≡ Loss) × (x ≡ y)) → ⊥)

pub loop-cases : (m : Mark) (x y : ℕ) → LoopCases m x y
loop-cases Loss x y = ⊎_elim (λ same. inl (refl, same)) (λ ne. inr (λ h. ne h.1)) (cases_eq x y)
loop-cases (Carries p) x y = inr (λ h. let bad : Carries p ≡ Loss = h.0 in cc)

module _ (N : ℕ) (g : JointValue N) (is : IsJoint N g) (into : List ℕ) (image : JointValue N) (im : IsImage g into image) where
  -- a path between the nodes into which the ends are merged, without the arcs that are left out
  pub walk : (path : List GraphArc) (a b : ℕ) → IsPath g.arcs a b path → (like : List GraphArc) × IsPath image.arcs (node_into into a) (node_into into b) like × CarriesAs like path
  walk [] a b h = ([], ap (node_into into) h, λ p. refl)
  walk (e ∷ path) a b h =
      let rest = walk path e.head b h.2 in
      let start : node_into into e.tail ≡ node_into into a = ap (node_into into) h.1 in
      ⊎_elim
      (λ loop. (
        rest.0,
        subst (λ (v : ℕ). IsPath image.arcs v (node_into into b) rest.0) (sym loop.1 ∙ start) rest.1,
        λ p. omega (arith, rest.2 p, ap (mark_copies p) loop.0),
      ))
      (λ other.
      let x : GraphArc = record { tail = node_into into e.tail; head = node_into into e.head; mark = e.mark } in
      let there : Contains image.arcs x = (im.arcs x).1 (e, h.0, record { tail = refl; head = refl; mark = refl; kept = λ l. other (l.0, l.1) }) in (
        x ∷ rest.0,
        (there, start, rest.1),
        λ p. omega (arith, rest.2 p),
      ))
      (loop-cases e.mark (node_into into e.tail) (node_into into e.head))

  module _ (rises : (e : GraphArc) → Contains g.arcs e → (node_into into e.tail ≤ node_into into e.head) × ((node_into into e.tail ≡ node_into into e.head) → e.mark ≡ Loss)) where
    image-climbs : (x : GraphArc) → Contains image.arcs x → ClimbsIn image x
    image-climbs x m =
        let from = arc-from N g into image im x m in
        let e = from.0 in
        let b = from.2 in
        let tail = tail-inner N g is e from.1 in
        let head = into-node N g into image im e.head (head-node N g is e from.1) in
        let up = rises e from.1 in
        record {
          low = omega (arith, b.tail, im.merging.low e.tail tail);
          from_inner = omega (arith, b.tail, im.merging.high e.tail tail);
          up = ⊎_elim
              (λ lt. omega (arith, b.tail, b.head))
              (λ ge.
              let same : node_into into e.tail ≡ node_into into e.head = omega (arith, up.0) in
              absurd (b.kept (b.mark ∙ up.1 same, b.tail ∙ same ∙ sym b.head)))
              (cases_lt (node_into into e.tail) (node_into into e.head));
          high = omega (arith, b.head, head.1);
        }

    image-known : (x : GraphArc) → Contains image.arcs x → IsKnown image.pieces x.mark
    image-known x m =
        let from = arc-from N g into image im x m in
        subst (λ (ps : List (Piece N)). IsKnown ps x.mark) (sym im.pieces) (subst (λ (k : Mark). IsKnown g.pieces k) (sym from.2.mark) (known-at N g is from.0 from.1))

    image-comes : (w : ℕ) → IsNode image w → IsReachable image w
    image-comes w node =
        let v = comes-from N g into image im w node in
        let way = is.comes v.0 v.1 in
        let like = walk way.0 1 v.0 way.1 in
        (like.0, subst (λ (b : ℕ). IsPath image.arcs 1 b like.0) v.2 (subst (λ (a : ℕ). IsPath image.arcs a (node_into into v.0) like.0) im.merging.first like.1))

    image-goes : (w : ℕ) → IsNode image w → HasWayOn image w
    image-goes w node =
        let v = comes-from N g into image im w node in
        let way = is.goes v.0 v.1 in
        let like = walk way.2.0 v.0 (target_at g way.0) way.2.1 in (
          way.0,
          (way.1.0, omega (arith, way.1.1, (types-same N g into image im))),
          (like.0, subst (λ (a : ℕ). IsPath image.arcs a (target_at image way.0) like.0) v.2 (subst (λ (b : ℕ). IsPath image.arcs (node_into into v.0) b like.0) (target-into N g into image im way.0 way.1) like.1)),
        )

    pub image-is-joint : image.inner ≤ g.inner → ((t : ℕ) → IsType g.caps t → (path : List GraphArc) → IsPath image.arcs 1 (target_at image t) path → (d : ℕ) → weight_in image.pieces d path ≤ slice_index (cap_at g.caps t) d) → IsJoint N image
    image-is-joint fewer fits =
        let inner : IsInner g 1 = (omega arith, is.source) in
        record {
          small = is.small;
          source = omega (arith, im.merging.low 1 inner, im.merging.high 1 inner);
          types = omega (arith, (types-same N g into image im), is.types);
          few_types = omega (arith, (types-same N g into image im), is.few_types);
          few_nodes = omega (arith, fewer, is.few_nodes);
          caps_ranged = subst (λ (cs : List (List ℕ)). All (λ (l : List ℕ). IsInRange l) cs) (sym im.caps) is.caps_ranged;
          pieces_sized = subst (λ (ps : List (Piece N)). All (λ (q : Piece N). length q.weight ≡ N) ps) (sym im.pieces) is.pieces_sized;
          heavy = subst (λ (ps : List (Piece N)). All (λ (q : Piece N). IsZero q.weight → ⊥) ps) (sym im.pieces) is.heavy;
          ordered = im.ordered;
          climbs = λ k d lt. image-climbs (get_or image.arcs k d) (Contains-get_or image.arcs k d lt);
          known = λ k d lt. image-known (get_or image.arcs k d) (Contains-get_or image.arcs k d lt);
          comes = image-comes;
          goes = image-goes;
          fits = λ t is_type path leads d. subst (λ (cs : List (List ℕ)). weight_in image.pieces d path ≤ get_or (get_or cs (t - 1) []) d 0) (sym im.caps) (fits t (subst (λ (cs : List (List ℕ)). IsType cs t) im.caps is_type) path leads d);
        }

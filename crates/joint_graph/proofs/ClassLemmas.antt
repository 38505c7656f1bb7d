-- Classes of nodes by rooms, one type after the other.
use Rattle.std.proofs.Common.{◌≡◌, ℕ, ◌+◌, ◌-◌, ◌<◌, ◌≤◌, ◌⊎◌, Ordering, Option, Some, None, List, [], ◌∷◌, ◌++◌, length, get_or, replicate, refl, sym, ap, ◌∙◌, subst, inl, inr, ⊎_elim, arith}
use Rattle.std.specs.Cmp.{IsTotalOrder}
use Rattle.std.specs.declared.cmp.Ordering.TheVariants.{Less}
use Rattle.std.proofs.lemmas.Bool.{cases_lt}
use Rattle.std.proofs.lemmas.List.{get_or-replicate, length-replicate, get_or_append_left}
use Rattle.std.proofs.Math.Seq.{get_or-append_seam}
use Rattle.label_graph.specs.declared.parts.GraphArc.{GraphArc}
use Rattle.label_graph.specs.Graph.{IsPath, mark_weight}
use Rattle.joint_graph.specs.declared.mains.Key.{Key}
use Rattle.joint_graph.specs.Joints.{JointValue, IsJoint, IsNode, IsInner, target_at}
use Rattle.joint_graph.specs.Ways.{IsWay, IsWayOn, HaveSameRooms, AreHeaviest}
use Rattle.joint_graph.specs.inner.Ranks.{AreRanks}
use Rattle.joint_graph.specs.inner.Passes.{AreWaysOn, way_at}
use Rattle.joint_graph.specs.inner.Classes.{class_at, IsUnder, LiesUnder, AreClasses, RiseAlong, AreKeys, key_of, WayBefore}
use Rattle.joint_graph.proofs.JointPaths.{tail-inner, known-at}
use Rattle.joint_graph.proofs.RankLemmas.{rank-same, rank-equal, rank-less, rank-onto}
use Rattle.joint_graph.proofs.Weighing.{way-one, way-under, way-carries, under-cases, loss-only}

module _ (N : ℕ) (g : JointValue N) (is : IsJoint N g) where
  pub inner-node : (v : ℕ) → IsInner g v → IsNode g v
  inner-node v inner = (inner.0, omega (arith, inner.1))

  pub classes-start : AreClasses g 0 (replicate g.inner 1) 1
  classes-start =
      let one : (v : ℕ) → IsInner g v → class_at (replicate g.inner 1) v ≡ 1 = λ v inner. get_or-replicate g.inner (v - 1) 1 0 (omega (arith, inner.0, inner.1)) in
      record {
        numbered = record {
          sized = length-replicate g.inner 1;
          few = is.source;
          low = λ v inner. omega (arith, one v inner);
          high = λ v inner. omega (arith, one v inner);
          onto = λ w low high. (1, (omega arith, is.source), omega (arith, one 1 (omega arith, is.source)));
        };
        same = λ v w a b. (λ e t low high. absurd (omega arith), λ rooms. one v a ∙ sym (one w b));
        rises = λ v w a b under. omega (arith, one v a, one w b);
      }

  module _ (n : ℕ) (numbers : List ℕ) (count : ℕ) (classes : AreClasses g n numbers count) (ways : List (Option (List ℕ))) (on : AreWaysOn g (n + 1) ways) (keys : List (Key N)) (are_keys : AreKeys numbers ways keys) where
    sized : length keys ≡ g.inner
    sized = are_keys.sized ∙ classes.numbered.sized

    index-low : (v : ℕ) → IsInner g v → v - 1 < length keys
    index-low v inner = omega (arith, inner.0, inner.1, sized)

    none : Key N
    none = key_of numbers ways 0

    key-is : (v : ℕ) → IsInner g v → get_or keys (v - 1) none ≡ key_of numbers ways (v - 1)
    key-is v inner = are_keys.each (v - 1) none (omega (arith, inner.0, inner.1, classes.numbered.sized))

    key-class : (v w : ℕ) → IsInner g v → IsInner g w → get_or keys (v - 1) none ≡ get_or keys (w - 1) none → class_at numbers v ≡ class_at numbers w
    key-class v w a b same = ap (λ (k : Key N). k.class) (sym (key-is v a) ∙ same ∙ key-is w b)

    key-way : (v w : ℕ) → IsInner g v → IsInner g w → get_or keys (v - 1) none ≡ get_or keys (w - 1) none → way_at ways v ≡ way_at ways w
    key-way v w a b same = ap (λ (k : Key N). k.way.0) (sym (key-is v a) ∙ same ∙ key-is w b)

    key-same : (v w : ℕ) → IsInner g v → IsInner g w → class_at numbers v ≡ class_at numbers w → way_at ways v ≡ way_at ways w → get_or keys (v - 1) none ≡ get_or keys (w - 1) none
    key-same v w a b class way =
        let same : key_of {N = N} numbers ways (v - 1) ≡ key_of numbers ways (w - 1) = λ i. record { class = class i; way = record { 0 = way i } } in
        key-is v a ∙ same ∙ sym (key-is w b)

    way-sized : (v : ℕ) (way : Option (List ℕ)) (weights : List ℕ) → IsWayOn g (n + 1) v way → way ≡ Some weights → length weights ≡ N
    way-sized v way weights is_way e = let are : AreHeaviest g.pieces g.arcs v (target_at g (n + 1)) weights = subst (λ (o : Option (List ℕ)). IsWay g.pieces g.arcs v (target_at g (n + 1)) o) e is_way in are.sized

    module _ (cmp : Key N → Key N → Ordering) (total : IsTotalOrder cmp) (less : (a b : Key N) → ((a.class < b.class) ⊎ ((a.class ≡ b.class) × WayBefore a.way.0 b.way.0)) → cmp a b ≡ Less) (distinct : List (Key N)) (ranks : List ℕ) (are : AreRanks cmp keys distinct ranks) where
      keys-less : (v w : ℕ) → IsInner g v → IsInner g w → ((class_at numbers v < class_at numbers w) ⊎ ((class_at numbers v ≡ class_at numbers w) × WayBefore (way_at ways v) (way_at ways w))) → class_at ranks v < class_at ranks w
      keys-less v w a b before =
          let here : cmp (key_of numbers ways (v - 1)) (key_of numbers ways (w - 1)) ≡ Less = less (key_of numbers ways (v - 1)) (key_of numbers ways (w - 1)) before in
          let there : cmp (get_or keys (v - 1) none) (get_or keys (w - 1) none) ≡ Less = (λ i. cmp (key-is v a i) (key-is w b i)) ∙ here in
          rank-less cmp total keys distinct ranks are (v - 1) (w - 1) none (index-low v a) (index-low w b) there

      more-same : (v w : ℕ) → IsInner g v → IsInner g w → class_at ranks v ≡ class_at ranks w → HaveSameRooms g (n + 1) v w
      more-same v w a b same t low high =
          let key = rank-same cmp total keys distinct ranks are (v - 1) (w - 1) none (index-low v a) (index-low w b) same in
          ⊎_elim
          (λ early. (classes.same v w a b).0 (key-class v w a b key) t low (omega arith))
          (λ late.
          let at : n + 1 ≡ t = omega arith in
          subst (λ (s : ℕ). (way : Option (List ℕ)) × IsWayOn g s v way × IsWayOn g s w way) at
          (way_at ways v, on.each v (inner-node v a), subst (λ (o : Option (List ℕ)). IsWay g.pieces g.arcs w (target_at g (n + 1)) o) (sym (key-way v w a b key)) (on.each w (inner-node w b))))
          (cases_lt t (n + 1))

      same-more : (v w : ℕ) → IsInner g v → IsInner g w → HaveSameRooms g (n + 1) v w → class_at ranks v ≡ class_at ranks w
      same-more v w a b rooms =
          let class = (classes.same v w a b).1 (λ t low high. rooms t low (omega arith)) in
          let here = rooms (n + 1) (omega arith) (omega arith) in
          let way = way-one g.pieces g.arcs v (target_at g (n + 1)) (way_at ways v) here.0 (on.each v (inner-node v a)) here.1 ∙ way-one g.pieces g.arcs w (target_at g (n + 1)) here.0 (way_at ways w) here.2 (on.each w (inner-node w b)) in
          rank-equal cmp total keys distinct ranks are (v - 1) (w - 1) none (index-low v a) (index-low w b) (key-same v w a b class way)

      more-rises : (v w : ℕ) → IsInner g v → IsInner g w → LiesUnder g (n + 1) v w → class_at ranks v ≤ class_at ranks w
      more-rises v w a b under =
          let low = classes.rises v w a b (λ t first last. under t first (omega arith)) in
          let here = under (n + 1) (omega arith) (omega arith) in
          let one = way-one g.pieces g.arcs v (target_at g (n + 1)) here.0 (way_at ways v) here.2 (on.each v (inner-node v a)) in
          let two = way-one g.pieces g.arcs w (target_at g (n + 1)) here.1 (way_at ways w) here.3 (on.each w (inner-node w b)) in
          let is_under : IsUnder (way_at ways w) (way_at ways v) = subst (λ (o : Option (List ℕ)). IsUnder o (way_at ways v)) two (subst (λ (o : Option (List ℕ)). IsUnder here.1 o) one here.4) in
          ⊎_elim
          (λ lt. omega (arith, keys-less v w a b (inl lt)))
          (λ ge.
          let class : class_at numbers v ≡ class_at numbers w = omega arith in
          ⊎_elim
          (λ same. omega (arith, rank-equal cmp total keys distinct ranks are (v - 1) (w - 1) none (index-low v a) (index-low w b) (key-same v w a b class same)))
          (λ before. omega (arith, keys-less v w a b (inr (class, before))))
          (under-cases N (way_at ways v) (way_at ways w) (λ x e. way-sized v (way_at ways v) x (on.each v (inner-node v a)) e) (λ x e. way-sized w (way_at ways w) x (on.each w (inner-node w b)) e) is_under))
          (cases_lt (class_at numbers v) (class_at numbers w))

      pub classes-more : AreClasses g (n + 1) ranks (length distinct)
      classes-more =
          record {
            numbered = record {
              sized = are.sized ∙ sized;
              few = omega (arith, are.few, sized);
              low = λ v inner. (are.each (v - 1) none (index-low v inner)).low;
              high = λ v inner. (are.each (v - 1) none (index-low v inner)).high;
              onto = λ w low high.
                  let found = rank-onto cmp total keys distinct ranks are none w low high in
                  let same : found.0 + 1 - 1 ≡ found.0 = omega arith in
                  (found.0 + 1, (omega arith, omega (arith, found.1, sized)), ap (λ (k : ℕ). get_or ranks k 0) same ∙ found.2);
            };
            same = λ v w a b. (more-same v w a b, same-more v w a b);
            rises = more-rises;
          }

  -- classes by all types rise along arcs
  pub classes-rise : (numbers : List ℕ) (count : ℕ) → AreClasses g (length g.caps) numbers count → RiseAlong g numbers
  classes-rise numbers count classes e m head =
      let tail = tail-inner N g is e m in
      let under : LiesUnder g (length g.caps) e.tail e.head = λ t low high.
      let one = (classes.same e.tail e.tail tail tail).0 refl t low high in
      let two = (classes.same e.head e.head head head).0 refl t low high in
      (one.0, two.0, one.1, two.1, way-under g.pieces g.arcs e (target_at g t) one.0 two.0 m one.1 two.1) in (
        classes.rises e.tail e.head tail head under,
        λ same.
            let way = is.goes e.head (inner-node e.head head) in
            let rooms = (classes.same e.tail e.head tail head).0 same way.0 way.1.0 way.1.1 in
            loss-only N g is e.mark (known-at N g is e m) (λ d. carries way.0 rooms.0 rooms.1 rooms.2 way.2.0 way.2.1 d),
      )
    where
      carries : (t : ℕ) (way : Option (List ℕ)) → IsWayOn g t e.tail way → IsWayOn g t e.head way → (path : List GraphArc) → IsPath g.arcs e.head (target_at g t) path → (d : ℕ) → get_or (mark_weight g.pieces e.mark) d 0 ≡ 0
      carries t None one two path leads d = absurd (two path leads)
      carries t (Some weights) one two path leads d = way-carries g.pieces g.arcs e (target_at g t) d weights m one two

-- one more key
pub keys-more : {N : ℕ} (numbers : List ℕ) (ways : List (Option (List ℕ))) (k : ℕ) (old : List (Key N)) (key : Key N) → length old ≡ k → key ≡ key_of numbers ways k → ((i : ℕ) (d : Key N) → i < k → get_or old i d ≡ key_of numbers ways i) → (i : ℕ) (d : Key N) → i < k + 1 → get_or (old ++ key ∷ []) i d ≡ key_of numbers ways i
keys-more {N} numbers ways k old key sized is before i d low =
    ⊎_elim
    (λ early. get_or_append_left old (key ∷ []) d i (omega arith) ∙ before i d early)
    (λ late.
    let same : i ≡ length old = omega arith in
    let at : k ≡ i = omega arith in
    ap (λ (j : ℕ). get_or (old ++ key ∷ []) j d) same ∙ get_or-append_seam old key [] d ∙ is ∙ ap (λ (j : ℕ). key_of {N = N} numbers ways j) at)
    (cases_lt i k)

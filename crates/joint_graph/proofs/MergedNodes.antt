-- Where nodes and arcs are merged by their numbers.
use Rattle.std.proofs.Common.{◌≡◌, ◌↔◌, ℕ, ◌+◌, ◌-◌, ◌≤◌, ◌⊎◌, Bool, true, false, ◌==◌, ◌&&◌, if◌then◌else◌, Option, Some, None, List, [], ◌∷◌, ◌++◌, length, get_or, refl, sym, ap, ◌∙◌, subst, inl, inr, ⊎_elim, arith}
use Rattle.std.specs.Prelude.{Contains, AllPairs}
use Rattle.std.specs.List.{filter_map, cons_option}
use Rattle.std.proofs.lemmas.Bool.{false≢true, eq-eqb, eqb-true, and_parts, and_from, cases_lt}
use Rattle.std.proofs.lemmas.List.{length-append, get_or_append_left}
use Rattle.std.proofs.Math.Seq.{get_or-append_seam}
use Rattle.label_graph.specs.declared.parts.GraphArc.{GraphArc}
use Rattle.label_graph.specs.declared.parts.Mark.{Mark}
use Rattle.label_graph.specs.declared.parts.Mark.TheVariants.{Loss, Piece as Carries}
use Rattle.label_graph.specs.Graph.{ArcBefore, IsPath}
use Rattle.label_graph.specs.inner.Merges.{HasEnds, is_loss, merged_arc}
use Rattle.label_graph.proofs.Members.{contains_cons, contains_here, contains_there, contains_nothing}
use Rattle.joint_graph.specs.Joints.{JointValue, IsJoint, IsInner, IsType, target_at}
use Rattle.joint_graph.specs.Merged.{node_into, BecomesArc, IsMerging, Merges, IsImage}
use Rattle.joint_graph.specs.inner.Ranks.{IsInto}
use Rattle.joint_graph.specs.inner.Classes.{class_at, AreNumbered, RiseAlong}
use Rattle.joint_graph.proofs.JointPaths.{climbs-at, tail-inner, head-node, path-climbs}

module _ {X Y : Type 0} (h : X → Option Y) where
  member_cons_option : (o : Option Y) (ys : List Y) (y : Y) → Contains ys y → Contains (cons_option o ys) y
  member_cons_option None ys y m = m
  member_cons_option (Some z) ys y m = contains_there z ys y m

  cons_option-cases : (o : Option Y) (ys : List Y) (y : Y) → Contains (cons_option o ys) y → (o ≡ Some y) ⊎ Contains ys y
  cons_option-cases None ys y m = inr m
  cons_option-cases (Some z) ys y m = ⊎_elim (λ same. inl (ap Some same)) (λ later. inr later) (contains_cons z ys y m)

  pub to_filter_map : (xs : List X) (x : X) (y : Y) → Contains xs x → h x ≡ Some y → Contains (filter_map h xs) y
  to_filter_map [] x y m e = absurd (contains_nothing x m)
  to_filter_map (z ∷ xs) x y m e =
      ⊎_elim
      (λ same. let f : h z ≡ Some y = ap h same ∙ e in rw f (contains_here y (filter_map h xs)))
      (λ later. member_cons_option (h z) (filter_map h xs) y (to_filter_map xs x y later e))
      (contains_cons z xs x m)

  pub from_filter_map : (xs : List X) (y : Y) → Contains (filter_map h xs) y → (x : X) × Contains xs x × (h x ≡ Some y)
  from_filter_map [] y m = absurd (contains_nothing y m)
  from_filter_map (z ∷ xs) y m =
      ⊎_elim
      (λ same. (z, contains_here z xs, same))
      (λ later. let rest = from_filter_map xs y later in (rest.0, contains_there z xs rest.0 rest.1, rest.2))
      (cons_option-cases (h z) (filter_map h xs) y m)

-- the test for loss
loss-is : (m : Mark) → is_loss m ≡ true → m ≡ Loss
loss-is Loss h = refl
loss-is (Carries p) h = absurd (false≢true h)

kept-some : (t : Bool) (y x : GraphArc) → t ≡ false → y ≡ x → (if t then None else Some y) ≡ Some x
kept-some t y x off same = ap (λ (b : Bool). if b then None else Some y) off ∙ ap Some same

abbrev got : GraphArc → Option GraphArc → GraphArc
got y None = y
got y (Some x) = x

some-kept : (t : Bool) (y x : GraphArc) → (if t then None else Some y) ≡ Some x → (t ≡ false) × (y ≡ x)
some-kept true y x h = absurd (let bad : None ≡ Some x = h in cc)
some-kept false y x h = (refl, ap (got y) h)

off : (t s : Bool) → s ≡ t → (s ≡ true → ⊥) → s ≡ false
off true s e never = absurd (never e)
off false s e never = e

becomes : (into : List ℕ) (e x : GraphArc) → merged_arc into e ≡ Some x → BecomesArc into e x
becomes into e x h =
    let tail = get_or into (e.tail - 1) 0 in
    let head = get_or into (e.head - 1) 0 in
    let kept = some-kept ((tail == head) && is_loss e.mark) (record { tail = tail; head = head; mark = e.mark }) x h in
    subst (λ (z : GraphArc). BecomesArc into e z) kept.1 (record {
      tail = refl;
      head = refl;
      mark = refl;
      kept = λ loop. false≢true (sym kept.0 ∙ and_from (tail == head) (is_loss e.mark) (eq-eqb tail head loop.1) (ap is_loss loop.0));
    })

from-becomes : (into : List ℕ) (e x : GraphArc) → BecomesArc into e x → merged_arc into e ≡ Some x
from-becomes into e x b =
    let tail = get_or into (e.tail - 1) 0 in
    let head = get_or into (e.head - 1) 0 in
    let same : record { tail = tail; head = head; mark = e.mark } ≡ x = (λ i. record { tail = sym b.tail i; head = sym b.head i; mark = sym b.mark i }) in
    kept-some ((tail == head) && is_loss e.mark) (record { tail = tail; head = head; mark = e.mark }) x (off ((tail == head) && is_loss e.mark) ((tail == head) && is_loss e.mark) refl (λ h.
    let parts = and_parts (tail == head) (is_loss e.mark) h in
    b.kept (b.mark ∙ loss-is e.mark parts.1, b.tail ∙ eqb-true tail head parts.0 ∙ sym b.head))) same

-- the numbers of the targets, one after the other
pub into-first : (numbers : List ℕ) (count : ℕ) → IsInto numbers count 0 numbers
into-first numbers count =
    record { sized = omega arith; front = λ i lt. refl; back = λ t lt. absurd (omega arith) }

pub into-more : (numbers : List ℕ) (count types : ℕ) (old new : List ℕ) (n : ℕ) → n ≡ count + types + 1 → new ≡ old ++ n ∷ [] → IsInto numbers count types old → IsInto numbers count (types + 1) new
into-more numbers count types old new n is pushed into =
    let sized : length (old ++ n ∷ []) ≡ length old + 1 = length-append old (n ∷ []) in
    subst (λ (zs : List ℕ). IsInto numbers count (types + 1) zs) (sym pushed) (record {
      sized = omega (arith, sized, into.sized);
      front = λ i lt. get_or_append_left old (n ∷ []) 0 i (omega (arith, into.sized)) ∙ into.front i lt;
      back = λ t lt. ⊎_elim
          (λ early. get_or_append_left old (n ∷ []) 0 (length numbers + t) (omega (arith, into.sized)) ∙ into.back t early)
          (λ late.
          let at : length numbers + t ≡ length old = omega (arith, into.sized) in
          let last : get_or (old ++ n ∷ []) (length numbers + t) 0 ≡ n = ap (λ (k : ℕ). get_or (old ++ n ∷ []) k 0) at ∙ get_or-append_seam old n [] 0 in
          omega (arith, last, is))
          (cases_lt t types);
    })

module _ (N : ℕ) (g : JointValue N) (numbers : List ℕ) (count : ℕ) (are : AreNumbered g numbers count) (into : List ℕ) (whole : IsInto numbers count (length g.caps) into) where
  pub into-class : (v : ℕ) → IsInner g v → node_into into v ≡ class_at numbers v
  into-class v inner = whole.front (v - 1) (omega (arith, inner.0, inner.1, are.sized))

  pub into-target : (t : ℕ) → IsType g.caps t → node_into into (target_at g t) ≡ count + t
  into-target t is_type =
      let index : g.inner + t - 1 ≡ length numbers + (t - 1) = omega (arith, are.sized, is_type.0) in
      let back = whole.back (t - 1) (omega (arith, is_type.0, is_type.1)) in
      ap (λ (k : ℕ). get_or into k 0) index ∙ omega (arith, back, is_type.0)

  pub merging-by : IsInner g 1 → class_at numbers 1 ≡ 1 → IsMerging g into count
  merging-by first one =
      record {
        count = omega (arith, whole.sized, are.sized);
        first = into-class 1 first ∙ one;
        low = λ v inner. omega (arith, into-class v inner, are.low v inner);
        high = λ v inner. omega (arith, into-class v inner, are.high v inner);
        targets = into-target;
        onto = λ w low high. let found = are.onto w low high in (found.0, found.1, into-class found.0 found.1 ∙ found.2);
      }

  pub merges-same : (Same : ℕ → ℕ → Type 0) → ((v w : ℕ) → IsInner g v → IsInner g w → (class_at numbers v ≡ class_at numbers w) ↔ Same v w) → Merges g into Same
  merges-same Same same v w a b = (
    λ e. (same v w a b).0 (sym (into-class v a) ∙ e ∙ into-class w b),
    λ s. into-class v a ∙ (same v w a b).1 s ∙ sym (into-class w b),
  )

-- the arcs in order make the image
pub image-by : (N : ℕ) (g : JointValue N) (count : ℕ) (into : List ℕ) → IsMerging g into count → (merged sorted : List GraphArc) → merged ≡ filter_map (merged_arc into) g.arcs → AllPairs ArcBefore sorted → ((x : GraphArc) → Contains sorted x ↔ Contains merged x) → IsImage g into (record { pieces = g.pieces; caps = g.caps; inner = count; arcs = sorted })
image-by N g count into merging merged sorted made up same =
    record {
      pieces = refl;
      caps = refl;
      merging = merging;
      ordered = up;
      arcs = λ x. (
        λ m. let from = from_filter_map (merged_arc into) g.arcs x (subst (λ (zs : List GraphArc). Contains zs x) made ((same x).0 m)) in
            (from.0, from.1, becomes into from.0 x from.2),
        λ e. (same x).1 (subst (λ (zs : List GraphArc). Contains zs x) (sym made) (to_filter_map (merged_arc into) g.arcs e.0 x e.1 (from-becomes into e.0 x e.2))),
      );
    }

module _ (N : ℕ) (g : JointValue N) (is : IsJoint N g) (numbers : List ℕ) (count : ℕ) (are : AreNumbered g numbers count) (into : List ℕ) (whole : IsInto numbers count (length g.caps) into) where
  pub merging : RiseAlong g numbers → IsMerging g into count
  merging rise = merging-by N g numbers count are into whole (omega arith, is.source) first-class
    where
      path-rises : (path : List GraphArc) (a b : ℕ) → b ≤ g.inner → IsPath g.arcs a b path → class_at numbers a ≤ class_at numbers b
      path-rises [] a b high h = omega (arith, ap (class_at numbers) h)
      path-rises (e ∷ path) a b high h =
          let head = head-node N g is e h.0 in
          let inner : IsInner g e.head = (head.0, omega (arith, high, path-climbs N g is path e.head b h.2)) in
          omega (arith, (rise e h.0 inner).0, ap (class_at numbers) h.1, path-rises path e.head b high h.2)

      first-class : class_at numbers 1 ≡ 1
      first-class =
          let inner : IsInner g 1 = (omega arith, is.source) in
          let first = are.onto 1 (omega arith) (omega (arith, are.low 1 inner, are.high 1 inner)) in
          let way = is.comes first.0 (first.1.0, omega (arith, first.1.1)) in
          omega (arith, are.low 1 inner, path-rises way.0 1 first.0 first.1.1 way.1, first.2)

  pub rises-all : RiseAlong g numbers → (e : GraphArc) → Contains g.arcs e → (node_into into e.tail ≤ node_into into e.head) × ((node_into into e.tail ≡ node_into into e.head) → e.mark ≡ Loss)
  rises-all rise e m =
      let tail = tail-inner N g is e m in
      let head = head-node N g is e m in
      ⊎_elim
      (λ lt.
      let t = e.head - g.inner in
      let is_type : IsType g.caps t = (omega arith, omega (arith, head.1)) in
      let same : e.head ≡ target_at g t = omega arith in
      let at : node_into into e.head ≡ count + t = ap (node_into into) same ∙ into-target N g numbers count are into whole t is_type in
      (omega (arith, at, into-class N g numbers count are into whole e.tail tail, are.high e.tail tail), λ e_same. absurd (omega (arith, at, into-class N g numbers count are into whole e.tail tail, are.high e.tail tail, is_type.0))))
      (λ ge.
      let inner : IsInner g e.head = (head.0, omega arith) in
      let up = rise e m inner in
      (omega (arith, up.0, into-class N g numbers count are into whole e.tail tail, into-class N g numbers count are into whole e.head inner), λ same. up.1 (omega (arith, same, into-class N g numbers count are into whole e.tail tail, into-class N g numbers count are into whole e.head inner))))
      (cases_lt g.inner e.head)

  pub ends : (e : GraphArc) → Contains g.arcs e → HasEnds (length into) e
  ends e m =
      let up = climbs-at N g is e m in
      record {
        tail_low = up.low;
        tail_high = omega (arith, up.from_inner, whole.sized, are.sized);
        head_low = omega (arith, up.low, up.up);
        head_high = omega (arith, up.high, whole.sized, are.sized);
      }

  pub image-made : RiseAlong g numbers → (merged sorted : List GraphArc) → merged ≡ filter_map (merged_arc into) g.arcs → AllPairs ArcBefore sorted → ((x : GraphArc) → Contains sorted x ↔ Contains merged x) → IsImage g into (record { pieces = g.pieces; caps = g.caps; inner = count; arcs = sorted })
  image-made rise = image-by N g count into (merging rise)

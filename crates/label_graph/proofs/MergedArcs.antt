-- What the arcs of a graph become.
use Rattle.std.proofs.Common.{◌≡◌, ◌↔◌, ℕ, ◌+◌, ◌-◌, ◌<◌, ◌⊎◌, Bool, true, false, ◌==◌, ◌&&◌, if◌then◌else◌, Ordering, Option, Some, None, List, [], ◌∷◌, ◌++◌, length, get_or, take, refl, sym, ap, ◌∙◌, subst, inl, inr, ⊎_elim, arith}
use Rattle.std.specs.Prelude.{Contains, AllPairs}
use Rattle.std.specs.List.{filter_map, cons_option}
use Rattle.std.specs.List.Sorted.{IsStrictlySortedBy}
use Rattle.std.specs.Ordering.{nat_cmp, ordering_then}
use Rattle.std.specs.declared.cmp.Ordering.TheVariants.{Less, Equal, Greater}
use Rattle.std.proofs.lemmas.Bool.{false≢true, eq-eqb, eqb-true, and_parts, and_from}
use Rattle.std.proofs.lemmas.Cmp.{ranked, by_ranked}
use Rattle.std.proofs.lemmas.List.{take_more, append-nil}
use Rattle.std.proofs.lemmas.List.Elements.{filter_map-append}
use Rattle.std.proofs.lemmas.Map.Keys.{Less-from_sorted}
use Rattle.label_graph.specs.declared.parts.GraphArc.{GraphArc}
use Rattle.label_graph.specs.declared.parts.Mark.{Mark}
use Rattle.label_graph.specs.declared.parts.Mark.TheVariants.{Loss, Piece as Carries}
use Rattle.label_graph.specs.Graph.{GraphValue, IsGraph, ArcBefore, MarkBefore}
use Rattle.label_graph.specs.Images.{IsLabelling, IsImage, AreDistinct, IsMergedInto, BecomesArc}
use Rattle.label_graph.specs.inner.Merges.{AreNodes, HasEnds, is_loss, merged_arc}
use Rattle.label_graph.proofs.Members.{contains_cons, contains_here, contains_there, contains_nothing}
use Rattle.label_graph.proofs.Merging.{arc-ends, node-one}

-- one more element
pub filter_map-more : {X Y : Type 0} (h : X → Option Y) (xs : List X) (i : ℕ) (d : X) (o : Option Y) → i < length xs → o ≡ h (get_or xs i d) → filter_map h (take (i + 1) xs) ≡ filter_map h (take i xs) ++ cons_option o []
filter_map-more {X} {Y} h xs i d o lt is =
    ap (filter_map h) (take_more xs i d lt) ∙ filter_map-append h (take i xs) (get_or xs i d ∷ []) ∙ ap (λ (p : Option Y). filter_map h (take i xs) ++ cons_option p []) (sym is)

pub filter_map-same : {X Y : Type 0} (h : X → Option Y) (xs : List X) (i : ℕ) (d : X) → i < length xs → None ≡ h (get_or xs i d) → filter_map h (take (i + 1) xs) ≡ filter_map h (take i xs)
filter_map-same {X} {Y} h xs i d lt is = filter_map-more h xs i d None lt is ∙ append-nil (filter_map h (take i xs))

module _ {X Y : Type 0} (h : X → Option Y) where
  member_cons_option : (o : Option Y) (ys : List Y) (y : Y) → Contains ys y → Contains (cons_option o ys) y
  member_cons_option None ys y m = m
  member_cons_option (Some z) ys y m = contains_there z ys y m

  cons_option-cases : (o : Option Y) (ys : List Y) (y : Y) → Contains (cons_option o ys) y → (o ≡ Some y) ⊎ Contains ys y
  cons_option-cases None ys y m = inr m
  cons_option-cases (Some z) ys y m = ⊎_elim (λ same. inl (ap Some same)) (λ later. inr later) (contains_cons z ys y m)

  to_filter_map : (xs : List X) (x : X) (y : Y) → Contains xs x → h x ≡ Some y → Contains (filter_map h xs) y
  to_filter_map [] x y m e = absurd (contains_nothing x m)
  to_filter_map (z ∷ xs) x y m e =
      ⊎_elim
      (λ same. let f : h z ≡ Some y = ap h same ∙ e in rw f (contains_here y (filter_map h xs)))
      (λ later. member_cons_option (h z) (filter_map h xs) y (to_filter_map xs x y later e))
      (contains_cons z xs x m)

  from_filter_map : (xs : List X) (y : Y) → Contains (filter_map h xs) y → (x : X) × Contains xs x × (h x ≡ Some y)
  from_filter_map [] y m = absurd (contains_nothing y m)
  from_filter_map (z ∷ xs) y m =
      ⊎_elim
      (λ same. (z, contains_here z xs, same))
      (λ later. let rest = from_filter_map xs y later in (rest.0, contains_there z xs rest.0 rest.1, rest.2))
      (cons_option-cases (h z) (filter_map h xs) y m)

pub number-less : (x y : ℕ) → nat_cmp x y ≡ Less → x < y
number-less x y h =
    by_ranked (x < y) (x ≡ y) (y < x) (nat_cmp x y) (ranked x y (nat_cmp x y) refl)
    (λ is lt. lt)
    (λ is same. absurd (let bad : Equal ≡ Less = sym is ∙ h in cc))
    (λ is gt. absurd (let bad : Greater ≡ Less = sym is ∙ h in cc))

-- either the first numbers are in order, or they are the same and the rest is
then-less : (x y : ℕ) (o : Ordering) → ordering_then (nat_cmp x y) o ≡ Less → (x < y) ⊎ ((x ≡ y) × (o ≡ Less))
then-less x y o h =
    by_ranked (x < y) (x ≡ y) (y < x) (nat_cmp x y) (ranked x y (nat_cmp x y) refl)
    (λ is lt. inl lt)
    (λ is same. inr (same, rw is at h))
    (λ is gt. absurd (let bad : Greater ≡ Less = rw is at h in cc))

-- arcs in the order of their tails, heads and marks
module _ (mark_cmp : Mark → Mark → Ordering) (marks : (m n : Mark) → mark_cmp m n ≡ Less → MarkBefore m n) where
  pub arc-less : (e f : GraphArc) → ordering_then (nat_cmp e.tail f.tail) (ordering_then (nat_cmp e.head f.head) (mark_cmp e.mark f.mark)) ≡ Less → ArcBefore e f
  arc-less e f h =
      ⊎_elim
      (λ lt. inl lt)
      (λ w. inr (w.0, ⊎_elim (λ lt. inl lt) (λ v. inr (v.0, marks e.mark f.mark v.1)) (then-less e.head f.head (mark_cmp e.mark f.mark) w.1)))
      (then-less e.tail f.tail (ordering_then (nat_cmp e.head f.head) (mark_cmp e.mark f.mark)) h)

pub sorted-arcs : (arc_cmp : GraphArc → GraphArc → Ordering) → ((e f : GraphArc) → arc_cmp e f ≡ Less → ArcBefore e f) → (arcs : List GraphArc) → IsStrictlySortedBy arc_cmp arcs → AllPairs ArcBefore arcs
sorted-arcs arc_cmp less arcs sorted i j d lt in_range = less (get_or arcs i d) (get_or arcs j d) (Less-from_sorted arc_cmp arcs i j d sorted lt in_range)

-- the test for loss
loss-is : (m : Mark) → is_loss m ≡ true → m ≡ Loss
loss-is Loss h = refl
loss-is (Carries p) h = absurd (false≢true h)

kept-some : (t : Bool) (y x : GraphArc) → t ≡ false → y ≡ x → (if t then None else Some y) ≡ Some x
kept-some t y x off same = ap (λ (b : Bool). if b then None else Some y) off ∙ ap Some same

abbrev got : GraphArc → Option GraphArc → GraphArc
got y None = y
got y (Some x) = x

some-kept : (t : Bool) (y x : GraphArc) → (if t then None else Some y) ≡ Some x → (t ≡ false) × (y ≡ x)
some-kept true y x h = absurd (let bad : None ≡ Some x = h in cc)
some-kept false y x h = (refl, ap (got y) h)

module _ {N : ℕ} (g : GraphValue N) (labels distinct : List (List ℕ)) (nodes : List ℕ) (is : IsGraph N g) (new : IsLabelling g labels) (are : AreDistinct labels distinct) (at : AreNodes labels distinct nodes) where
  pub ends : (e : GraphArc) → Contains g.arcs e → HasEnds (length nodes) e
  ends e m =
      let in_range = arc-ends g labels distinct is new are e m in
      record {
        tail_low = in_range.0;
        tail_high = omega (arith, in_range.1, in_range.2, new.count, at.count);
        head_low = omega (arith, in_range.0, in_range.1);
        head_high = omega (arith, in_range.2, new.count, at.count);
      }

  tail-at : (e : GraphArc) → Contains g.arcs e → IsMergedInto labels distinct e.tail (get_or nodes (e.tail - 1) 0)
  tail-at e m = let in_range = ends e m in at.each e.tail in_range.tail_low (omega (arith, in_range.tail_high, at.count))

  head-at : (e : GraphArc) → Contains g.arcs e → IsMergedInto labels distinct e.head (get_or nodes (e.head - 1) 0)
  head-at e m = let in_range = ends e m in at.each e.head in_range.head_low (omega (arith, in_range.head_high, at.count))

  becomes : (e x : GraphArc) → Contains g.arcs e → merged_arc nodes e ≡ Some x → BecomesArc labels distinct e x
  becomes e x m h =
      let tail = get_or nodes (e.tail - 1) 0 in
      let head = get_or nodes (e.head - 1) 0 in
      let kept = some-kept ((tail == head) && is_loss e.mark) (record { tail = tail; head = head; mark = e.mark }) x h in
      subst (λ (z : GraphArc). BecomesArc labels distinct e z) kept.1 (record {
        tail = tail-at e m;
        head = head-at e m;
        mark = refl;
        kept = λ loop. false≢true (sym kept.0 ∙ and_from (tail == head) (is_loss e.mark) (eq-eqb tail head loop.1) (ap is_loss loop.0));
      })

  from-becomes : (e x : GraphArc) → Contains g.arcs e → BecomesArc labels distinct e x → merged_arc nodes e ≡ Some x
  from-becomes e x m b =
      let tail = get_or nodes (e.tail - 1) 0 in
      let head = get_or nodes (e.head - 1) 0 in
      let one : tail ≡ x.tail = node-one labels distinct are e.tail tail x.tail (tail-at e m) b.tail in
      let two : head ≡ x.head = node-one labels distinct are e.head head x.head (head-at e m) b.head in
      let same : record { tail = tail; head = head; mark = e.mark } ≡ x = (λ i. record { tail = one i; head = two i; mark = sym b.mark i }) in
      kept-some ((tail == head) && is_loss e.mark) (record { tail = tail; head = head; mark = e.mark }) x (off ((tail == head) && is_loss e.mark) ((tail == head) && is_loss e.mark) refl (λ h.
      let parts = and_parts (tail == head) (is_loss e.mark) h in
      b.kept (b.mark ∙ loss-is e.mark parts.1, sym one ∙ eqb-true tail head parts.0 ∙ two))) same
    where
      off : (t s : Bool) → s ≡ t → (s ≡ true → ⊥) → s ≡ false
      off true s e never = absurd (never e)
      off false s e never = e

  -- the arcs in order make the image
  pub image-made : (merged sorted : List GraphArc) → merged ≡ filter_map (merged_arc nodes) g.arcs → AllPairs ArcBefore sorted → ((x : GraphArc) → Contains sorted x ↔ Contains merged x) → IsImage g labels (record { pieces = g.pieces; labels = distinct; arcs = sorted })
  image-made merged sorted made up same =
      record {
        pieces = refl;
        nodes = are;
        ordered = up;
        arcs = λ x. (
          λ m. let from = from_filter_map (merged_arc nodes) g.arcs x (subst (λ (zs : List GraphArc). Contains zs x) made ((same x).0 m)) in
              (from.0, from.1, becomes from.0 x from.1 from.2),
          λ e. (same x).1 (subst (λ (zs : List GraphArc). Contains zs x) (sym made) (to_filter_map (merged_arc nodes) g.arcs e.0 x e.1 (from-becomes e.0 x e.1 e.2))),
        );
      }

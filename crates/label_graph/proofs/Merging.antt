-- Nodes that are merged by new labels: each is merged into one node, the first into the first and the last into the last.
use Rattle.std.proofs.Common.{◌≡◌, ◌≢◌, ◌⊎◌, ℕ, ◌+◌, ◌-◌, ◌<◌, ◌≤◌, List, [], ◌∷◌, length, get_or, map, refl, sym, ap, ◌∙◌, subst, inl, inr, ⊎_elim, arith}
use Rattle.std.specs.Prelude.{Contains, All}
use Rattle.std.specs.Ordering.{nat_cmp}
use Rattle.std.specs.declared.cmp.Ordering.TheVariants.{Less, Equal}
use Rattle.std.specs.Cmp.Lexicographic.{slice_cmp}
use Rattle.std.proofs.lemmas.Cmp.{tied_itself, nat_list_cmp_total}
use Rattle.std.proofs.lemmas.Bool.{cases_lt, cases_order}
use Rattle.std.proofs.lemmas.List.{get_or_default, length-map}
use Rattle.std.proofs.lemmas.List.Elements.{All-contains, All-get_or, All-map, Contains-get_or}
use Rattle.weight_vec.specs.Weight.{AtMost, Before, IsZero, plus}
use Rattle.weight_vec.proofs.Places.{get_or-plus}
use Rattle.weight_vec.proofs.Orders.{at_most-before}
use Rattle.label_graph.specs.declared.parts.Piece.{Piece}
use Rattle.label_graph.specs.declared.parts.Mark.{Mark}
use Rattle.label_graph.specs.declared.parts.Mark.TheVariants.{Loss, Piece as Carries}
use Rattle.label_graph.specs.declared.parts.GraphArc.{GraphArc}
use Rattle.label_graph.specs.Graph.{GraphValue, IsGraph, IsKnown, IsPath, label_of, mark_weight}
use Rattle.label_graph.specs.Images.{IsLabelling, AreDistinct, IsMergedInto, BecomesArc}
use Rattle.label_graph.proofs.Paths.{on_path}

pub never_before_itself : (xs : List ℕ) → Before xs xs → ⊥
never_before_itself xs h =
    let e : slice_cmp nat_cmp xs xs ≡ Equal = tied_itself nat_list_cmp_total xs in
    let bad : Equal ≡ Less = sym e ∙ h in cc

pub before-one_way : (xs ys : List ℕ) → Before xs ys → Before ys xs → ⊥
before-one_way xs ys h k = never_before_itself xs (nat_list_cmp_total.trans xs ys xs h k)

-- what is at most as much does not come after
pub at_most-not_after : (xs ys : List ℕ) → length xs ≡ length ys → AtMost xs ys → Before ys xs → ⊥
at_most-not_after xs ys sized fits after =
    let apart : xs ≢ ys = λ same. never_before_itself ys (subst (λ (z : List ℕ). Before ys z) same after) in
    before-one_way ys xs after (at_most-before xs ys sized fits apart)

-- a list of labels and its nodes
pub label-contains : (labels : List (List ℕ)) (v : ℕ) → 1 ≤ v → v ≤ length labels → Contains labels (label_of labels v)
label-contains labels v low high = let lt : v - 1 < length labels = omega arith in Contains-get_or labels (v - 1) [] lt

pub label-node : (labels : List (List ℕ)) (l : List ℕ) → Contains labels l → (v : ℕ) × (1 ≤ v) × (v ≤ length labels) × (label_of labels v ≡ l)
label-node labels l m =
    let lt : m.0 < length labels = m.1 in
    let same : m.0 + 1 - 1 ≡ m.0 = omega arith in
    let there : get_or labels m.0 [] ≡ l = get_or_default labels m.0 [] l lt ∙ m.2 in
    (m.0 + 1, omega arith, omega arith, subst (λ (i : ℕ). get_or labels i [] ≡ l) (sym same) there)

-- no more than itself and something: nothing is carried
pub no_room-loss : {N : ℕ} (pieces : List (Piece N)) (m : Mark) (l : List ℕ) → All (λ (q : Piece N). IsZero q.weight → ⊥) pieces → IsKnown pieces m → AtMost (plus l (mark_weight pieces m)) l → m ≡ Loss
no_room-loss pieces Loss l heavy known fits = refl
no_room-loss {N} pieces (Carries p) l heavy known fits =
    let weight_of : Piece N → List ℕ = λ q. q.weight in
    let all : All (λ (w : List ℕ). IsZero w → ⊥) (map weight_of pieces) = All-map (λ (w : List ℕ). IsZero w → ⊥) weight_of pieces heavy in
    let within : p - 1 < length (map weight_of pieces) = omega (arith, known.0, known.1, length-map pieces weight_of) in
    absurd (All-get_or (λ (w : List ℕ). IsZero w → ⊥) (map weight_of pieces) (p - 1) [] within all (λ d. omega (arith, fits d, get_or-plus l (mark_weight pieces (Carries p)) d)))

-- one list of different labels
module _ (labels distinct : List (List ℕ)) (are : AreDistinct labels distinct) where
  pub nodes-before : (v w : ℕ) → 1 ≤ v → v < w → w ≤ length distinct → Before (label_of distinct v) (label_of distinct w)
  nodes-before v w low lt high = let first : v - 1 < w - 1 = omega arith in let last : w - 1 < length distinct = omega arith in are.ordered (v - 1) (w - 1) [] first last

  pub node-into : (v : ℕ) → 1 ≤ v → v ≤ length labels → (w : ℕ) × IsMergedInto labels distinct v w
  node-into v low high =
      let at = label-node distinct (label_of labels v) ((are.exact (label_of labels v)).1 (label-contains labels v low high)) in
      (at.0, record { first = at.1; last = at.2; label = at.3 })

  -- each node is made of some
  pub node-from : (w : ℕ) → 1 ≤ w → w ≤ length distinct → (v : ℕ) × (1 ≤ v) × (v ≤ length labels) × IsMergedInto labels distinct v w
  node-from w low high =
      let from = label-node labels (label_of distinct w) ((are.exact (label_of distinct w)).0 (label-contains distinct w low high)) in
      (from.0, from.1, from.2, record { first = low; last = high; label = sym from.3 })

  -- and into one only
  pub node-one : (v w x : ℕ) → IsMergedInto labels distinct v w → IsMergedInto labels distinct v x → w ≡ x
  node-one v w x one two =
      let same : label_of distinct w ≡ label_of distinct x = one.label ∙ sym two.label in
      ⊎_elim
      (λ e. e)
      (λ apart. ⊎_elim
      (λ lt. absurd (never_before_itself (label_of distinct x) (subst (λ (l : List ℕ). Before l (label_of distinct x)) same (nodes-before w x one.first lt two.last))))
      (λ gt. absurd (never_before_itself (label_of distinct x) (subst (λ (l : List ℕ). Before (label_of distinct x) l) same (nodes-before x w two.first gt one.last))))
      apart)
      (cases_order w x)

-- the new labels of a graph
module _ {N : ℕ} (g : GraphValue N) (labels distinct : List (List ℕ)) (is : IsGraph N g) (new : IsLabelling g labels) (are : AreDistinct labels distinct) where
  pub arc-ends : (e : GraphArc) → Contains g.arcs e → (1 ≤ e.tail) × (e.tail < e.head) × (e.head ≤ length g.labels)
  arc-ends e h = All-contains (λ (e : GraphArc). (1 ≤ e.tail) × (e.tail < e.head) × (e.head ≤ length g.labels)) g.arcs e is.climbs h

  pub arc-rises : (e : GraphArc) → Contains g.arcs e → AtMost (plus (label_of labels e.tail) (mark_weight g.pieces e.mark)) (label_of labels e.head)
  arc-rises e h = All-contains (λ (e : GraphArc). AtMost (plus (label_of labels e.tail) (mark_weight g.pieces e.mark)) (label_of labels e.head)) g.arcs e new.rises h

  pub arc-known : (e : GraphArc) → Contains g.arcs e → IsKnown g.pieces e.mark
  arc-known e h = All-contains (λ (e : GraphArc). IsKnown g.pieces e.mark) g.arcs e is.known h

  pub into : (v : ℕ) → 1 ≤ v → v ≤ length g.labels → (w : ℕ) × IsMergedInto labels distinct v w
  into v low high = node-into labels distinct are v low (omega (arith, new.count))

  pub from : (w : ℕ) → 1 ≤ w → w ≤ length distinct → (v : ℕ) × (1 ≤ v) × (v ≤ length g.labels) × IsMergedInto labels distinct v w
  from w low high = let v = node-from labels distinct are w low high in (v.0, v.1, omega (arith, new.count, v.2), v.3)

  pub path-rises : (path : List GraphArc) (a b : ℕ) → IsPath g.arcs a b path → AtMost (label_of labels a) (label_of labels b)
  path-rises [] a b h d = let e : get_or (label_of labels a) d 0 ≡ get_or (label_of labels b) d 0 = ap (λ (v : ℕ). get_or (label_of labels v) d 0) h in omega arith
  path-rises (e ∷ path) a b h d =
      let rest = path-rises path e.head b h.2 d in
      let rises = arc-rises e h.0 d in
      let same : get_or (label_of labels e.tail) d 0 ≡ get_or (label_of labels a) d 0 = ap (λ (v : ℕ). get_or (label_of labels v) d 0) h.1 in
      omega (arith, rest, rises, same, get_or-plus (label_of labels e.tail) (mark_weight g.pieces e.mark) d)

  pub node-sized : (w : ℕ) → 1 ≤ w → w ≤ length distinct → length (label_of distinct w) ≡ N
  node-sized w low high = All-contains (λ (l : List ℕ). length l ≡ N) labels (label_of distinct w) new.sized ((are.exact (label_of distinct w)).0 (label-contains distinct w low high))

  -- no label is above another one and before it
  pub not_after : (v w : ℕ) → 1 ≤ v → v < w → w ≤ length distinct → AtMost (label_of distinct w) (label_of distinct v) → ⊥
  not_after v w low lt high fits =
      let first : 1 ≤ w = omega arith in
      let last : v ≤ length distinct = omega arith in
      at_most-not_after (label_of distinct w) (label_of distinct v) (node-sized w first high ∙ sym (node-sized v low last)) fits (nodes-before labels distinct are v w low lt high)

  -- the first node is merged into the first, and the last into the last
  pub first-is : (w : ℕ) → IsMergedInto labels distinct 1 w → w ≡ 1
  first-is w merged =
      ⊎_elim
      (λ lt.
      let v = from 1 (omega arith) (omega (arith, merged.last)) in
      let path = on_path N g is v.0 v.1 v.2 in
      let rises = path-rises path.before 1 v.0 path.comes in
      let same : label_of distinct 1 ≡ label_of labels v.0 = v.3.label in
      absurd (not_after 1 w (omega arith) lt merged.last (rw (merged.label, same) rises)))
      (λ ge. omega (arith, merged.first))
      (cases_lt 1 w)

  pub last-is : (w : ℕ) → IsMergedInto labels distinct (length g.labels) w → w ≡ length distinct
  last-is w merged =
      ⊎_elim
      (λ lt.
      let v = from (length distinct) (omega (arith, merged.first)) (omega arith) in
      let path = on_path N g is v.0 v.1 v.2 in
      let rises = path-rises path.after v.0 (length g.labels) path.goes in
      let same : label_of distinct (length distinct) ≡ label_of labels v.0 = v.3.label in
      absurd (not_after w (length distinct) merged.first lt (omega arith) (rw (merged.label, same) rises)))
      (λ ge. omega (arith, merged.last))
      (cases_lt w (length distinct))

  -- an arc whose ends are merged into one node carries nothing
  pub merged-loss : (e : GraphArc) → Contains g.arcs e → (v : ℕ) → IsMergedInto labels distinct e.tail v → IsMergedInto labels distinct e.head v → e.mark ≡ Loss
  merged-loss e h v one two =
      let same : label_of labels e.tail ≡ label_of labels e.head = sym one.label ∙ two.label in
      let rises : AtMost (plus (label_of labels e.tail) (mark_weight g.pieces e.mark)) (label_of labels e.tail) = rw same (rw same at (arc-rises e h)) in
      no_room-loss g.pieces e.mark (label_of labels e.tail) is.heavy (arc-known e h) rises

  -- each arc is left out or becomes one
  pub arc-becomes : (e : GraphArc) → Contains g.arcs e → (v w : ℕ) → IsMergedInto labels distinct e.tail v → IsMergedInto labels distinct e.head w → ((v ≡ w) × (e.mark ≡ Loss)) ⊎ BecomesArc labels distinct e (record { tail = v; head = w; mark = e.mark })
  arc-becomes e h v w one two =
      ⊎_elim
      (λ same. inl (same, merged-loss e h v one (subst (λ (u : ℕ). IsMergedInto labels distinct e.head u) (sym same) two)))
      (λ apart. inr (record {
        tail = one;
        head = two;
        mark = refl;
        kept = λ loop. ⊎_elim (λ lt. omega (arith, loop.1)) (λ gt. omega (arith, loop.1)) apart;
      }))
      (cases_order v w)

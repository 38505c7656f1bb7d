-- Ways are unique, and grow along arcs that carry something.
use Rattle.std.proofs.Common.{◌≡◌, ℕ, ◌+◌, ◌-◌, ◌<◌, ◌≤◌, ◌⊎◌, Ordering, Option, Some, None, List, [], ◌∷◌, ◌++◌, length, get_or, map, refl, sym, ap, ◌∙◌, inl, inr, ⊎_elim, arith}
use Rattle.std.specs.Prelude.{All, Contains}
use Rattle.std.specs.Ordering.{nat_cmp}
use Rattle.std.specs.declared.cmp.Ordering.TheVariants.{Less, Equal, Greater}
use Rattle.std.specs.Cmp.Lexicographic.{slice_cmp}
use Rattle.std.proofs.lemmas.Cmp.{tied_itself, nat_list_cmp_total}
use Rattle.std.proofs.lemmas.Bool.{cases_lt}
use Rattle.std.proofs.lemmas.List.{ext_get_or, get_or_past, length-map}
use Rattle.std.proofs.lemmas.List.Elements.{All-map}
use Rattle.arc_num.proofs.Orders.{number_equal, list_equal}
use Rattle.weight_vec.specs.Weight.{AtMost, Before, IsZero}
use Rattle.weight_vec.proofs.Orders.{at_most-before}
use Rattle.label_graph.specs.declared.parts.GraphArc.{GraphArc}
use Rattle.label_graph.specs.declared.parts.Piece.{Piece}
use Rattle.label_graph.specs.declared.parts.Mark.{Mark}
use Rattle.label_graph.specs.declared.parts.Mark.TheVariants.{Loss, Piece as Carries}
use Rattle.label_graph.specs.Graph.{IsKnown, mark_weight}
use Rattle.label_graph.proofs.Paths.{IsPath-append, weight-append}
use Rattle.joint_graph.specs.Joints.{JointValue, IsJoint}
use Rattle.joint_graph.specs.Ways.{AreHeaviest, IsWay}
use Rattle.joint_graph.specs.inner.Classes.{IsUnder, WayBefore}

-- equal, or the second stands before
pub at-most-cases : (xs ys : List ℕ) → length xs ≡ length ys → AtMost xs ys → (xs ≡ ys) ⊎ Before xs ys
at-most-cases xs ys sized most = on (slice_cmp nat_cmp xs ys) refl
  where
    on : (o : Ordering) → slice_cmp nat_cmp xs ys ≡ o → (xs ≡ ys) ⊎ Before xs ys
    on Less e = inr e
    on Equal e = inl (list_equal nat_cmp number_equal xs ys e)
    on Greater e = inr (at_most-before xs ys sized most (λ same.
        let less : slice_cmp nat_cmp xs ys ≡ slice_cmp nat_cmp ys ys = ap (λ (l : List ℕ). slice_cmp nat_cmp l ys) same in
        let bad : Greater ≡ Equal = sym e ∙ less ∙ tied_itself nat_list_cmp_total ys in cc))

module _ {N : ℕ} (pieces : List (Piece N)) (arcs : List GraphArc) (a b : ℕ) where
  pub heaviest-one : (x y : List ℕ) → AreHeaviest pieces arcs a b x → AreHeaviest pieces arcs a b y → x ≡ y
  heaviest-one x y one two =
      ext_get_or 0 x y (one.sized ∙ sym two.sized) (λ d lt.
      let p = one.each d in
      let q = two.each d in
      omega (arith, p.weighs, q.weighs, p.most q.path q.leads, q.most p.path p.leads))

  pub way-one : (x y : Option (List ℕ)) → IsWay pieces arcs a b x → IsWay pieces arcs a b y → x ≡ y
  way-one None None one two = refl
  way-one None (Some y) one two = let p = two.each 0 in absurd (one p.path p.leads)
  way-one (Some x) None one two = let p = one.each 0 in absurd (two p.path p.leads)
  way-one (Some x) (Some y) one two = ap Some (heaviest-one x y one two)

module _ {N : ℕ} (pieces : List (Piece N)) (arcs : List GraphArc) where
  -- a way on behind an arc is under the way on before it
  pub way-under : (e : GraphArc) (b : ℕ) (above under : Option (List ℕ)) → Contains arcs e → IsWay pieces arcs e.tail b above → IsWay pieces arcs e.head b under → IsUnder under above
  way-under e b above None m one two = tt
  way-under e b None (Some under) m one two = let p = two.each 0 in one (e ∷ p.path) (m, refl, p.leads)
  way-under e b (Some above) (Some under) m one two =
      λ d. let p = two.each d in omega (arith, p.weighs, (one.each d).most (e ∷ p.path) (m, refl, p.leads))

  -- where both are equal the arc carries nothing
  pub way-carries : (e : GraphArc) (b d : ℕ) (way : List ℕ) → Contains arcs e → AreHeaviest pieces arcs e.tail b way → AreHeaviest pieces arcs e.head b way → get_or (mark_weight pieces e.mark) d 0 ≡ 0
  way-carries e b d way m one two =
      let p = two.each d in
      omega (arith, p.weighs, (one.each d).most (e ∷ p.path) (m, refl, p.leads))

  -- so much comes to the head of an arc at least
  pub way-arrives : (e : GraphArc) (a d : ℕ) (before behind : List ℕ) → Contains arcs e → AreHeaviest pieces arcs a e.tail before → AreHeaviest pieces arcs a e.head behind → get_or before d 0 + get_or (mark_weight pieces e.mark) d 0 ≤ get_or behind d 0
  way-arrives e a d before behind m one two =
      let p = one.each d in
      omega (arith, p.weighs, weight-append pieces d p.path (e ∷ []), (two.each d).most (p.path ++ e ∷ []) (IsPath-append arcs a e.tail e.head p.path (e ∷ []) p.leads (m, refl, refl)))

-- ways are equal, or the one above comes first
pub under-cases : (N : ℕ) (above under : Option (List ℕ)) → ((x : List ℕ) → above ≡ Some x → length x ≡ N) → ((y : List ℕ) → under ≡ Some y → length y ≡ N) → IsUnder under above → (above ≡ under) ⊎ WayBefore above under
under-cases N None None one two is = inl refl
under-cases N (Some x) None one two is = inr tt
under-cases N None (Some y) one two is = absurd is
under-cases N (Some x) (Some y) one two is =
    ⊎_elim (λ same. inl (ap Some (sym same))) (λ before. inr before) (at-most-cases y x (two y refl ∙ sym (one x refl)) is)

-- what a mark carries has no more places than the pieces
pub mark-narrow : {N : ℕ} (pieces : List (Piece N)) → All (λ (q : Piece N). length q.weight ≡ N) pieces → (m : Mark) → length (mark_weight pieces m) ≤ N
mark-narrow pieces sized Loss = omega arith
mark-narrow {N} pieces sized (Carries p) =
    let weights : List (List ℕ) = map (λ (q : Piece N). q.weight) pieces in
    ⊎_elim
    (λ lt. let here : length (get_or weights (p - 1) []) ≡ N = All-map (λ (l : List ℕ). length l ≡ N) (λ (q : Piece N). q.weight) pieces sized (p - 1) [] lt in omega arith)
    (λ past. let none : length (get_or weights (p - 1) []) ≡ 0 = ap length (get_or_past weights (p - 1) [] past) in omega arith)
    (cases_lt (p - 1) (length weights))

module _ (N : ℕ) (g : JointValue N) (is : IsJoint N g) where
  -- a mark that carries nothing is loss
  pub loss-only : (m : Mark) → IsKnown g.pieces m → ((d : ℕ) → get_or (mark_weight g.pieces m) d 0 ≡ 0) → m ≡ Loss
  loss-only Loss known nothing = refl
  loss-only (Carries p) known nothing =
      let weights : List (List ℕ) = map (λ (q : Piece N). q.weight) g.pieces in
      let lt : p - 1 < length weights = omega (arith, known.0, known.1, length-map g.pieces (λ (q : Piece N). q.weight)) in
      absurd (All-map (λ (l : List ℕ). IsZero l → ⊥) (λ (q : Piece N). q.weight) g.pieces is.heavy (p - 1) [] lt nothing)

  pub carried-narrow : (m : Mark) → length (mark_weight g.pieces m) ≤ N
  carried-narrow m = mark-narrow g.pieces is.pieces_sized m

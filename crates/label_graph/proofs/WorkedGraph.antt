-- The worked graph is a graph.
use Rattle.std.proofs.Common.{◌≡◌, ℕ, zero, suc, ◌^◌, ◌<◌, ◌≤◌, List, [], ◌∷◌, length, refl, inl, inr, ⊎_elim, arith}
use Rattle.std.specs.Prelude.{AllPairs}
use Rattle.std.proofs.lemmas.Bool.{cases_lt}
use Rattle.std.proofs.lemmas.List.Elements.{All-from_recursion}
use Rattle.weight_vec.specs.Weight.{AtMost, IsInRange, IsZero, plus}
use Rattle.label_graph.specs.declared.parts.Piece.{Piece}
use Rattle.label_graph.specs.declared.parts.Mark.TheVariants.{Loss, Piece as Carries}
use Rattle.label_graph.specs.declared.parts.GraphArc.{GraphArc}
use Rattle.label_graph.specs.Graph.{IsGraph, IsKnown, ArcBefore, label_of, mark_weight}
use Rattle.label_graph.specs.Worked.{two_pieces}
use Rattle.label_graph.proofs.InOrder.{pairs-none, pairs-cons}

in_range : (x : ℕ) → x < 2 ^ 32 → IsInRange (x ∷ [])
in_range x h zero = h
in_range x h (suc d) = omega arith

at_most : (x y : ℕ) → x ≤ y → AtMost (x ∷ []) (y ∷ [])
at_most x y h zero = h
at_most x y h (suc d) = omega arith

heavy : (x : ℕ) → 1 ≤ x → IsZero (x ∷ []) → ⊥
heavy x h none = let bad : x ≡ 0 = none 0 in omega arith

abbrev one : GraphArc
one = record { tail = 1; head = 2; mark = Loss }

abbrev two : GraphArc
two = record { tail = 1; head = 3; mark = Carries 1 }

abbrev three : GraphArc
three = record { tail = 2; head = 3; mark = Loss }

abbrev four : GraphArc
four = record { tail = 2; head = 3; mark = Carries 2 }

in_order : AllPairs ArcBefore two_pieces.arcs
in_order =
    pairs-cons ArcBefore one (two ∷ three ∷ four ∷ []) (All-from_recursion (ArcBefore one) (two ∷ three ∷ four ∷ []) (inr (refl, inl (omega arith)), (inl (omega arith), (inl (omega arith), tt))))
    (pairs-cons ArcBefore two (three ∷ four ∷ []) (All-from_recursion (ArcBefore two) (three ∷ four ∷ []) (inl (omega arith), (inl (omega arith), tt)))
    (pairs-cons ArcBefore three (four ∷ []) (All-from_recursion (ArcBefore three) (four ∷ []) (inr (refl, inr (refl, tt)), tt))
    (pairs-cons ArcBefore four [] (All-from_recursion (ArcBefore four) [] tt) (pairs-none ArcBefore))))

pub two_pieces-graph : IsGraph 1 two_pieces
two_pieces-graph = record {
  small = omega arith;
  source = omega arith;
  sized = All-from_recursion (λ (l : List ℕ). length l ≡ 1) two_pieces.labels (refl, (refl, (refl, tt)));
  ranged = All-from_recursion (λ (l : List ℕ). IsInRange l) two_pieces.labels (in_range 4 (omega arith), (in_range 5 (omega arith), (in_range 10 (omega arith), tt)));
  pieces_sized = All-from_recursion (λ (q : Piece 1). length q.weight ≡ 1) two_pieces.pieces (refl, (refl, tt));
  pieces_ranged = All-from_recursion (λ (q : Piece 1). IsInRange q.weight) two_pieces.pieces (in_range 6 (omega arith), (in_range 5 (omega arith), tt));
  heavy = All-from_recursion (λ (q : Piece 1). IsZero q.weight → ⊥) two_pieces.pieces (heavy 6 (omega arith), (heavy 5 (omega arith), tt));
  ordered = in_order;
  climbs = All-from_recursion (λ (e : GraphArc). (1 ≤ e.tail) × (e.tail < e.head) × (e.head ≤ length two_pieces.labels)) two_pieces.arcs ((omega arith, omega arith, omega arith), ((omega arith, omega arith, omega arith), ((omega arith, omega arith, omega arith), ((omega arith, omega arith, omega arith), tt))));
  known = All-from_recursion (λ (e : GraphArc). IsKnown two_pieces.pieces e.mark) two_pieces.arcs (tt, ((omega arith, omega arith), (tt, ((omega arith, omega arith), tt))));
  rises = All-from_recursion (λ (e : GraphArc). AtMost (plus (label_of two_pieces.labels e.tail) (mark_weight two_pieces.pieces e.mark)) (label_of two_pieces.labels e.head)) two_pieces.arcs (at_most 4 5 (omega arith), (at_most 10 10 (omega arith), (at_most 5 10 (omega arith), (at_most 10 10 (omega arith), tt))));
  leaves = λ v low high. ⊎_elim (λ lt. (one, (0, omega arith, refl), omega arith)) (λ ge. (three, (2, omega arith, refl), omega arith)) (cases_lt v 2);
  enters = λ v low high. ⊎_elim (λ lt. (one, (0, omega arith, refl), omega arith)) (λ ge. (two, (1, omega arith, refl), omega arith)) (cases_lt v 3);
}

-- Each list of pieces has a level graph: the states at a piece come in rounds, each with one copy more.
use Rattle.std.proofs.Common.{◌≡◌, ℕ, zero, suc, ◌+◌, ◌-◌, ◌<◌, ◌≤◌, ◌↔◌, List, [], ◌∷◌, ◌++◌, length, get_or, map, replicate, Option, Some, None, refl, sym, ap, ◌∙◌, subst, ⊎_elim, arith, append-nil}
use Rattle.std.specs.Prelude.{Contains, All, AllPairs}
use Rattle.std.specs.List.{filter_map, cons_option}
use Rattle.std.proofs.lemmas.List.{length-replicate}
use Rattle.std.proofs.lemmas.List.Elements.{Contains-get_or, Contains-append_cases, filter_map-append}
use Rattle.weight_vec.specs.Weight.{Before}
use Rattle.weight_vec.proofs.Places.{length-plus}
use Rattle.label_graph.specs.declared.parts.Piece.{Piece}
use Rattle.label_graph.specs.Graph.{GraphValue}
use Rattle.label_graph.proofs.InOrder.{pairs-none, pairs-cons, first-before, rest-up, in_order, before-trans, before-compare}
use Rattle.level_graph.specs.declared.states.State.{State}
use Rattle.level_graph.specs.Levels.{IsPieceList, IsLevelGraph, StateBefore}
use Rattle.level_graph.specs.LevelLaws.{AreWeighed, LevelGraphsExist}
use Rattle.level_graph.specs.inner.Layers.{taken, entered, IsLayer, AreWeights}
use Rattle.level_graph.proofs.Counting.{Counted, counted-start, counted-more, counted-end, piece_there}
use Rattle.level_graph.proofs.LayerSteps.{entry, entered-ordered}
use Rattle.level_graph.proofs.Members.{contains_cons, contains_here, contains_there, contains_nothing, from_filter_map, contains_map, from_map}
use Rattle.level_graph.proofs.SoFar.{all_pairs-append}
use Rattle.level_graph.proofs.StateOrder.{before-copies}
use Rattle.level_graph.proofs.Takes.{taken-is, taken-keeps_order}

no_members : {X : Type 0} (xs : List X) → ((x : X) → Contains xs x → ⊥) → xs ≡ []
no_members [] none = refl
no_members (x ∷ xs) none = absurd (none x (contains_here x xs))

taken-never : {N : ℕ} (piece : Piece N) (room : List ℕ) (s : State N) → piece.copies ≤ s.copies → (t : State N) → taken piece room s ≡ Some t → ⊥
taken-never piece room s full t gives = let is = taken-is piece room s t gives in omega (arith, is.0)

module _ {N : ℕ} (number : ℕ) (piece : Piece N) (room : List ℕ) (weight_sized : length piece.weight ≡ N) where
  abbrev next : List (State N) → List (State N)
  next front = filter_map (taken piece room) front

  -- the states with a number of copies, and those with up to n more
  abbrev rounds : ℕ → List (State N) → List (State N)
  rounds zero front = front
  rounds (suc n) front = front ++ rounds n (next front)

  -- states at the piece with so many copies, in order
  record IsRound (copies : ℕ) (front : List (State N)) : Type 0 where
    ordered : AllPairs StateBefore front
    each : (s : State N) → Contains front s → (s.piece ≡ number) × (s.copies ≡ copies) × (length s.used ≡ N)

  rest-round : (copies : ℕ) (s : State N) (front : List (State N)) → IsRound copies (s ∷ front) → IsRound copies front
  rest-round copies s front is = record { ordered = rest-up StateBefore s front is.ordered; each = λ t m. is.each t (contains_there s front t m) }

  ordered-option : (o : Option (State N)) (rest : List (State N)) → AllPairs StateBefore rest → ((t : State N) → o ≡ Some t → (u : State N) → Contains rest u → StateBefore t u) → AllPairs StateBefore (cons_option o rest)
  ordered-option None rest up first = up
  ordered-option (Some t) rest up first = pairs-cons StateBefore t rest (λ k d lt. first t refl (get_or rest k d) (Contains-get_or rest k d lt)) up

  next-ordered : (copies : ℕ) (front : List (State N)) → IsRound copies front → AllPairs StateBefore (next front)
  next-ordered copies [] is = pairs-none StateBefore
  next-ordered copies (s ∷ front) is =
      ordered-option (taken piece room s) (next front) (next-ordered copies front (rest-round copies s front is))
      (λ t gives u m.
      let from = from_filter_map (taken piece room) front u m in
      let here = is.each s (contains_here s front) in
      let there = is.each from.0 (contains_there s front from.0 from.1) in
      taken-keeps_order piece room s from.0 t u (here.0 ∙ sym there.0) here.2 there.2 weight_sized gives from.2 (first-before StateBefore s front from.0 is.ordered from.1))

  next-round : (copies : ℕ) (front : List (State N)) → IsRound copies front → IsRound (copies + 1) (next front)
  next-round copies front is = record {
    ordered = next-ordered copies front is;
    each = λ t m.
        let from = from_filter_map (taken piece room) front t m in
        let here = is.each from.0 from.1 in
        let made = taken-is piece room from.0 t from.2 in (
          ap (λ (z : State N). z.piece) made.2 ∙ here.0,
          ap (λ (z : State N). z.copies) made.2 ∙ ap (λ (n : ℕ). n + 1) here.1,
          ap (λ (z : State N). length z.used) made.2 ∙ (length-plus from.0.used piece.weight (here.2 ∙ sym weight_sized) ∙ here.2),
        );
  }

  rounds-each : (n copies : ℕ) (front : List (State N)) → IsRound copies front → (s : State N) → Contains (rounds n front) s → (s.piece ≡ number) × (copies ≤ s.copies) × (length s.used ≡ N)
  rounds-each zero copies front is s m = let here = is.each s m in (here.0, omega (arith, here.1), here.2)
  rounds-each (suc n) copies front is s m =
      ⊎_elim
      (λ early. let here = is.each s early in (here.0, omega (arith, here.1), here.2))
      (λ late. let there = rounds-each n (copies + 1) (next front) (next-round copies front is) s late in (there.0, omega (arith, there.1), there.2))
      (Contains-append_cases front (rounds n (next front)) s m)

  rounds-ordered : (n copies : ℕ) (front : List (State N)) → IsRound copies front → AllPairs StateBefore (rounds n front)
  rounds-ordered zero copies front is = is.ordered
  rounds-ordered (suc n) copies front is =
      let after = next-round copies front is in
      all_pairs-append StateBefore front (rounds n (next front)) is.ordered (rounds-ordered n (copies + 1) (next front) after)
      (λ s t early late.
      let here = is.each s early in
      let there = rounds-each n (copies + 1) (next front) after t late in
      before-copies s t (here.0 ∙ sym there.0) (omega (arith, here.1, there.1)))

  rounds-whole : (n copies : ℕ) (front : List (State N)) → IsRound copies front → piece.copies ≤ copies + n → rounds n front ≡ front ++ next (rounds n front)
  rounds-whole zero copies front is all =
      let none : next front ≡ [] = no_members (next front) (λ t m.
      let from = from_filter_map (taken piece room) front t m in
      taken-never piece room from.0 (omega (arith, all, (is.each from.0 from.1).1)) t from.2) in
      sym (ap (λ (ss : List (State N)). front ++ ss) none ∙ append-nil front)
  rounds-whole (suc n) copies front is all =
      let later = rounds n (next front) in
      let rest : later ≡ next front ++ next later = rounds-whole n (copies + 1) (next front) (next-round copies front is) (omega arith) in
      let both : next (front ++ later) ≡ next front ++ next later = filter_map-append (taken piece room) front later in
      ap (λ (ss : List (State N)). front ++ ss) (rest ∙ sym both)

  -- the states at the piece, from the weights that enter it
  layer_exists : (entering : List (List ℕ)) → AllPairs Before entering → ((x : List ℕ) → Contains entering x → length x ≡ N) → (layer : List (State N)) × IsLayer number piece room entering layer
  layer_exists entering up sized =
      let front = entered {N = N} number entering in
      let is : IsRound 0 front = record {
        ordered = entered-ordered {N = N} number entering up;
        each = λ s m.
            let from = from_map (entry {N = N} number) entering s m in (
              sym (ap (λ (z : State N). z.piece) from.2),
              sym (ap (λ (z : State N). z.copies) from.2),
              sym (ap (λ (z : State N). length z.used) from.2) ∙ sized from.0 from.1,
            );
      } in
      let layer = rounds piece.copies front in (
        layer,
        record {
          ordered = rounds-ordered piece.copies 0 front is;
          sized = λ k d lt. (rounds-each piece.copies 0 front is (get_or layer k d) (Contains-get_or layer k d lt)).2;
          here = λ k d lt. (rounds-each piece.copies 0 front is (get_or layer k d) (Contains-get_or layer k d lt)).0;
          whole = rounds-whole piece.copies 0 front is (omega arith);
        },
      )

-- the different weights of some states
weights_exist : {N : ℕ} (layer : List (State N)) → (weights : List (List ℕ)) × AreWeights layer weights
weights_exist {N} layer =
    let used : State N → List ℕ = λ s. s.used in
    let sorted = in_order Before before-trans before-compare (map used layer) in (
      sorted.0,
      record {
        ordered = sorted.1;
        exact = λ x. (
          λ m. from_map used layer x ((sorted.2 x).0 m),
          λ w. (sorted.2 x).1 (subst (λ (y : List ℕ). Contains (map used layer) y) w.2 (contains_map used layer w.0 w.1)),
        );
      },
    )

-- the states at the first pieces, counted, and the weights that enter the next one
record IsCounted {N : ℕ} (pieces : List (Piece N)) (room : List ℕ) (k : ℕ) : Type 0 where
  entering : List (List ℕ)
  nodes : ℕ
  count : ℕ
  counted : Counted pieces room k nodes count entering
  sized : (x : List ℕ) → Contains entering x → length x ≡ N

module _ {N : ℕ} (pieces : List (Piece N)) (room : List ℕ) (weighed : AreWeighed pieces room) where
  counted_exists : (k : ℕ) → k ≤ length pieces → IsCounted pieces room k
  counted_exists zero le = record {
    entering = replicate N 0 ∷ [];
    nodes = 0;
    count = 0;
    counted = counted-start pieces room (replicate N 0) refl;
    sized = λ x m. ⊎_elim (λ same. sym (ap length same) ∙ length-replicate {A = ℕ} N 0) (λ later. absurd (contains_nothing x later)) (contains_cons (replicate N 0) [] x m);
  }
  counted_exists (suc k) le =
      let old = counted_exists k (omega arith) in
      let lt : k < length pieces = omega arith in
      let at = piece_there pieces k lt in
      let piece = at.0 in
      let weight_sized : length piece.weight ≡ N = subst (λ (q : Piece N). length q.weight ≡ N) (sym at.1) (weighed.pieces_sized k piece lt) in
      let one : k + 1 ≡ suc k = omega arith in
      let layer = layer_exists (k + 1) piece room weight_sized old.entering old.counted.so_far.entering_ordered old.sized in
      let weights = weights_exist layer.0 in
      let more = counted-more pieces room k old.nodes old.count piece old.entering weights.0 layer.0 lt at.1 old.counted layer.1 weights.1 in
      record {
        entering = weights.0;
        nodes = old.nodes + length layer.0;
        count = old.count + (length layer.0 - length old.entering);
        counted = subst (λ (n : ℕ). Counted pieces room n (old.nodes + length layer.0) (old.count + (length layer.0 - length old.entering)) weights.0) one more;
        sized = λ x m.
            let from = (weights.1.exact x).0 m in
            let there : Contains layer.0 from.0 = from.1 in
            subst (λ (y : List ℕ). length y ≡ N) from.2 (subst (λ (s : State N). length s.used ≡ N) there.2 (layer.1.sized there.0 from.0 there.1));
      }

pub levels_exist : LevelGraphsExist
levels_exist N pieces room are weighed =
    let all = counted_exists pieces room weighed (length pieces) (omega arith) in
    let counted = counted-end pieces room all.nodes all.count all.entering all.counted in
    let used : State N → List ℕ = λ s. s.used in
    let g : GraphValue N = record { pieces = pieces; labels = map used counted.state_list; arcs = counted.arc_list } in
    (g, record { states = counted.state_list; levels = counted.levels; pieces_are = refl; labels_are = refl })

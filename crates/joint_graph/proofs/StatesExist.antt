-- There is a list of the states that are reached: at each piece those that enter it, and round by round those with one
-- copy more.
use Rattle.std.proofs.Common.{◌≡◌, ℕ, zero, suc, ◌+◌, ◌≤◌, Option, Some, None, List, [], ◌∷◌, ◌++◌, length, refl, sym, ap, ◌∙◌, subst, ⊎_elim, arith}
use Rattle.std.specs.Prelude.{Contains}
use Rattle.std.specs.List.{filter_map}
use Rattle.std.proofs.lemmas.Bool.{cases_lt}
use Rattle.std.proofs.lemmas.Map.Keys.{sorted_from_all_adjacent}
use Rattle.std.proofs.lemmas.List.Elements.{Contains-append_left, Contains-append_right, Contains-append_cases}
use Rattle.weight_vec.specs.Weight.{plus}
use Rattle.label_graph.specs.declared.parts.Piece.{Piece}
use Rattle.label_graph.specs.declared.parts.Mark.{Mark}
use Rattle.label_graph.specs.declared.parts.Mark.TheVariants.{Loss, Piece as Carries}
use Rattle.label_graph.specs.Graph.{piece_weight}
use Rattle.label_graph.proofs.InOrder.{in_order}
use Rattle.label_graph.proofs.Members.{contains_cons, contains_here, contains_nothing}
use Rattle.level_graph.specs.Levels.{piece_copies}
use Rattle.joint_graph.specs.declared.states.State.{State}
use Rattle.joint_graph.specs.JointLevels.{Step, ReachedIn, IsReached, StateBefore, source}
use Rattle.joint_graph.specs.inner.Pushes.{Follows, AreStates}
use Rattle.joint_graph.proofs.Decisions.{told-fits}
use Rattle.joint_graph.proofs.FoundStates.{follows-step, step-follows, reached-step}
use Rattle.joint_graph.proofs.MergedNodes.{to_filter_map, from_filter_map}
use Rattle.joint_graph.proofs.StateOrders.{state-total, state-compare}

module _ {N : ℕ} (pieces : List (Piece N)) (caps : List (List ℕ)) where
  -- what follows by a take, and what by a skip
  pub taken : (s : State N) → (o : Option (State N)) × Follows pieces caps s (Carries s.piece) o
  taken s =
      ⊎_elim
      (λ past. (None, λ t step. omega (arith, step.1)))
      (λ there. ⊎_elim
      (λ more. ⊎_elim
      (λ fits. (Some (record { piece = s.piece; copies = s.copies + 1; used = plus s.used (piece_weight pieces s.piece) }), (refl, there, more, fits, refl)))
      (λ never. (None, λ t step. never step.3))
      (told-fits caps (plus s.used (piece_weight pieces s.piece))))
      (λ spent. (None, λ t step. omega (arith, step.2)))
      (cases_lt s.copies (piece_copies pieces s.piece)))
      (cases_lt (length pieces) s.piece)

  pub skipped : (s : State N) → (o : Option (State N)) × Follows pieces caps s Loss o
  skipped s =
      ⊎_elim
      (λ more. (Some (record { piece = s.piece + 1; copies = 0; used = s.used }), (more, refl)))
      (λ last. (None, λ t step. omega (arith, step.0)))
      (cases_lt s.piece (length pieces))

  -- states at a piece, with what follows by takes
  record IsLayer (p : ℕ) (front layer : List (State N)) : Type 0 where
    there : (s : State N) → Contains front s → Contains layer s
    here : (s : State N) → Contains layer s → IsReached pieces caps s × (s.piece ≡ p)
    closed : (s t : State N) (q : ℕ) → Contains layer s → Step pieces caps s (Carries q) t → Contains layer t

  abbrev take_of : State N → Option (State N)
  take_of s = (taken s).0

  layer_exists : (p n copies : ℕ) (front : List (State N)) → ((s : State N) → Contains front s → IsReached pieces caps s × (s.piece ≡ p) × (s.copies ≡ copies)) → piece_copies pieces p ≤ copies + n → (layer : List (State N)) × IsLayer p front layer
  layer_exists p zero copies front are all = (
    front,
    record {
      there = λ s m. m;
      here = λ s m. let at = are s m in (at.0, at.1);
      closed = λ s t q m step.
          let at = are s m in
          let same : piece_copies pieces s.piece ≡ piece_copies pieces p = ap (piece_copies pieces) at.1 in
          absurd (omega (arith, step.2, at.2));
    },
  )
  layer_exists p (suc n) copies front are all =
      let next = filter_map take_of front in
      let next_are : (t : State N) → Contains next t → IsReached pieces caps t × (t.piece ≡ p) × (t.copies ≡ copies + 1) = λ t m.
      let from = from_filter_map take_of front t m in
      let s = from.0 in
      let at = are s from.1 in
      let step = follows-step pieces caps (Carries s.piece) s (take_of s) t (taken s).1 from.2 in
      (reached-step pieces caps s t (Carries s.piece) at.0 step, ap (λ (z : State N). z.piece) step.4 ∙ at.1, ap (λ (z : State N). z.copies) step.4 ∙ ap (λ (k : ℕ). k + 1) at.2) in
      let rest = layer_exists p n (copies + 1) next next_are (omega arith) in (
        front ++ rest.0,
        record {
          there = λ s m. Contains-append_left front rest.0 s m;
          here = λ s m. ⊎_elim (λ early. let at = are s early in (at.0, at.1)) (λ late. rest.1.here s late) (Contains-append_cases front rest.0 s m);
          closed = λ s t q m step. Contains-append_right front rest.0 t (⊎_elim
              (λ early.
              let gives = step-follows pieces caps (Carries s.piece) s (take_of s) t (taken s).1 (refl, step.1, step.2, step.3, step.4) in
              rest.1.there t (to_filter_map take_of front s t early gives))
              (λ late. rest.1.closed s t q late step)
              (Contains-append_cases front rest.0 s m));
        },
      )

  -- states from a piece on, with what follows by takes and skips
  record IsClosed (front found : List (State N)) : Type 0 where
    there : (s : State N) → Contains front s → Contains found s
    here : (s : State N) → Contains found s → IsReached pieces caps s
    closed : (s t : State N) (m : Mark) → Contains found s → Step pieces caps s m t → Contains found t

  closed-by : (p : ℕ) (front layer rest : List (State N)) → IsLayer p front layer → ((s t : State N) → Contains layer s → Step pieces caps s Loss t → Contains rest t) → ((s : State N) → Contains rest s → IsReached pieces caps s) → ((s t : State N) (m : Mark) → Contains rest s → Step pieces caps s m t → Contains rest t) → IsClosed front (layer ++ rest)
  closed-by p front layer rest is skips reached stays =
      record {
        there = λ s m. Contains-append_left layer rest s (is.there s m);
        here = λ s m. ⊎_elim (λ early. (is.here s early).0) (λ late. reached s late) (Contains-append_cases layer rest s m);
        closed = λ s t m there step. ⊎_elim
            (λ early. on s t m early step)
            (λ late. Contains-append_right layer rest t (stays s t m late step))
            (Contains-append_cases layer rest s there);
      }
    where
      on : (s t : State N) (m : Mark) → Contains layer s → Step pieces caps s m t → Contains (layer ++ rest) t
      on s t (Carries q) early step = Contains-append_left layer rest t (is.closed s t q early step)
      on s t Loss early step = Contains-append_right layer rest t (skips s t early step)

  abbrev skip_of : State N → Option (State N)
  skip_of s = (skipped s).0

  closed_exists : (n p : ℕ) (front : List (State N)) → ((s : State N) → Contains front s → IsReached pieces caps s × (s.piece ≡ p) × (s.copies ≡ 0)) → length pieces ≤ p + n → (found : List (State N)) × IsClosed front found
  closed_exists zero p front are all =
      let layer = layer_exists p (piece_copies pieces p) 0 front are (omega arith) in
      let none : List (State N) = [] in
      (layer.0 ++ none, closed-by p front layer.0 none layer.1 (λ s t m step. absurd (omega (arith, (layer.1.here s m).1, step.0))) (λ s m. absurd (contains_nothing s m)) (λ s t k m step. absurd (contains_nothing s m)))
  closed_exists (suc n) p front are all =
      let layer = layer_exists p (piece_copies pieces p) 0 front are (omega arith) in
      let next = filter_map skip_of layer.0 in
      let next_are : (t : State N) → Contains next t → IsReached pieces caps t × (t.piece ≡ p + 1) × (t.copies ≡ 0) = λ t m.
      let from = from_filter_map skip_of layer.0 t m in
      let s = from.0 in
      let at = layer.1.here s from.1 in
      let step = follows-step pieces caps Loss s (skip_of s) t (skipped s).1 from.2 in
      (reached-step pieces caps s t Loss at.0 step, ap (λ (z : State N). z.piece) step.1 ∙ ap (λ (k : ℕ). k + 1) at.1, ap (λ (z : State N). z.copies) step.1) in
      let rest = closed_exists n (p + 1) next next_are (omega arith) in (
        layer.0 ++ rest.0,
        closed-by p front layer.0 rest.0 layer.1
            (λ s t m step. rest.1.there t (to_filter_map skip_of layer.0 s t m (step-follows pieces caps Loss s (skip_of s) t (skipped s).1 step)))
            rest.1.here rest.1.closed,
      )

  reached-there : (front found : List (State N)) → Contains front (source N) → IsClosed front found → (n : ℕ) (s : State N) → ReachedIn pieces caps n s → Contains found s
  reached-there front found first is zero s h = subst (λ (z : State N). Contains found z) (sym h) (is.there (source N) first)
  reached-there front found first is (suc n) s h = is.closed h.0 s h.2.0 (reached-there front found first is n h.0 h.1) h.2.1

  pub states_exist : (states : List (State N)) × AreStates pieces caps states
  states_exist =
      let front : List (State N) = source N ∷ [] in
      let front_are : (s : State N) → Contains front s → IsReached pieces caps s × (s.piece ≡ 1) × (s.copies ≡ 0) = λ s m. ⊎_elim
      (λ same. ((0, sym same), sym (ap (λ (z : State N). z.piece) same), sym (ap (λ (z : State N). z.copies) same)))
      (λ later. absurd (contains_nothing s later))
      (contains_cons (source N) [] s m) in
      let found = closed_exists (length pieces) 1 front front_are (omega arith) in
      let sorted = in_order StateBefore state-total.trans state-compare found.0 in (
        sorted.0,
        record {
          ordered = sorted_from_all_adjacent state-total sorted.0 (source N) (λ k lt. sorted.1 k (k + 1) (source N) (omega arith) lt);
          reached = λ s. (
            λ m. found.1.here s ((sorted.2 s).0 m),
            λ h. (sorted.2 s).1 (reached-there front found.0 (contains_here (source N) []) found.1 h.0 s h.1),
          );
        },
      )

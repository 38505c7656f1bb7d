-- There is a joint level graph of all pieces and capacities.
use Rattle.std.proofs.Common.{◌≡◌, ℕ, zero, suc, ◌+◌, ◌<◌, ◌≤◌, Option, Some, None, List, [], ◌∷◌, ◌++◌, length, get_or, refl, sym, subst, inl, inr, ⊎_elim, arith}
use Rattle.std.specs.Prelude.{Contains}
use Rattle.std.proofs.lemmas.Bool.{cases_lt}
use Rattle.std.proofs.lemmas.List.{get_or_default}
use Rattle.label_graph.specs.declared.parts.GraphArc.{GraphArc}
use Rattle.label_graph.specs.declared.parts.Piece.{Piece}
use Rattle.label_graph.specs.declared.parts.Mark.{Mark}
use Rattle.label_graph.specs.declared.parts.Mark.TheVariants.{Loss, Piece as Carries}
use Rattle.label_graph.specs.Graph.{ArcBefore}
use Rattle.label_graph.proofs.InOrder.{in_order, arc-trans, arc-compare}
use Rattle.joint_graph.specs.declared.states.State.{State}
use Rattle.joint_graph.specs.Joints.{JointValue}
use Rattle.joint_graph.specs.JointLevels.{AreJointLevels, source}
use Rattle.joint_graph.specs.inner.Pushes.{Appends, AreStates, IsArcTo, IsEndBelow, IsArcFrom, AreArcsBefore}
use Rattle.joint_graph.proofs.Decisions.{told-at_most}
use Rattle.joint_graph.proofs.LevelArcs.{number-at, arc-to, arc-none, ends-first, ends-more, ends-same, ends-all, arcs-from, arcs-none, arcs-more, followed-there, arcs-all}
use Rattle.joint_graph.proofs.StatesExist.{taken, skipped, states_exist}

module _ {N : ℕ} (pieces : List (Piece N)) (caps : List (List ℕ)) (states : List (State N)) (are : AreStates pieces caps states) where
  step_exists : (i : ℕ) (m : Mark) (o : Option (State N)) → ((t : State N) → o ≡ Some t → Contains states t) → (old : List GraphArc) → (new : List GraphArc) × Appends old new (IsArcTo states i m o)
  step_exists i m None there old = (old, arc-none states i m old)
  step_exists i m (Some t) there old =
      let at = there t refl in
      let new : List GraphArc = old ++ record { tail = i + 1; head = at.0 + 1; mark = m } ∷ [] in
      (new, arc-to states i are.ordered m t (at.0 + 1) old new (number-at states at.0 t at.1 (sym at.2)) refl)

  ends_exist : (i : ℕ) (used : List ℕ) (old : List GraphArc) (n : ℕ) → n ≤ length caps → (new : List GraphArc) × Appends old new (IsEndBelow caps (length states) i used n)
  ends_exist i used old zero le = (old, ends-first caps (length states) i used old)
  ends_exist i used old (suc n) le =
      let mid = ends_exist i used old n (omega arith) in
      let lt : n < length caps = omega arith in
      let l : List ℕ = get_or caps n [] in
      let at : l ≡ get_or caps n l = get_or_default caps n [] l lt in
      let next : n + 1 ≡ suc n = omega arith in
      ⊎_elim
      (λ fits.
      let new : List GraphArc = mid.0 ++ record { tail = i + 1; head = length states + n + 1; mark = Loss } ∷ [] in
      (new, subst (λ (k : ℕ). Appends old new (IsEndBelow caps (length states) i used k)) next (ends-more caps (length states) i used old mid.0 new n (length states + n + 1) refl refl lt l at fits mid.1)))
      (λ never. (mid.0, subst (λ (k : ℕ). Appends old mid.0 (IsEndBelow caps (length states) i used k)) next (ends-same caps (length states) i used old mid.0 n lt l at never mid.1)))
      (told-at_most used l)

  from_exists : (i : ℕ) → i < length states → (old : List GraphArc) → (new : List GraphArc) × Appends old new (IsArcFrom pieces caps states i)
  from_exists i lt old =
      let s = get_or states i (source N) in
      let at : s ≡ get_or states i s = get_or_default states i (source N) s lt in
      let one = taken pieces caps s in
      let two = skipped pieces caps s in
      let first = step_exists i (Carries s.piece) one.0 (followed-there pieces caps states are i s lt at (Carries s.piece) one.0 one.1) old in
      let second = step_exists i Loss two.0 (followed-there pieces caps states are i s lt at Loss two.0 two.1) first.0 in
      ⊎_elim
      (λ more. (second.0, arcs-from pieces caps states i s lt at old first.0 second.0 second.0 one.0 two.0 one.1 two.1 first.1 second.1 (inr (more, refl))))
      (λ last.
      let ends = ends_exist i s.used second.0 (length caps) (omega arith) in
      (ends.0, arcs-from pieces caps states i s lt at old first.0 second.0 ends.0 one.0 two.0 one.1 two.1 first.1 second.1 (inl (last, ends-all caps (length states) i s.used second.0 ends.0 (length caps) (omega arith) ends.1))))
      (cases_lt s.piece (length pieces))

  arcs_exist : (n : ℕ) → n ≤ length states → (arcs : List GraphArc) × AreArcsBefore pieces caps states n arcs
  arcs_exist zero le = ([], arcs-none pieces caps states)
  arcs_exist (suc n) le =
      let old = arcs_exist n (omega arith) in
      let new = from_exists n (omega arith) old.0 in
      let next : n + 1 ≡ suc n = omega arith in
      (new.0, subst (λ (k : ℕ). AreArcsBefore pieces caps states k new.0) next (arcs-more pieces caps states n old.0 new.0 old.1 new.1))

pub levels_exist : {N : ℕ} (pieces : List (Piece N)) (caps : List (List ℕ)) → (g : JointValue N) × AreJointLevels pieces caps g
levels_exist {N} pieces caps =
    let states = states_exist pieces caps in
    let arcs = arcs_exist pieces caps states.0 states.1 (length states.0) (omega arith) in
    let sorted = in_order ArcBefore arc-trans arc-compare arcs.0 in (
      record { pieces = pieces; caps = caps; inner = length states.0; arcs = sorted.0 },
      record {
        states = states.0;
        states_ordered = states.1.ordered;
        states_reached = states.1.reached;
        pieces_are = refl;
        caps_are = refl;
        inner_is = refl;
        arcs_ordered = sorted.1;
        arcs_are = arcs-all pieces caps states.0 arcs.0 sorted.0 arcs.1 sorted.2;
      },
    )

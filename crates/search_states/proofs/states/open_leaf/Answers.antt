use Rattle.std.proofs.Common.{◌≡◌, ◌<◌, List, Some, length, subst, sym, arith, ap}
use Rattle.std.specs.Prelude.{slice_get}
use Rattle.cert_text.specs.declared.lines.Claim.{Claim}
use Rattle.search_tree.specs.declared.places.Place.{Place}
use Rattle.search_tree.specs.Trees.{LeavesReach}
use Rattle.search_states.specs.States.{IsOpen}
use Rattle.search_states.proofs.OpenLeaves.{all_closed, open_at, some_weaker}
use Rattle.search_states.proofs.states.open_leaf.Goals as goal

pub returns-clause-some : goal.returns-clause-some
returns-clause-some c =
    let same = c.places-places.ensures in
    some_weaker c.loop-index.open _ _
    (λ i found. open_at c.args.state.now c.goal_of-goal.result c.goal_of-goal.ensures i (subst (λ (ps : List Place). i < length ps) same found.0) (subst (λ (ps : List Place). (p : Place) → slice_get ps i ≡ Some p → IsOpen p c.goal_of-goal.result) same found.1))
    c.loop-index.invariant.found

pub returns-clause-none : goal.returns-clause-none
returns-clause-none c = λ none.
    let same = c.places-places.ensures in
    let past = c.loop-index-test.false in
    let size : length c.places-places.result.now ≡ length c.args.state.now.tree.places = ap (λ (ps : List Place). length ps) same in
    subst (λ (goal : Claim). LeavesReach goal c.args.state.now.tree) c.goal_of-goal.ensures
    (all_closed c.args.state.now c.goal_of-goal.result
    (λ i p within read. c.loop-index.invariant.none none i p (omega (arith, within, past, size)) (subst (λ (ps : List Place). slice_get ps i ≡ Some p) (sym same) read)))

use Rattle.std.proofs.Common.{◌≡◌, ◌∙◌, ⊎_elim, subst, ap, sym, Option, Some, ℕ}
use Rattle.std.specs.Prelude.{IfSome}
use Rattle.search_tree.specs.Trees.{LeavesReach}
use Rattle.search_states.specs.declared.known.Known.{Known}
use Rattle.search_states.specs.States.{IsOpenLeaf, goal_of}
use Rattle.branch_search.proofs.LastStates.{not_closed}
use Rattle.branch_search.proofs.searching.search_placed.Goals as goal

pub open_outcome-requires-clause-splits : goal.open_outcome-requires-clause-splits
open_outcome-requires-clause-splits c =
    let same = c.in_ok-state.ensures.same in
    let leaf : IsOpenLeaf c.in_ok-state.state c.in-Some.index = subst (λ (o : Option ℕ). IfSome o (IsOpenLeaf c.in_ok-state.state)) c.in-Some.is c.open_leaf.ensures.some in
    ⊎_elim
    (λ all. same.splits ∙ all)
    (λ closed. absurd (not_closed c.in_ok-state.state c.in-Some.index leaf
    (subst (λ (k : Option Known). LeavesReach (goal_of k) c.in_ok-state.state.tree) (sym same.best) (same.leaves (goal_of c.in_ok-last.last.best) closed))))
    c.in_ok-last.ensures.all

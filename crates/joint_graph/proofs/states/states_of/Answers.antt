use Rattle.std.proofs.Common.{◌≡◌, List, sym, ◌∙◌, subst}
use Rattle.std.specs.Prelude.{Contains}
use Rattle.joint_graph.specs.declared.states.State.{State}
use Rattle.joint_graph.proofs.FoundStates.{found-all}
use Rattle.joint_graph.proofs.states.states_of.Goals as goal

pub returns : goal.returns
returns g c =
    let copied : c.in_ok-states.states.items ≡ c.in_ok-found.found.keys = c.in_ok-states.ensures.items ∙ c.as_slice.ensures.keys in
    let all = found-all c.args.pieces.now c.args.caps.now c.in_ok-found.found.keys c.in_ok-found.ensures in
    record {
      ordered = c.sort_distinct.ensures.sorted;
      reached = λ s. (
        λ m. (all s).0 (subst (λ (zs : List (State g.row.N)). Contains zs s) copied ((c.sort_distinct.ensures.same s).0 m)),
        λ h. (c.sort_distinct.ensures.same s).1 (subst (λ (zs : List (State g.row.N)). Contains zs s) (sym copied) ((all s).1 h)),
      );
    }

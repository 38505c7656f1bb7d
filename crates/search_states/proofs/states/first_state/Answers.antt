use Rattle.search_states.proofs.FirstStates.{first}
use Rattle.search_states.proofs.states.first_state.Goals as goal

pub returns-clause-state : goal.returns-clause-state
returns-clause-state c =
    let I = c.args.instance.now in
    let g = c.args.graph.now in
    c.keep_need.ensures.state I g c.in_ok-found.ensures.found.need (first I g c.in_ok-root.root _ c.in_ok-found.found c.in_ok-chords.chords c.in_ok-notes.notes c.in_ok-tree.tree c.in_ok-root.ensures c.in_ok-tree.ensures c.in_ok-chords.ensures c.in_ok-found.ensures.found)

use Rattle.std.proofs.Common.{◌≡◌}
use Rattle.search_tree.specs.Trees.{splits_of}
use Rattle.search_states.specs.States.{IsMasterOf, IsState}
use Rattle.branch_search.proofs.searching.grown.Given as goal

abbrev pub invariant-loop-made : goal.invariant-loop-made
invariant-loop-made l = record {
  master : IsMasterOf l.instance l.graph l.master;
  same : l.master ≡ l.fn.master;
  state : IsState l.instance l.graph l.state;
  splits : splits_of l.state.tree.places ≡ l.made;
}

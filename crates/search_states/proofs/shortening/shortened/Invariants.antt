use Rattle.std.proofs.Common.{◌≡◌}
use Rattle.search_states.specs.States.{IsMasterOf, IsRepriced, IsState}
use Rattle.search_states.proofs.shortening.shortened.Given as goal

abbrev pub invariant-loop-index : goal.invariant-loop-index
invariant-loop-index l = record {
  master : IsMasterOf l.instance l.graph l.master;
  same_master : l.master ≡ l.initial.master;
  state : IsState l.instance l.graph l.state;
  same : IsRepriced l.initial.state l.state;
}

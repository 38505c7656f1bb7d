use Rattle.std.proofs.Common.{◌≡◌, length, take}
use Rattle.std.specs.Prelude.{All}
use Rattle.level_graph.specs.declared.states.State.{State}
use Rattle.level_graph.specs.inner.Layers.{entered}
use Rattle.level_graph.proofs.layers.entered_states.Given as goal

abbrev pub invariant-loop-weight : goal.invariant-loop-weight
invariant-loop-weight g l = record {
  items : l.layer.items ≡ entered {N = g.row.N} l.number (take l.weight-index l.entering);
  sized : All (λ (s : State g.row.N). length s.used ≡ g.row.N) l.layer.items;
  here : All (λ (s : State g.row.N). s.piece ≡ l.number) l.layer.items;
}

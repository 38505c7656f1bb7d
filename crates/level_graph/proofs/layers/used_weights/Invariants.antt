use Rattle.std.proofs.Common.{◌≡◌, map, take}
use Rattle.level_graph.specs.declared.states.State.{State}
use Rattle.level_graph.proofs.layers.used_weights.Given as goal

abbrev pub invariant-loop-state : goal.invariant-loop-state
invariant-loop-state g l = l.weights.items ≡ map (λ (s : State g.row.N). s.used) (take l.state-index l.layer)

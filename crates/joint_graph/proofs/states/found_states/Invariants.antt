use Rattle.joint_graph.specs.inner.Pushes.{IsFound}
use Rattle.joint_graph.proofs.states.found_states.Given as goal

abbrev pub invariant-loop-index : goal.invariant-loop-index
invariant-loop-index g l = IsFound l.pieces l.caps l.found.keys l.index

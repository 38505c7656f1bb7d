use Rattle.std.proofs.Common.{◌+◌, ◌-◌}
use Rattle.joint_extract.specs.inner.Circuits.{AreCursors}
use Rattle.joint_extract.proofs.Steps.{IsWalked}
use Rattle.joint_extract.proofs.walks.walk_round.Given as goal

abbrev pub invariant-loop-node : goal.invariant-loop-node
invariant-loop-node l = record {
  walked : IsWalked l.graph l.left l.node l.times l.arcs.items l.counts.items;
  cursors : AreCursors l.graph l.left l.cursors;
}

abbrev pub decreases-loop-node : goal.decreases-loop-node
decreases-loop-node l = l.inner + 1 - l.node

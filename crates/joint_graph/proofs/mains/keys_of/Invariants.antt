use Rattle.std.proofs.Common.{◌≡◌, ℕ, length, get_or, ◌<◌}
use Rattle.joint_graph.specs.declared.mains.Key.{Key}
use Rattle.joint_graph.specs.inner.Classes.{key_of}
use Rattle.joint_graph.proofs.mains.keys_of.Given as goal

abbrev pub invariant-loop-index : goal.invariant-loop-index
invariant-loop-index g l = record {
  count : length l.keys.items ≡ l.index;
  each : (i : ℕ) (d : Key g.row.N) → i < l.index → get_or l.keys.items i d ≡ key_of l.classes l.ways i;
}

-- The bins that wait and those that are done are a packing that costs no more, and those that are done are joined.
use Rattle.std.proofs.Common.{◌≤◌, ◌++◌}
use Rattle.packing_laws.specs.Packings.{cost_of}
use Rattle.packing_laws.specs.Printed.{bins_of, IsWrittenPacking}
use Rattle.packing_laws.specs.inner.Joining.{AreJoined, work_of}
use Rattle.packing_laws.proofs.joining.joined_bins.Given as goal

abbrev pub invariant-loop-bin : goal.invariant-loop-bin
invariant-loop-bin l = record {
  packing : IsWrittenPacking l.instance (l.waiting.items ++ l.done.items);
  cost : cost_of l.instance (bins_of (l.waiting.items ++ l.done.items)) ≤ cost_of l.instance (bins_of l.fn.bins.items);
  joined : AreJoined l.instance l.done.items;
}

abbrev pub decreases-loop-bin : goal.decreases-loop-bin
decreases-loop-bin l = work_of l.waiting.items l.done.items

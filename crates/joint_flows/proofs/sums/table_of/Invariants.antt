use Rattle.std.proofs.Common.{ℕ, ◌*◌, ◌^◌, ◌≤◌, get_or, take}
use Rattle.joint_flows.specs.inner.Sums.{IsTable, place_of}
use Rattle.joint_arcs.specs.Joined.{numbered}
use Rattle.joint_flows.proofs.sums.table_of.Given as goal

abbrev pub invariant-loop-index : goal.invariant-loop-index
invariant-loop-index l = record {
  sums : IsTable (place_of l.side l.graph) l.last (take l.index (numbered l.graph)) (take l.index l.values) l.sums;
  below : (j : ℕ) → get_or l.sums j 0 ≤ l.index * 2 ^ 64;
}

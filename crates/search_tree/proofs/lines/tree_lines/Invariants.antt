use Rattle.std.proofs.Common.{◌*◌, ◌≤◌, All}
use Rattle.needs_check.specs.Rooms.{IsNeedRoomOf}
use Rattle.search_tree.specs.Trees.{HasFewParts}
use Rattle.search_tree.specs.inner.Emitted.{IsEmitted}
use Rattle.search_tree.proofs.lines.tree_lines.Given as goal

abbrev pub invariant-loop-index : goal.invariant-loop-index
invariant-loop-index l = record {
  bounded : l.passed ≤ l.index * 2;
  room : IsNeedRoomOf l.graph l.room;
  emitted : IsEmitted l.instance l.graph l.target l.tree l.index l.passed l.lines;
  parts : All HasFewParts l.lines;
}

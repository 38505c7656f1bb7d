use Rattle.std.proofs.Common.{◌≡◌, length, drop}
use Rattle.search_tree.specs.Trees.{cut_box}
use Rattle.search_tree.proofs.tree.cut.Given as goal

abbrev pub invariant-loop-cut : goal.invariant-loop-cut
invariant-loop-cut l = record {
  size : length l.ranges ≡ length l.initial.ranges;
  made : cut_box l.ranges (drop l.cut-index l.cuts) ≡ cut_box l.initial.ranges l.cuts;
}

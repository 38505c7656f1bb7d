use Rattle.std.proofs.Common.{◌≡◌, length, get_or}
use Rattle.flow_graph.specs.Arcs.{flow_type}
use Rattle.pattern_extract.specs.inner.Walks.{AreCursors, AreMoved}
use Rattle.pattern_extract.proofs.paths.add_runs.Given as goal

abbrev pub invariant-loop-left : goal.invariant-loop-left
invariant-loop-left l = record {
  nodes : length l.cursors ≡ (flow_type l.graph l.t).nodes;
  cursors : AreCursors l.graph l.t l.left l.cursors;
  moved : AreMoved l.graph l.initial.left l.initial.runs.items l.left l.runs.items;
}

abbrev pub decreases-loop-left : goal.decreases-loop-left
decreases-loop-left l = get_or l.left l.bin 0

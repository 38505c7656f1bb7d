use Rattle.std.proofs.Common.{◌≡◌, length}
use Rattle.flow_graph.specs.Arcs.{flow_type}
use Rattle.pattern_extract.proofs.Cursors.{AreFirst}
use Rattle.pattern_extract.proofs.walks.first_places.Given as goal

abbrev pub invariant-loop-at : goal.invariant-loop-at
invariant-loop-at l = record {
  nodes : length l.places.items ≡ (flow_type l.graph l.t).nodes;
  first : AreFirst (flow_type l.graph l.t) l.first l.places.items l.at;
}

use Rattle.std.proofs.Common.{◌≡◌, ◌-◌, ◌<◌, ℕ, [], length, get_or}
use Rattle.packing_laws.specs.Instances.{IsAmong}
use Rattle.flow_graph.specs.Arcs.{first_arc}
use Rattle.pattern_extract.specs.inner.Walks.{AreMoved}
use Rattle.pattern_extract.proofs.paths.runs_of.Given as goal

abbrev pub invariant-loop-t : goal.invariant-loop-t
invariant-loop-t l = record {
  moved : AreMoved l.graph l.values [] l.left l.runs.items;
  bins : (s : ℕ) → IsAmong s (length l.graph) → s < l.t → get_or l.left (first_arc l.graph s - 1) 0 ≡ 0;
}

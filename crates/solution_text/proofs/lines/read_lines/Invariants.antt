use Rattle.std.proofs.Common.{◌≡◌, ◌+◌, ◌≤◌, length}
use Rattle.flow_graph.specs.Arcs.{numbered}
use Rattle.text_lines.specs.Lines.{lines_of}
use Rattle.solution_text.specs.inner.Lines.{lines_taken}
use Rattle.solution_text.proofs.lines.read_lines.Given as goal

abbrev pub invariant-loop-rest : goal.invariant-loop-rest
invariant-loop-rest l = record {
  taken : lines_taken l.graph 1 l.fn.found (lines_of l.text) ≡ lines_taken l.graph l.number l.found (lines_of l.rest);
  size : length l.found ≡ length (numbered l.graph);
  count : l.number + length l.rest ≤ length l.text + 1;
}

abbrev pub decreases-loop-rest : goal.decreases-loop-rest
decreases-loop-rest l = length l.rest

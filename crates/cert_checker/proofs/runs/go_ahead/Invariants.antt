use Rattle.std.proofs.Common.{◌≡◌, ◌+◌, drop, map}
use Rattle.cert_checker.specs.inner.Runs.{behind}
use Rattle.cert_checker.proofs.runs.go_ahead.Given as goal

abbrev pub invariant-loop-line : goal.invariant-loop-line
invariant-loop-line g l = record {
  count : l.standing.progress.count ≡ l.initial.standing.progress.count + l.line-index;
  leads : behind l.standing (map g.T.Line.told (drop l.line-index l.lines)) ≡ behind l.initial.standing (map g.T.Line.told l.lines);
}

use Rattle.std.proofs.Common.{◌≡◌, ◌≤◌}
use Rattle.cert_tests.proofs.tests.lines.first_bad.Given as goal

abbrev pub invariant-loop-piece : goal.invariant-loop-piece
invariant-loop-piece l = l.reader.read ≡ 0

abbrev pub invariant-loop : goal.invariant-loop
invariant-loop l = l.reader.read ≤ l.counter

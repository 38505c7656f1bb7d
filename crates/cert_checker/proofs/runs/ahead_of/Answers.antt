use Rattle.std.proofs.Common.{◌≡◌, map, rules}
use Rattle.cert_checker.specs.inner.Runs.{behind}
use Rattle.cert_checker.proofs.ToldLines.{behind_count}
use Rattle.cert_checker.proofs.runs.ahead_of.Goals as goal

pub returns-then-branch-clause-count : goal.returns-then-branch-clause-count
returns-then-branch-clause-count g c =
    let there : c.go_ahead.new.standing ≡ behind c.args.standing.now (map g.T.Line.told c.args.lines.now) = search rules in
    behind_count g.T.Line.told c.args.standing.now c.go_ahead.new.standing c.args.lines.now there

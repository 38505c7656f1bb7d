use Rattle.cert_stream.proofs.Begun.{fed_nothing}
use Rattle.cert_stream.proofs.judge.Judge.new.Goals as goal

pub returns : goal.returns
returns c = fed_nothing c.args.instance.now c.args.graph.now c.new-2.result c.in_ok-checker.checker c.new-3.result c.new-2.ensures c.in_ok-checker.ensures c.new-3.ensures

use Rattle.std.proofs.Common.{map, subst}
use Rattle.cert_checker.specs.Checkers.{CheckerValue, IsSteppedBy}
use Rattle.cert_checker.specs.inner.Runs.{AreTold}
use Rattle.cert_checker.proofs.ToldLines.{run_ready, run_settled}
use Rattle.cert_checker.proofs.checker.Checker.step_all.Goals as goal

pub invariant_of-self : goal.invariant_of-self
invariant_of-self g c =
    let told : AreTold c.self.inside.instance.now c.self.inside.graph.now c.self.inside.standing (map g.T.Line.told c.args.lines.now) c.in_ok-judged.judged.refusal c.in_ok-judged.judged.standing = c.in_ok-judged.ensures in
    run_ready c.self.inside.instance.now c.self.inside.graph.now c.self.inside.standing c.in_ok-judged.judged.standing (map g.T.Line.told c.args.lines.now) c.in_ok-judged.judged.refusal c.self.inside.scratch c.self.inside.room told c.self.invariant

pub returns : goal.returns
returns g c =
    let told : AreTold c.self.inside.instance.now c.self.inside.graph.now c.self.inside.standing (map g.T.Line.told c.args.lines.now) c.in_ok-judged.judged.refusal c.in_ok-judged.judged.standing = c.in_ok-judged.ensures in
    subst (λ (s : CheckerValue). IsSteppedBy s (map g.T.Line.told c.args.lines.now) c.settle.result c.settle.new.self) c.self.view_is
    (run_settled c.self.inside.instance.now c.self.inside.graph.now c.self.inside.refusal c.in_default.is c.self.inside.standing c.in_ok-judged.judged.standing (map g.T.Line.told c.args.lines.now) c.in_ok-judged.judged.refusal told c.settle.result c.settle.new.self c.settle.ensures)

use Rattle.std.proofs.Common.{◌≡◌, Bool, false, true, rules, subst, sym}
use Rattle.command_words.specs.Requests.{Exports}
use Rattle.arc_program.specs.inner.Work.{Works}
use Rattle.arc_program.proofs.commands.export.report.Goals as goal

pub returns-then-joint : goal.returns-then-joint
returns-then-joint g c =
    let is : c.args.joint ≡ true = search rules in
    λ name mvp shelf. subst (λ joint. Works (Exports name mvp joint) c.args.instance.now shelf shelf c.report.result) (sym is) (c.report.ensures name mvp shelf)

pub returns-else-joint : goal.returns-else-joint
returns-else-joint g c =
    let is : c.args.joint ≡ false = search rules in
    λ name mvp shelf. subst (λ joint. Works (Exports name mvp joint) c.args.instance.now shelf shelf c.types_report.result) (sym is) (c.types_report.ensures name mvp shelf)

use Rattle.std.proofs.Common.{rules}
use Rattle.cert_checker.specs.inner.Runs.{AreTold}
use Rattle.cert_checker.proofs.ToldLines.{of_both}
use Rattle.cert_checker.proofs.runs.joined.Goals as goal

pub returns-in-None : goal.returns-in-None
returns-in-None c = λ I g old first last is_left is_right.
    let told : AreTold I g old first c.in-Ok.left.refusal c.in-Ok.left.standing = search rules in
    of_both I g old first last c.in-Ok.left c.in-None.is told c.args.right is_right

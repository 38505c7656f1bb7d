use Rattle.std.proofs.Common.{Option, subst}
use Rattle.std.specs.Prelude.{IfSome}
use Rattle.cert_text.specs.declared.lines.Need.{Need}
use Rattle.search_states.specs.States.{IsNeedIn}
use Rattle.search_states.proofs.keeping.keep_need.Goals as goal

pub returns-in-Some-clause-state : goal.returns-in-Some-clause-state
returns-in-Some-clause-state c = λ I g fits state. c.with_need.ensures.state I g (subst (λ (o : Option Need). IfSome o (IsNeedIn g)) c.in-Some.is fits) state

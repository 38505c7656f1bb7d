-- A step value can be claimed.
use Rattle.std.proofs.Common.{◌≤◌, arith}
use Rattle.arc_num.specs.declared.TheConstants.{MAX_PRICE}
use Rattle.bound_certificates.proofs.StepSizes.{step_value_small}
use Rattle.bound_certificates.proofs.found.by_step.Goals as goal
use Rattle.bound_certificates.proofs.found.by_step.Goals.{After-known}

small : (c : After-known) → c.args.found.value ≤ MAX_PRICE
small c =
    let most = step_value_small c.args.instance.now c.known.ensures c.args.found.dim c.args.found.step in
    let value = c.requires.is.value in
    omega (arith, most, value)

pub overflow_cast-result : goal.overflow_cast-result
overflow_cast-result c = let most = small (goal.at.overflow_cast-result c).After-known in omega (arith, most)

pub returns-clause-small : goal.returns-clause-small
returns-clause-small c = let most = small (goal.at.returns-clause-small c).After-known in omega (arith, most)

-- The worth comes back as it is.
use Rattle.std.proofs.Common.{◌≡◌, ◌∙◌, ℤ, to_z, of_z, sym, subst, rules}
use Rattle.std.specs.Int.{w128}
use Rattle.cert_laws.specs.Rules.{demands_of}
use Rattle.path_prices.specs.Worth.{IsEnough, worth_of}
use Rattle.std.proofs.lemmas.Int.{to_z-of_z}
use mir.Val.{SFits}
use Rattle.leaf_check.proofs.leaves.is_strong.Goals as goal

pub returns : goal.returns
returns c =
    let z : ℤ = c.worth-worth.result in
    let fits : SFits w128 z = search rules in
    let same : to_z w128 (of_z w128 z) ≡ worth_of (demands_of c.args.instance.now) c.args.ranges.now c.args.prices.now = to_z-of_z w128 z fits ∙ c.worth-worth.ensures in
    (λ h. subst (λ (x : ℤ). IsEnough c.args.claim.now c.args.prices.now.scale x) same (c.is_enough.ensures.0 h), λ h. c.is_enough.ensures.1 (subst (λ (x : ℤ). IsEnough c.args.claim.now c.args.prices.now.scale x) (sym same) h))

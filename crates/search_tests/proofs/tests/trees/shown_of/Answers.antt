use Rattle.std.proofs.Common.{◌≡◌, ◌∙◌, ℤ, to_z, of_z, subst, rules}
use Rattle.std.specs.Int.{w128}
use Rattle.std.specs.Prelude.{IsTrue}
use Rattle.std.proofs.lemmas.Int.{to_z-of_z}
use mir.Val.{SFits}
use Rattle.cert_laws.specs.Rules.{demands_of}
use Rattle.path_prices.specs.Worth.{IsEnough, worth_of}
use Rattle.search_tests.proofs.WorkedTree.{closes}
use Rattle.search_tests.proofs.tests.trees.shown_of.Goals as goal

pub returns-clause-shown : goal.returns-clause-shown
returns-clause-shown c =
    let z : ℤ = c.worth.result in
    let fits : SFits w128 z = search rules in
    let same : to_z w128 (of_z w128 z) ≡ worth_of (demands_of c.args.instance.now) c.args.ranges.now c.args.prices = to_z-of_z w128 z fits ∙ c.worth.ensures in
    let enough : IsTrue c.is_enough.result = search rules in
    record {
      prices = c.requires.prices;
      items = search rules;
      arcs = search rules;
      claim = c.requires.claim;
      closes = closes c.args.instance.now c.args.graph.now c.args.ranges.now c.args.prices c.args.claim c.first_excess.result (search rules) c.first_excess.ensures.excess (subst (λ (x : ℤ). IsEnough c.args.claim c.args.prices.scale x) same (c.is_enough.ensures.0 enough));
    }

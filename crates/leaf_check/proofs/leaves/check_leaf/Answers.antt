-- The prices close the box exactly where no type gains too much and they are strong.
use Rattle.std.proofs.Common.{refl, subst, rules}
use Rattle.std.specs.Prelude.{IsTrue}
use Rattle.path_prices.specs.Excess.{FirstExcess}
use Rattle.leaf_check.proofs.leaves.check_leaf.Goals as goal

pub returns-then-is_strong-clause-none : goal.returns-then-is_strong-clause-none
returns-then-is_strong-clause-none c =
    let strong : IsTrue c.is_strong.result = search rules in (
      λ h. record {
        gains = subst (λ o. FirstExcess c.args.instance.now c.args.graph.now c.args.prices.now o) c.in_default.is c.first_excess.ensures.excess;
        strong = c.is_strong.ensures.0 strong;
      },
      λ h. refl,
    )

pub returns-clause-none : goal.returns-clause-none
returns-clause-none c =
    (λ h. absurd (cc), λ closes. let strong : IsTrue c.is_strong.result = c.is_strong.ensures.1 closes.strong in absurd (search rules))

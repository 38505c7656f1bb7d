-- Each cap and the next were tested.
use Rattle.std.proofs.Common.{nat_lt, rules}
use Rattle.std.proofs.lemmas.Fn.{always_returns_same}
use Rattle.packing_laws.proofs.CapLaws.{ascend-answer}
use Rattle.packing_laws.proofs.limits.ascend.Goals as goal

pub returns : goal.returns
returns c =
    ascend-answer c.args.caps.now c.is_sorted_by.result
    (c.is_sorted_by.ensures.cases (λ j k. nat_lt j.item k.item) (always_returns_same _ _ _ (λ a r f k. search rules)))

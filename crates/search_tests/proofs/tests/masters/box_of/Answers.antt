use Rattle.std.proofs.Common.{ℕ, List, length, ap, ◌∙◌}
use Rattle.search_tests.proofs.tests.masters.box_of.Goals as goal

pub returns : goal.returns
returns c = c.narrow.ensures ∙ ap (λ (xs : List (ℕ × ℕ)). length xs) c.in_ok-ranges.ensures ∙ c.flows_lie_in_root.ensures.size c.args.instance.now c.args.graph.now

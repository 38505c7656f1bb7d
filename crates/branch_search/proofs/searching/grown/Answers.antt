use Rattle.std.proofs.Common.{inr, ap, is_some, Option, ℕ}
use Rattle.branch_search.proofs.searching.grown.Goals as goal

pub returns-in-None-clause-all : goal.returns-in-None-clause-all
returns-in-None-clause-all c = inr (c.open_leaf.ensures.none (ap (λ (o : Option ℕ). is_some o) c.in-None.is))

use Rattle.search_states.proofs.pricing.is_better.Goals as goal

pub returns-then-is_strong : goal.returns-then-is_strong
returns-then-is_strong c = λ reached. (c.is_strong.ensures.0 c.if-is_strong.true, c.reaches.ensures.0 reached)

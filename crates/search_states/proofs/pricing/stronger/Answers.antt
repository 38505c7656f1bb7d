use Rattle.search_states.proofs.Valued.{valued_by}
use Rattle.search_states.proofs.pricing.stronger.Goals as goal

pub returns-then-is_better : goal.returns-then-is_better
returns-then-is_better c =
    let both = c.is_better.ensures c.if-is_better.true in
    valued_by c.args.instance.now c.args.graph.now c.args.ranges.now c.args.prices c.greatest_claim-claim.result c.args.known c.requires.priced c.greatest_claim-claim.ensures both.0 both.1 c.requires.valued

use Rattle.branch_search.proofs.LastStates.{least_more}
use Rattle.branch_search.proofs.endings.least_bound.Goals as goal

pub loop-place-preserved : goal.loop-place-preserved
loop-place-preserved c = record {
  least = least_more c.args.places.now c.loop-place.place-index c.loop-place.least c.bound_of.result c.min-least.result c.place-item.result c.loop-place-test.true c.place-item.is c.bound_of.ensures c.min-least.ensures c.loop-place.invariant.least;
}

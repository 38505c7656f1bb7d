use Rattle.std.proofs.Common.{rules}
use Rattle.search_states.proofs.Kept.{repriced_twice}
use Rattle.search_states.proofs.shortening.shortened.Goals as goal

pub loop-index-preserved : goal.loop-index-preserved
loop-index-preserved c = record {
  master = search rules;
  same_master = search rules;
  state = c.in_ok-state.ensures.state;
  same = repriced_twice c.args.first c.loop-index.state c.in_ok-state.state c.loop-index.invariant.same c.in_ok-state.ensures.same;
}

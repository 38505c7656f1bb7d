use Rattle.std.proofs.Common.{ℕ, List, Option, arith}
use Rattle.std.proofs.lemmas.List.{length-append}
use Rattle.joint_graph.proofs.WayPasses.{none-more}
use Rattle.joint_graph.proofs.onward.no_ways.Goals as goal

pub loop-index-preserved : goal.loop-index-preserved
loop-index-preserved g c =
    rw c.in_ok-push.ensures.items (record {
      count = omega (arith, length-append {A = Option (List ℕ)}, c.loop-index.invariant.count);
      each = none-more c.loop-index.ways.items c.loop-index.invariant.each;
    })

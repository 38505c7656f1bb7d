use Rattle.std.proofs.Common.{arith}
use Rattle.level_graph.proofs.Arcs.{arcs-start, arcs-more, arcs-all, node-at}
use Rattle.level_graph.proofs.build.arcs_of.Goals as goal

pub loop-index-init : goal.loop-index-init
loop-index-init g c = rw c.in_ok-arcs.ensures.items (arcs-start c.args.pieces.now c.args.cap.now c.args.states.now)

pub loop-index-preserved : goal.loop-index-preserved
loop-index-preserved g c =
    let node = node-at c.args.states.now c.loop-index.index c.loop-index-test.true in
    arcs-more c.args.pieces.now c.args.cap.now c.args.states.now c.requires.states c.loop-index.index node.0 node.1 c.loop-index.arcs.items c.push_take.new.arcs.items c.push_skip.new.arcs.items c.loop-index.invariant c.in_ok-push_take.ensures c.in_ok-push_skip.ensures

pub returns : goal.returns
returns g c = arcs-all c.args.pieces.now c.args.cap.now c.args.states.now c.loop-index.index c.loop-index.arcs.items c.requires.states (omega arith) c.loop-index.invariant

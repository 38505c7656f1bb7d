-- One more joint.
use Rattle.std.proofs.Common.{◌≡◌, length, ap, arith}
use Rattle.flow_graph.specs.Arcs.{numbered}
use Rattle.fixed_leaf.proofs.JointLists.{joints_all, joints_step}
use Rattle.fixed_leaf.proofs.joints.joints_of.Goals as goal

pub loop-kind-preserved : goal.loop-kind-preserved
loop-kind-preserved c =
    let is = c.loop-kind.invariant.0 in
    let are = c.loop-kind.invariant.1 in
    (is, are, joints_step c.args.graph.now is c.args.starts.now are c.loop-kind.kind-index c.row-kind-items.result.now _ c.loop-kind.joints c.push.new.self c.loop-kind.reached c.next_joint.new.reached c.next_joint.result c.row-kind-items.ensures c.loop-kind-test.true c.loop-kind.invariant.2 c.next_joint.ensures.joint c.next_joint.ensures.reached c.in_ok-push.ensures.ok)

pub returns : goal.returns
returns c =
    let long : length c.row-kind-items.result.now ≡ length (numbered c.args.graph.now) = ap length c.row-kind-items.ensures in
    let end = c.loop-kind-test.false in
    let within = c.loop-kind.auto.kind-index-end in
    joints_all c.args.graph.now c.loop-kind.invariant.0 c.args.starts.now c.loop-kind.invariant.1 c.loop-kind.kind-index c.loop-kind.joints c.loop-kind.reached (omega (arith, long, end, within)) c.loop-kind.invariant.2

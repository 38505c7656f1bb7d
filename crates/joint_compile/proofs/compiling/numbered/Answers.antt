use Rattle.std.proofs.Common.{ap, arith, length, rules}
use Rattle.joint_compile.proofs.NumberedJoints.{can_be_numbered, inner_few, is_joined, numbered_own}
use Rattle.joint_compile.proofs.compiling.numbered.Goals as goal

pub numbered_arcs-requires : goal.numbered_arcs-requires
numbered_arcs-requires g c =
    let can = can_be_numbered c.args.graph.now c.pieces.result.now c.arcs.result.now c.pieces.ensures c.arcs.ensures c.known.ensures c.requires.named c.requires.few in
    (search rules, (c.requires.small, (can.named, (can.known, (can.ordered, can.few)))))

pub overflow_cast-inner : goal.overflow_cast-inner
overflow_cast-inner g c = omega (arith, c.inner-inner.ensures, inner_few c.args.graph.now c.known.ensures, c.requires.few)

pub new-requires : goal.new-requires
new-requires g c =
    let graph = c.args.graph.now in
    let numbered = numbered_own graph c.pieces.result.now c.arcs.result.now c.pieces.ensures c.arcs.ensures c.inner-inner.result (length c.caps.result.now) c.in_ok-arcs.arcs.items c.inner-inner.ensures (ap length c.caps.ensures) c.in_ok-arcs.ensures in
    is_joined graph c.known.ensures c.requires.named c.requires.few (record { inner = c.inner-inner.result; types = length c.caps.result.now; arcs = c.in_ok-arcs.arcs.items }) numbered

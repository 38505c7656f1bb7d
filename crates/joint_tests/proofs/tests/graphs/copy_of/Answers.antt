use Rattle.std.proofs.Common.{◌∙◌, rules}
use Rattle.joint_tests.proofs.SameParts.{same_parts}
use Rattle.joint_tests.proofs.tests.graphs.copy_of.Goals as goal

pub new-requires : goal.new-requires
new-requires c = (search rules, (search rules, (search rules, same_parts c.args.graph.now c.in_ok-pieces.pieces.items c.in_ok-caps.caps.items c.inner.result c.in_ok-arcs.arcs.items (c.in_ok-pieces.ensures.items ∙ c.pieces.ensures) (c.in_ok-caps.ensures.items ∙ c.caps.ensures) c.inner.ensures (c.in_ok-arcs.ensures.items ∙ c.arcs.ensures) c.known.ensures)))

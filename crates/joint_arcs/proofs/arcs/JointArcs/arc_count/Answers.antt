use Rattle.std.proofs.Common.{arith}
use Rattle.std.proofs.lemmas.Grind.{common_steps}
use Rattle.joint_arcs.proofs.Rows.{numbered_length}
use Rattle.joint_arcs.proofs.arcs.JointArcs.arc_count.Goals as goal

pub overflow_cast-result : goal.overflow_cast-result
overflow_cast-result c =
    let long = numbered_length (record { inner = c.self.inside.inner; types = c.self.inside.types; arcs = c.self.inside.arcs.items }) in
    let joint = c.self.invariant.joint in
    let few_types = joint.few_types in
    let few_arcs = joint.few_arcs in
    grind (arith, common_steps, long, few_types, few_arcs, c.self.invariant.row_is)

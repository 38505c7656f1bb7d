use Rattle.joint_compile.proofs.TypeCaps.{caps_more}
use Rattle.joint_compile.proofs.pieces.capacities.Goals as goal

pub loop-t-preserved : goal.loop-t-preserved
loop-t-preserved g c = caps_more g.row.N c.args.instance.now c.loop-t.t c.loop-t.caps.items c.push.new.self.items c.in_ok-capacity_in.field-0 c.loop-t.invariant c.in_ok-capacity_in.ensures c.in_ok-push.ensures.items

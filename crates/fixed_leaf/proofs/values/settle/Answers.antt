-- One more tree arc.
use Rattle.std.proofs.Common.{◌-◌}
use Rattle.fixed_leaf.specs.inner.Nets.{joint_at}
use Rattle.fixed_leaf.proofs.Excesses.{read_kept}
use Rattle.fixed_leaf.proofs.Settling.{settle_step}
use Rattle.fixed_leaf.proofs.values.settle.Goals as goal

pub loop-index-preserved-then-joint : goal.loop-index-preserved-then-joint
loop-index-preserved-then-joint c =
    let near = c.loop-index.auto.index in
    settle_step c.args.joints.now c.args.values.now _ _ c.loop-index.index c.loop-index.values c.loop-index.excess c.loop-index-test.true near c.requires.forest c.loop-index.invariant c.if-joint.true _ (read_kept c.loop-index.excess (joint_at c.args.joints.now (c.loop-index.index - 1)).head _ c.loop-index.invariant.small c.requires.small) _ c.shift.ensures

-- One more arc.
use Rattle.std.proofs.Common.{refl, subst, sym, ◌≤◌, ◌^◌, ℤ}
use Rattle.std.specs.Prelude.{unsigned_abs}
use Rattle.fixed_leaf.specs.inner.Nets.{joint_at, no_joint}
use Rattle.fixed_leaf.proofs.Excesses.{added_more, kept_of}
use Rattle.fixed_leaf.proofs.values.add_excess.Goals as goal

pub loop-index-preserved : goal.loop-index-preserved
loop-index-preserved c =
    let i = c.loop-index.index in
    let few = c.requires.small i in
    let own = kept_of _ i few in
    added_more c.args.joints.now c.args.values.now i _ c.loop-index.excess c.shift.new.excess (joint_at c.args.joints.now i) _ c.loop-index-test.true c.requires.size refl own (c.requires.tails i no_joint c.loop-index-test.true) (c.requires.heads i no_joint c.loop-index-test.true) (subst (λ (z : ℤ). unsigned_abs z ≤ 2 ^ 32) (sym own) few) c.loop-index.invariant c.shift.ensures

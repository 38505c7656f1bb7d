-- The value of one more arc.
use Rattle.std.proofs.Common.{ℕ, ℤ, ◌+◌, ◌∙◌, ◌^◌, ◌≤◌, refl, sym, subst, arith}
use Rattle.std.specs.Prelude.{unsigned_abs}
use Rattle.fixed_leaf.specs.inner.Nets.{joint_at}
use Rattle.fixed_leaf.proofs.ChordValues.{chords_more}
use Rattle.fixed_leaf.proofs.Excesses.{kept_of}
use Rattle.fixed_leaf.proofs.values.chord_values.Goals as goal

pub loop-joint-preserved : goal.loop-joint-preserved
loop-joint-preserved c =
    let i : ℕ = c.loop-joint.joint-index in
    let same = c.loop-joint.invariant.0 in
    let own = kept_of c.chord_value.result i c.chord_value.ensures.small in
    (omega (arith, same), chords_more c.args.joints.now c.args.ranges.now i (c.loop-joint.arc + 1) c.loop-joint.values.items c.push.new.self.items (joint_at c.args.joints.now i) _ c.loop-joint.invariant.1 (omega (arith, same)) refl (own ∙ c.chord_value.ensures.value) (subst (λ (z : ℤ). unsigned_abs z ≤ 2 ^ 32) (sym own) c.chord_value.ensures.small) c.in_ok-push.ensures.items)

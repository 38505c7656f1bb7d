-- One more tree arc, or a chord.
use Rattle.std.proofs.Common.{ℕ, ℤ, ◌+◌, ◌≤◌, ◌∙◌, length, sym, subst, arith}
use Rattle.std.specs.Prelude.{unsigned_abs}
use Rattle.fixed_leaf.specs.inner.Nets.{joint_at}
use Rattle.fixed_leaf.proofs.Climbing.{IsClimbed, climb_value, climbed_chord, climbed_tree, rise_same}
use Rattle.fixed_leaf.proofs.heights.climb.Goals as goal
use Rattle.fixed_leaf.proofs.heights.climb.Goals.{then-joint, else-joint}

pub loop-index-preserved : goal.loop-index-preserved
loop-index-preserved c =
    let i : ℕ = c.loop-index.index in
    let n : ℕ = length c.args.heights.now in
    let within = c.loop-index-test.true in
    let size = c.requires.size in
    let few = c.requires.few in
    let so_far = c.loop-index.invariant in
    elim c.if-joint.branch [
      | then-joint w ↦
          let same = w.rise-rise.ensures.value ∙ rise_same c.args.row.now c.args.fault i _ (omega (arith, within, size)) in
          let less = subst (λ (z : ℤ). unsigned_abs z ≤ 2) same w.rise-rise.ensures.small in
          let value = climb_value c.loop-index.heights (joint_at c.args.joints.now i).tail i w.rise-rise.result _ (so_far.small (joint_at c.args.joints.now i).tail) (omega (arith, within, size, few)) w.rise-rise.ensures.small same in
          subst (IsClimbed c.args.row.now c.args.joints.now c.args.fault n (i + 1)) (sym w.heights-is) (climbed_tree c.args.row.now c.args.joints.now c.args.fault n i c.loop-index.heights within c.requires.forest so_far w.if-joint.true _ value less)
      | else-joint w ↦ subst (IsClimbed c.args.row.now c.args.joints.now c.args.fault n (i + 1)) (sym w.heights-is) (climbed_chord c.args.row.now c.args.joints.now c.args.fault n i c.loop-index.heights within c.requires.forest so_far w.if-joint.false)
    ]

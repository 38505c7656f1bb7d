use Rattle.std.proofs.Common.{◌≡◌, ℕ, subst, arith, length}
use Rattle.joint_graph.specs.inner.Pushes.{AreArcsBefore}
use Rattle.joint_graph.proofs.LevelArcs.{arcs-none, arcs-more}
use Rattle.joint_graph.proofs.levels.arcs_of.Goals as goal

pub loop-index-init : goal.loop-index-init
loop-index-init g c = rw c.in_ok-arcs.ensures.items (arcs-none c.args.pieces.now c.args.caps.now c.args.states.now)

pub loop-index-preserved : goal.loop-index-preserved
loop-index-preserved g c = arcs-more c.args.pieces.now c.args.caps.now c.args.states.now c.loop-index.index c.loop-index.arcs.items c.push_arcs.new.arcs.items c.loop-index.invariant c.in_ok-push_arcs.ensures

pub returns : goal.returns
returns g c =
    let all : c.loop-index.index ≡ length c.args.states.now = omega arith in
    subst (λ (n : ℕ). AreArcsBefore c.args.pieces.now c.args.caps.now c.args.states.now n c.loop-index.arcs.items) all c.loop-index.invariant

use Rattle.std.proofs.Common.{◌<◌, ◌∙◌, List, ℕ, sym, subst, arith}
use Rattle.packing_laws.specs.declared.packings.Bin.{Bin}
use Rattle.flow_model.specs.Flows.{weigh_arcs}
use Rattle.joint_arcs.specs.Joined.{numbered}
use Rattle.joint_arcs.proofs.Rows.{numbered_length}
use Rattle.pattern_extract.proofs.Moves.{taken-falls}
use Rattle.joint_extract.specs.inner.Circuits.{AreDrawn, IsTaken}
use Rattle.joint_extract.proofs.Cursors.{cursors-falls}
use Rattle.joint_extract.proofs.Drawing.{drawn-one, less-left}
use Rattle.joint_extract.proofs.bins.draw_type.Goals as goal

pub bounds-left-place : goal.bounds-left-place
bounds-left-place c =
    let long = numbered_length c.args.graph.now in
    omega (arith, long, c.requires.of_type.0, c.requires.of_type.1, c.loop-left.auto.left, c.requires.size)

pub loop-left-smaller : goal.loop-left-smaller
loop-left-smaller c =
    let g = c.args.graph.now in
    let bin = c.in_ok-circuit.circuit.bin in
    let left = c.loop-left.left in
    let rest = c.take_off.new.left in
    let taken = subst (λ (arcs : List ℕ). IsTaken left rest c.from.result arcs) c.as_slice.ensures c.take_off.ensures in
    let own = subst (λ (times : ℕ). IsTaken left rest times c.in_ok-circuit.circuit.arcs) c.from.ensures taken in
    let falls : weigh_arcs (λ kind. 1) (numbered g) rest < weigh_arcs (λ kind. 1) (numbered g) left = less-left g left rest bin c.in_ok-circuit.circuit.arcs c.in_ok-circuit.ensures.circuit own in
    falls

pub loop-left-preserved : goal.loop-left-preserved
loop-left-preserved c =
    let g = c.args.graph.now in
    let bin = c.in_ok-circuit.circuit.bin in
    let arcs = c.in_ok-circuit.circuit.arcs in
    let left = c.loop-left.left in
    let rest = c.take_off.new.left in
    let taken = subst (λ (arcs : List ℕ). IsTaken left rest c.from.result arcs) c.as_slice.ensures c.take_off.ensures in
    let own = subst (λ (times : ℕ). IsTaken left rest times arcs) c.from.ensures taken in
    let drawn = drawn-one g left rest bin arcs c.in_ok-circuit.ensures.circuit own c.args.left.now c.args.bins.now.items c.loop-left.bins.items c.loop-left.invariant.drawn in
    record {
      nodes = c.walk_round.auto.cursors ∙ c.loop-left.invariant.nodes;
      cursors = cursors-falls g left rest c.walk_round.new.cursors (taken-falls left rest bin.times arcs own) c.in_ok-circuit.ensures.cursors;
      drawn = subst (λ (bins : List Bin). AreDrawn g c.args.left.now c.args.bins.now.items rest bins) (sym c.in_ok-push.ensures.items) drawn;
    }

use Rattle.std.proofs.Common.{◌≡◌, ◌-◌, ◌<◌, List, ℕ, length, get_or, sym, ap, subst, ◌∙◌, arith}
use Rattle.flow_graph.specs.Arcs.{first_arc}
use Rattle.pattern_extract.specs.declared.runs.PathRun.{PathRun}
use Rattle.pattern_extract.specs.inner.Walks.{AreMoved, AreCursors, circuit_of}
use Rattle.pattern_extract.proofs.Moves.{moved-none, moved-run, taken-falls, taken-less, bin-inside}
use Rattle.pattern_extract.proofs.Cursors.{cursors-falls}
use Rattle.pattern_extract.proofs.paths.add_runs.Goals as goal

pub loop-left-init : goal.loop-left-init
loop-left-init c =
    let g = c.args.graph.now in
    let t = c.args.t in
    let left = c.args.left.now in
    let cursors = sym c.as_mut_slice-cursors.ensures.value in
    record {
      nodes = ap (length {A = ℕ}) c.as_mut_slice-cursors.ensures.value ∙ c.in_ok-places.ensures.nodes;
      cursors = subst (AreCursors g t left) cursors (c.in_ok-places.ensures.first left);
      moved = moved-none g left c.args.runs.now.items c.requires.each c.requires.conserved;
    }

pub bounds-left-bin : goal.bounds-left-bin
bounds-left-bin c =
    let bin = c.bin_arc.ensures in
    let inside = bin-inside c.args.graph.now c.args.t c.requires.of_type in
    omega (arith, bin, inside, c.loop-left.auto.left, c.requires.size)

pub loop-left-smaller : goal.loop-left-smaller
loop-left-smaller c =
    let g = c.args.graph.now in
    let run = c.in_ok-run.run' in
    let left = c.loop-left.left in
    let rest = c.take_run.new.left in
    let b = c.bin_arc.result - 1 in
    let bin : b ≡ first_arc g run.t - 1 = ap (λ (n : ℕ). n - 1) c.bin_arc.ensures ∙ ap (λ (s : ℕ). first_arc g s - 1) (sym c.in_ok-run.ensures.of_type) in
    let less : get_or rest b 0 < get_or left b 0 = subst (λ (i : ℕ). get_or rest i 0 < get_or left i 0) (sym bin) (taken-less g left rest run c.in_ok-run.ensures.run c.take_run.ensures) in
    less

pub loop-left-preserved : goal.loop-left-preserved
loop-left-preserved c =
    let g = c.args.graph.now in
    let t = c.args.t in
    let run = c.in_ok-run.run' in
    let left = c.loop-left.left in
    let rest = c.take_run.new.left in
    let moved = moved-run g c.args.left.now left rest c.args.runs.now.items c.loop-left.runs.items run c.loop-left.invariant.moved c.in_ok-run.ensures.run c.in_ok-run.ensures.used c.take_run.ensures in
    record {
      nodes = c.walk.auto.cursors ∙ c.loop-left.invariant.nodes;
      cursors = cursors-falls g t left rest c.walk.new.cursors (taken-falls left rest run.times (circuit_of g run) c.take_run.ensures) c.in_ok-run.ensures.cursors;
      moved = subst (λ (runs : List PathRun). AreMoved g c.args.left.now c.args.runs.now.items rest runs) (sym c.in_ok-push.ensures.items) moved;
    }

use Rattle.std.proofs.Common.{◌≡◌, ◌∙◌, List, ℕ, [], length, sym, ap, subst, arith}
use Rattle.packing_laws.specs.declared.packings.Bin.{Bin}
use Rattle.joint_arcs.specs.Joined.{numbered}
use Rattle.joint_extract.specs.inner.Circuits.{AreCursors, AreDrawn}
use Rattle.joint_extract.proofs.Drawing.{bins-more, drawn-all, drawn-further, drawn-none}
use Rattle.joint_extract.proofs.bins.flow_bins.Goals as goal

pub loop-t-init : goal.loop-t-init
loop-t-init c =
    let g = c.args.graph.now in
    let values = c.args.values.now in
    let left : c.as_mut_slice-left.result.now ≡ values = c.as_mut_slice-left.ensures.value ∙ c.in_ok-copied.ensures.items in
    let first = drawn-none g values [] c.requires.conserved in
    let copied = subst (λ (left : List ℕ). AreDrawn g values [] left []) (sym left) first in
    record {
      nodes = ap (length {A = ℕ}) c.as_mut_slice-cursors.ensures.value ∙ c.in_ok-places.ensures.nodes;
      cursors = subst (AreCursors g c.as_mut_slice-left.result.now) (sym c.as_mut_slice-cursors.ensures.value) (c.in_ok-places.ensures.first c.as_mut_slice-left.result.now);
      drawn = subst (λ (bins : List Bin). AreDrawn g values [] c.as_mut_slice-left.result.now bins) (sym c.new-bins.ensures.items) copied;
      none = λ s among early. absurd (omega (arith, among.0, early));
    }

pub loop-t-preserved : goal.loop-t-preserved
loop-t-preserved c =
    let g = c.args.graph.now in
    let more = c.in_ok-draw_type.ensures.drawn in
    record {
      nodes = c.draw_type.auto.cursors ∙ c.loop-t.invariant.nodes;
      cursors = c.in_ok-draw_type.ensures.cursors;
      drawn = drawn-further g c.args.values.now c.loop-t.left c.draw_type.new.left [] c.loop-t.bins.items c.draw_type.new.bins.items c.loop-t.invariant.drawn more;
      none = bins-more g c.loop-t.left c.draw_type.new.left c.loop-t.t c.loop-t.invariant.none more.falls c.in_ok-draw_type.ensures.none;
    }

pub returns : goal.returns
returns c =
    let g = c.args.graph.now in
    let size : length c.loop-t.left ≡ length (numbered g) =
    c.loop-t.auto.left ∙ ap (length {A = ℕ}) (c.as_mut_slice-left.ensures.value ∙ c.in_ok-copied.ensures.items) ∙ c.requires.size in
    let count = c.type_count-t-end.ensures in
    let end = c.loop-t-test.false in
    drawn-all g c.args.values.now c.loop-t.left c.loop-t.bins.items c.known.ensures size c.loop-t.invariant.drawn
    (λ s among. c.loop-t.invariant.none s among (omega (arith, among.1, count, end)))

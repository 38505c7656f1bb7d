use Rattle.std.proofs.Common.{◌≡◌, List, ℕ, [], length, sym, ap, subst, ◌∙◌, arith}
use Rattle.std.proofs.lemmas.List.Elements.{All-nil}
use Rattle.flow_graph.specs.Arcs.{numbered}
use Rattle.pattern_extract.specs.declared.runs.PathRun.{PathRun}
use Rattle.pattern_extract.specs.Runs.{IsRun}
use Rattle.pattern_extract.specs.inner.Walks.{AreMoved}
use Rattle.pattern_extract.proofs.Moves.{moved-none, moved-all, few-runs}
use Rattle.pattern_extract.proofs.paths.runs_of.Goals as goal

pub loop-t-init : goal.loop-t-init
loop-t-init c =
    let g = c.args.graph.now in
    let values = c.args.values.now in
    let first = moved-none g values [] (All-nil (IsRun g)) c.requires.conserved in
    let copied = subst (λ (left : List ℕ). AreMoved g values [] left []) (sym (c.as_mut_slice-left.ensures.value ∙ c.in_ok-copied.ensures.items)) first in
    record {
      moved = subst (λ (runs : List PathRun). AreMoved g values [] c.as_mut_slice-left.result.now runs) (sym c.new-runs.ensures.items) copied;
      bins = λ s among early. absurd (omega (arith, among.0, early));
    }

pub returns-clause-few : goal.returns-clause-few
returns-clause-few c = few-runs c.args.graph.now c.args.values.now c.loop-t.left c.loop-t.runs.items c.loop-t.invariant.moved

pub returns-clause-runs : goal.returns-clause-runs
returns-clause-runs c =
    let g = c.args.graph.now in
    let size : length c.loop-t.left ≡ length (numbered g) =
    c.loop-t.auto.left ∙ ap (length {A = ℕ}) (c.as_mut_slice-left.ensures.value ∙ c.in_ok-copied.ensures.items) ∙ c.requires.size in
    let count = c.type_count-t-end.ensures.value in
    let end = c.loop-t-test.false in
    moved-all g c.args.values.now c.loop-t.left c.loop-t.runs.items c.known.ensures size c.loop-t.invariant.moved
    (λ s among. c.loop-t.invariant.bins s among (omega (arith, among.1, count, end)))

use Rattle.std.proofs.Common.{◌≡◌, ℕ, ◌+◌, List, length, refl, subst, arith}
use Rattle.level_graph.specs.declared.states.State.{State}
use Rattle.level_graph.specs.inner.Layers.{IsLayer, AreWeights}
use Rattle.level_graph.proofs.Counting.{Counted, counted-start, counted-more, counted-end}
use Rattle.level_graph.proofs.counts.level_counts.Goals as goal

pub loop-piece-init : goal.loop-piece-init
loop-piece-init g c =
    record {
      number = refl;
      few_states = omega arith;
      few_takes = omega arith;
      counted = rw c.in_ok-entering.ensures.items (counted-start c.args.pieces.now c.args.cap.now c.zero.result c.zero.ensures);
    }

pub loop-piece-preserved : goal.loop-piece-preserved
loop-piece-preserved g c =
    let k = c.loop-piece.piece-index in
    let piece = c.piece-item.result in
    let layer = c.in_ok-layer.layer.items in
    let entering = c.loop-piece.entering.items in
    let lent = subst (λ (es : List (List ℕ)). IsLayer {N = g.row.N} (c.loop-piece.number + 1) piece c.args.cap.now es layer) c.as_slice.ensures.value c.in_ok-layer.ensures in
    let is = subst (λ (n : ℕ). IsLayer {N = g.row.N} (n + 1) piece c.args.cap.now entering layer) c.loop-piece.invariant.number lent in
    let kept = subst (λ (ss : List (State g.row.N)). AreWeights ss c.in_ok-entering-2.entering.items) c.as_slice-in-loop-piece.ensures.value c.in_ok-entering-2.ensures in
    let first : c.len.result ≡ length layer = omega arith in
    let again : c.len-in-loop-piece.result ≡ length layer = omega arith in
    let second : c.len-in-loop-piece-2.result ≡ length entering = omega arith in
    record {
      number = omega (arith, c.loop-piece.invariant.number);
      few_states = omega (arith, c.loop-piece.invariant.few_states);
      few_takes = omega (arith, c.loop-piece.invariant.few_takes);
      counted = rw (first, again, second) (counted-more c.args.pieces.now c.args.cap.now k c.loop-piece.states c.loop-piece.takes piece entering c.in_ok-entering-2.entering.items layer c.loop-piece-test.true c.piece-item.is c.loop-piece.invariant.counted is kept);
    }

pub returns : goal.returns
returns g c =
    let all : c.loop-piece.piece-index ≡ length c.args.pieces.now = omega arith in
    let counted = subst (λ (n : ℕ). Counted c.args.pieces.now c.args.cap.now n c.loop-piece.states c.loop-piece.takes c.loop-piece.entering.items) all c.loop-piece.invariant.counted in
    counted-end c.args.pieces.now c.args.cap.now c.loop-piece.states c.loop-piece.takes c.loop-piece.entering.items counted

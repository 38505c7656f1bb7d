use Rattle.std.proofs.Common.{◌≡◌, ℕ, ◌+◌, List, ◌++◌, [], ◌∷◌, length, refl, sym, ap, ◌∙◌, subst, arith}
use Rattle.level_graph.specs.declared.states.State.{State}
use Rattle.level_graph.specs.Levels.{target}
use Rattle.level_graph.specs.inner.Layers.{IsLayer, AreWeights}
use Rattle.level_graph.proofs.SoFar.{SoFar, so_far-start, so_far-more, so_far-end}
use Rattle.level_graph.proofs.build.states_of.Goals as goal

pub loop-piece-init : goal.loop-piece-init
loop-piece-init g c =
    (refl, rw (c.new-states.ensures.items, c.in_ok-entering.ensures.items) (so_far-start c.args.pieces.now c.args.cap.now c.zero.result c.zero.ensures))

pub loop-piece-preserved : goal.loop-piece-preserved
loop-piece-preserved g c =
    let k = c.loop-piece.piece-index in
    let piece = c.piece-item.result in
    let layer = c.in_ok-layer.layer.items in
    let entering = c.loop-piece.entering.items in
    let lent = subst (λ (es : List (List ℕ)). IsLayer {N = g.row.N} (c.loop-piece.number + 1) piece c.args.cap.now es layer) c.as_slice.ensures.value c.in_ok-layer.ensures in
    let is = subst (λ (n : ℕ). IsLayer {N = g.row.N} (n + 1) piece c.args.cap.now entering layer) c.loop-piece.invariant.0 lent in
    let kept = subst (λ (ss : List (State g.row.N)). AreWeights ss c.in_ok-entering-2.entering.items) c.as_slice-in-loop-piece-2.ensures.value c.in_ok-entering-2.ensures in
    let grown : c.extend_from_slice.new.self.items ≡ c.loop-piece.states.items ++ layer = c.in_ok-extend_from_slice.ensures.items ∙ ap (λ (ss : List (State g.row.N)). c.loop-piece.states.items ++ ss) c.as_slice-in-loop-piece.ensures.value in (
      omega (arith, c.loop-piece.invariant.0),
      rw grown (so_far-more c.args.pieces.now c.args.cap.now k piece c.loop-piece.states.items layer entering c.in_ok-entering-2.entering.items c.loop-piece-test.true (sym c.piece-item.is) c.loop-piece.invariant.1 is kept),
    )

pub returns : goal.returns
returns g c =
    let all : c.loop-piece.piece-index ≡ length c.args.pieces.now = omega arith in
    let so_far = subst (λ (n : ℕ). SoFar c.args.pieces.now c.args.cap.now n c.loop-piece.states.items c.loop-piece.entering.items) all c.loop-piece.invariant.1 in
    let grown : c.push.new.self.items ≡ c.loop-piece.states.items ++ target c.args.pieces.now c.args.cap.now ∷ [] = c.in_ok-push.ensures.items ∙ ap (λ (s : State g.row.N). c.loop-piece.states.items ++ s ∷ []) c.target_of.ensures in
    rw grown (so_far-end c.args.pieces.now c.args.cap.now c.loop-piece.states.items c.loop-piece.entering.items so_far)

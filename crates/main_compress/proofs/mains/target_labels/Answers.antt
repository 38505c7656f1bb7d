use Rattle.std.proofs.Common.{◌≡◌, ℕ, List, [], length, drop, replicate, sym, ap, ◌∙◌, subst, rules, arith}
use Rattle.std.proofs.lemmas.List.{drop_all}
use Rattle.label_graph.specs.declared.parts.GraphArc.{GraphArc}
use Rattle.label_graph.specs.declared.parts.Mark.TheVariants.{Loss}
use Rattle.main_compress.proofs.Onward.{AreLeft, left-start, arc-known, arc-fits, arc-step}
use Rattle.main_compress.proofs.Targets.{target-labels}
use Rattle.main_compress.proofs.mains.target_labels.Goals as goal

pub loop-index-init : goal.loop-index-init
loop-index-init g c =
    let pieces = c.args.graph.now.pieces in
    let n = length c.args.graph.now.labels in
    let labels : c.in_ok-labels.labels.items ≡ replicate n c.args.cap.now = c.in_ok-labels.ensures.items_if_clones_equal (λ y e. e) ∙ ap (λ (ls : List (List ℕ)). replicate (length ls) c.args.cap.now) c.labels.ensures in
    let none : drop (length c.arcs-arcs.result.now) c.args.graph.now.arcs ≡ [] = drop_all (length c.arcs-arcs.result.now) c.args.graph.now.arcs (omega (arith, ap length c.arcs-arcs.ensures)) in
    subst (λ (arcs : List GraphArc). AreLeft c.args.cap.now pieces arcs n c.in_ok-labels.labels.items) (sym none)
    (subst (λ (ls : List (List ℕ)). AreLeft c.args.cap.now pieces [] n ls) (sym labels) (left-start c.args.cap.now pieces n c.known-2.ensures.places))

pub left_before-left-requires : goal.left_before-left-requires
left_before-left-requires g c = (
  search rules,
  (
    search rules,
    (
      c.requires.small,
      (
        arc-known c.args.cap.now c.args.graph.now c.known.ensures c.requires.fits c.pieces.result.now c.arcs-arcs.result.now c.pieces.ensures c.arcs-arcs.ensures c.loop-index.index (record { tail = 0; head = 0; mark = Loss }) (omega arith) (omega (arith, ap length c.arcs-arcs.ensures)) c.loop-index.labels.items c.loop-index.invariant,
        arc-fits c.args.cap.now c.args.graph.now c.known.ensures c.requires.fits c.pieces.result.now c.arcs-arcs.result.now c.pieces.ensures c.arcs-arcs.ensures c.loop-index.index (record { tail = 0; head = 0; mark = Loss }) (omega arith) (omega (arith, ap length c.arcs-arcs.ensures)) c.loop-index.labels.items c.loop-index.invariant c.index.result.now c.index.ensures,
      ),
    ),
  ),
)

pub loop-index-preserved : goal.loop-index-preserved
loop-index-preserved g c =
    arc-step c.args.cap.now c.args.graph.now c.known.ensures c.requires.fits c.pieces.result.now c.arcs-arcs.result.now c.pieces.ensures c.arcs-arcs.ensures c.loop-index.index (record { tail = 0; head = 0; mark = Loss }) (omega arith) (omega (arith, ap length c.arcs-arcs.ensures)) c.loop-index.labels.items c.loop-index.invariant c.index-in-loop-index.result.now c.index.result.now c.left_before-left.result c.low.result c.index-in-loop-index.ensures c.index.ensures c.left_before-left.ensures c.low.ensures

pub returns : goal.returns
returns g c =
    let start : c.loop-index.index ≡ 0 = omega arith in
    let are = subst (λ (j : ℕ). AreLeft c.args.cap.now c.args.graph.now.pieces (drop j c.args.graph.now.arcs) (length c.args.graph.now.labels) c.loop-index.labels.items) start c.loop-index.invariant in
    target-labels c.args.cap.now c.args.graph.now c.known.ensures c.loop-index.labels.items are

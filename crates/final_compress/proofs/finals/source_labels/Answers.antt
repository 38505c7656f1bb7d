use Rattle.std.proofs.Common.{◌≡◌, ◌<◌, ℕ, List, [], length, take, replicate, sym, ap, ◌∙◌, subst, rules, arith}
use Rattle.std.proofs.lemmas.List.{take_all}
use Rattle.label_graph.specs.declared.parts.GraphArc.{GraphArc}
use Rattle.label_graph.specs.declared.parts.Mark.TheVariants.{Loss}
use Rattle.final_compress.proofs.Arriving.{AreBrought, brought-start, arc-known, arc-range, arc-step}
use Rattle.final_compress.proofs.Sources.{source-labels}
use Rattle.final_compress.proofs.finals.source_labels.Goals as goal

pub loop-arc-init : goal.loop-arc-init
loop-arc-init g c =
    let pieces = c.args.graph.now.pieces in
    let n = length c.args.graph.now.labels in
    let labels : c.in_ok-labels.labels.items ≡ replicate n (replicate g.row.N 0) = c.in_ok-labels.ensures.items_if_clones_equal (λ y e. e) ∙ (λ i. replicate (length (c.labels.ensures i)) (c.zero.ensures i)) in
    subst (λ (ls : List (List ℕ)). AreBrought pieces [] n ls) (sym labels) (brought-start pieces n)

pub brought_by-brought-requires : goal.brought_by-brought-requires
brought_by-brought-requires g c =
    let lt : c.loop-arc.arc-index < length c.args.graph.now.arcs = omega (arith, ap length c.arcs-arc-items.ensures) in (
      search rules,
      (
        search rules,
        (
          c.requires.small,
          (
            arc-known c.args.graph.now c.known.ensures c.pieces.result.now c.arcs-arc-items.result.now c.pieces.ensures c.arcs-arc-items.ensures c.loop-arc.arc-index (record { tail = 0; head = 0; mark = Loss }) lt c.loop-arc.labels.items c.loop-arc.invariant,
            arc-range c.args.graph.now c.known.ensures c.pieces.result.now c.arcs-arc-items.result.now c.pieces.ensures c.arcs-arc-items.ensures c.loop-arc.arc-index (record { tail = 0; head = 0; mark = Loss }) lt c.loop-arc.labels.items c.loop-arc.invariant c.index.result.now c.index.ensures,
          ),
        ),
      ),
    )

pub loop-arc-preserved : goal.loop-arc-preserved
loop-arc-preserved g c =
    let lt : c.loop-arc.arc-index < length c.args.graph.now.arcs = omega (arith, ap length c.arcs-arc-items.ensures) in
    arc-step c.args.graph.now c.known.ensures c.pieces.result.now c.arcs-arc-items.result.now c.pieces.ensures c.arcs-arc-items.ensures c.loop-arc.arc-index (record { tail = 0; head = 0; mark = Loss }) lt c.loop-arc.labels.items c.loop-arc.invariant c.index-in-loop-arc.result.now c.index.result.now c.brought_by-brought.result c.high.result c.index-in-loop-arc.ensures c.index.ensures c.brought_by-brought.ensures c.high.ensures

pub returns : goal.returns
returns g c =
    let all : take c.loop-arc.arc-index c.args.graph.now.arcs ≡ c.args.graph.now.arcs = take_all c.loop-arc.arc-index c.args.graph.now.arcs (omega (arith, ap length c.arcs-arc-items.ensures)) in
    let are = subst (λ (arcs : List GraphArc). AreBrought c.args.graph.now.pieces arcs (length c.args.graph.now.labels) c.loop-arc.labels.items) all c.loop-arc.invariant in
    source-labels c.args.graph.now c.known.ensures c.loop-arc.labels.items are

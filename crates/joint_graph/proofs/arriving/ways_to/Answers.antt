use Rattle.std.proofs.Common.{◌≡◌, ◌<◌, ◌+◌, ℕ, List, [], length, take, replicate, sym, ap, ◌∙◌, subst, rules, arith}
use Rattle.std.proofs.lemmas.List.{take_all}
use Rattle.label_graph.specs.declared.parts.GraphArc.{GraphArc}
use Rattle.label_graph.specs.declared.parts.Mark.TheVariants.{Loss}
use Rattle.final_compress.proofs.Arriving.{AreBrought, brought-start}
use Rattle.joint_graph.specs.Joints.{node_count}
use Rattle.joint_graph.proofs.Arrivals.{arc-known, arc-range, arc-step, ways-to}
use Rattle.joint_graph.proofs.arriving.ways_to.Goals as goal

pub loop-arc-init : goal.loop-arc-init
loop-arc-init g c =
    let n = node_count c.args.graph.now in
    let count : c.inner-inner.result + length c.caps.result.now ≡ n = omega (arith, c.inner-inner.ensures, ap length c.caps.ensures) in
    let weights : c.in_ok-weights.weights.items ≡ replicate n (replicate g.row.N 0) = c.in_ok-weights.ensures.items_if_clones_equal (λ y e. e) ∙ (λ i. replicate (count i) (c.zero.ensures i)) in
    subst (λ (ls : List (List ℕ)). AreBrought c.args.graph.now.pieces [] n ls) (sym weights) (brought-start c.args.graph.now.pieces n)

pub carried-brought-requires : goal.carried-brought-requires
carried-brought-requires g c =
    let lt : c.loop-arc.arc-index < length c.args.graph.now.arcs = omega (arith, ap length c.arcs-arc-items.ensures) in (
      search rules,
      (
        search rules,
        (
          c.requires.small,
          (
            arc-known g.row.N c.args.graph.now c.known.ensures c.pieces.result.now c.arcs-arc-items.result.now c.pieces.ensures c.arcs-arc-items.ensures c.loop-arc.arc-index (record { tail = 0; head = 0; mark = Loss }) lt c.loop-arc.weights.items c.loop-arc.invariant,
            arc-range g.row.N c.args.graph.now c.known.ensures c.pieces.result.now c.arcs-arc-items.result.now c.pieces.ensures c.arcs-arc-items.ensures c.loop-arc.arc-index (record { tail = 0; head = 0; mark = Loss }) lt c.loop-arc.weights.items c.loop-arc.invariant c.index.result.now c.index.ensures,
          ),
        ),
      ),
    )

pub loop-arc-preserved : goal.loop-arc-preserved
loop-arc-preserved g c =
    let lt : c.loop-arc.arc-index < length c.args.graph.now.arcs = omega (arith, ap length c.arcs-arc-items.ensures) in
    arc-step g.row.N c.args.graph.now c.known.ensures c.pieces.result.now c.arcs-arc-items.result.now c.pieces.ensures c.arcs-arc-items.ensures c.loop-arc.arc-index (record { tail = 0; head = 0; mark = Loss }) lt c.loop-arc.weights.items c.loop-arc.invariant c.index-in-loop-arc.result.now c.index.result.now c.carried-brought.result c.high.result c.index-in-loop-arc.ensures c.index.ensures c.carried-brought.ensures c.high.ensures

pub returns : goal.returns
returns g c =
    let all : take c.loop-arc.arc-index c.args.graph.now.arcs ≡ c.args.graph.now.arcs = take_all c.loop-arc.arc-index c.args.graph.now.arcs (omega (arith, ap length c.arcs-arc-items.ensures)) in
    let are = subst (λ (arcs : List GraphArc). AreBrought c.args.graph.now.pieces arcs (node_count c.args.graph.now) c.loop-arc.weights.items) all c.loop-arc.invariant in
    ways-to g.row.N c.args.graph.now c.known.ensures c.loop-arc.weights.items are

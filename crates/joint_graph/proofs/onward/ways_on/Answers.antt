use Rattle.std.proofs.Common.{◌≡◌, ◌+◌, ◌-◌, ℕ, List, [], Some, length, drop, set, sym, ap, subst, rules, arith}
use Rattle.std.proofs.lemmas.List.{drop_all}
use Rattle.label_graph.specs.declared.parts.GraphArc.{GraphArc}
use Rattle.label_graph.specs.declared.parts.Mark.TheVariants.{Loss}
use Rattle.joint_graph.specs.Joints.{node_count}
use Rattle.joint_graph.specs.inner.Passes.{AreWaysAlong}
use Rattle.joint_graph.proofs.WayPasses.{ways-start, arc-known, arc-range, arc-step}
use Rattle.joint_graph.proofs.onward.ways_on.Goals as goal

pub loop-index-init : goal.loop-index-init
loop-index-init g c =
    let graph = c.args.graph.now in
    let index = c.inner-inner.result + c.args.t - 1 in
    let sized : length c.in_ok-ways.ways.items ≡ node_count graph = omega (arith, c.in_ok-ways.ensures.sized, c.inner-inner.ensures, ap length c.caps.ensures) in
    let none : drop (length c.arcs-arcs.result.now) graph.arcs ≡ [] = drop_all (length c.arcs-arcs.result.now) graph.arcs (omega (arith, ap length c.arcs-arcs.ensures)) in
    let start = ways-start g.row.N graph c.known.ensures c.args.t c.requires.in_range c.in_ok-ways.ways.items sized c.in_ok-ways.ensures.empty index (omega (arith, c.inner-inner.ensures)) in
    let made = subst (λ (z : List ℕ). AreWaysAlong {N = g.row.N} graph c.args.t [] (set c.in_ok-ways.ways.items index (Some z))) (sym c.zero.ensures) start in
    subst (λ (arcs : List GraphArc). AreWaysAlong {N = g.row.N} graph c.args.t arcs (set c.in_ok-ways.ways.items index (Some c.zero.result))) (sym none) made

pub relaxed-requires : goal.relaxed-requires
relaxed-requires g c = (
  search rules,
  (
    search rules,
    (
      c.requires.small,
      (
        arc-known g.row.N c.args.graph.now c.known.ensures c.args.t c.pieces.result.now c.arcs-arcs.result.now c.pieces.ensures c.arcs-arcs.ensures c.loop-index.index (record { tail = 0; head = 0; mark = Loss }) (omega arith) (omega (arith, ap length c.arcs-arcs.ensures)) c.loop-index.ways.items c.loop-index.invariant,
        arc-range g.row.N c.args.graph.now c.known.ensures c.args.t c.pieces.result.now c.arcs-arcs.result.now c.pieces.ensures c.arcs-arcs.ensures c.loop-index.index (record { tail = 0; head = 0; mark = Loss }) (omega arith) (omega (arith, ap length c.arcs-arcs.ensures)) c.loop-index.ways.items c.loop-index.invariant c.index-behind.result.now c.index-behind.ensures,
      ),
    ),
  ),
)

pub loop-index-preserved : goal.loop-index-preserved
loop-index-preserved g c =
    arc-step g.row.N c.args.graph.now c.known.ensures c.args.t c.pieces.result.now c.arcs-arcs.result.now c.pieces.ensures c.arcs-arcs.ensures c.loop-index.index (record { tail = 0; head = 0; mark = Loss }) (omega arith) (omega (arith, ap length c.arcs-arcs.ensures)) c.loop-index.ways.items c.loop-index.invariant c.index-here.result.now c.index-behind.result.now c.relaxed.result c.index-here.ensures c.index-behind.ensures c.relaxed.ensures

pub returns : goal.returns
returns g c =
    let start : c.loop-index.index ≡ 0 = omega arith in
    subst (λ (j : ℕ). AreWaysAlong {N = g.row.N} c.args.graph.now c.args.t (drop j c.args.graph.now.arcs) c.loop-index.ways.items) start c.loop-index.invariant

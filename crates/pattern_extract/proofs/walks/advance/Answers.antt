use Rattle.std.proofs.Common.{List, sym, subst}
use Rattle.flow_graph.specs.declared.parts.ArcKind.{ArcKind}
use Rattle.pattern_extract.specs.inner.Walks.{IsWayOn}
use Rattle.pattern_extract.proofs.Cursors.{cursors-set}
use Rattle.pattern_extract.proofs.walks.advance.Goals as goal

pub next_way-place-requires-clause-some : goal.next_way-place-requires-clause-some
next_way-place-requires-clause-some c =
    let some = c.requires.some in
    (some.0, c.requires.cursors c.args.node some.0 c.requires.node.0 some.1, subst (λ (kinds : List ArcKind). IsWayOn kinds c.args.left.now c.args.t c.args.node some.0) (sym c.row.ensures) some.1)

pub returns-clause-cursors : goal.returns-clause-cursors
returns-clause-cursors c =
    cursors-set c.args.graph.now c.args.t c.args.left.now c.args.cursors.now c.args.node c.next_way-place.result c.requires.cursors c.requires.node.0 c.requires.node.1
    (λ k low way. c.next_way-place.ensures.first k low (subst (λ (kinds : List ArcKind). IsWayOn kinds c.args.left.now c.args.t c.args.node k) (sym c.row.ensures) way))

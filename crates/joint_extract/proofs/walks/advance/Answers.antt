use Rattle.std.proofs.Common.{List, sym, subst}
use Rattle.flow_graph.specs.declared.parts.ArcKind.{ArcKind}
use Rattle.joint_extract.specs.inner.Circuits.{IsWayOn}
use Rattle.joint_extract.proofs.Cursors.{cursors-set}
use Rattle.joint_extract.proofs.walks.advance.Goals as goal

pub next_way-place-requires-clause-some : goal.next_way-place-requires-clause-some
next_way-place-requires-clause-some c =
    let some = c.requires.some in
    (some.0, c.requires.cursors c.args.node some.0 c.requires.node.0 some.1, subst (λ (row : List ArcKind). IsWayOn row c.args.left.now c.args.node some.0) (sym c.row.ensures) some.1)

pub returns-clause-cursors : goal.returns-clause-cursors
returns-clause-cursors c =
    cursors-set c.args.graph.now c.args.left.now c.args.cursors.now c.args.node c.next_way-place.result c.requires.cursors c.requires.node.0 c.requires.node.1
    (λ k low way. c.next_way-place.ensures.first k low (subst (λ (row : List ArcKind). IsWayOn row c.args.left.now c.args.node k) (sym c.row.ensures) way))

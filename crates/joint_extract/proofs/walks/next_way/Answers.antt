use Rattle.std.proofs.Common.{◌<◌, ◌≤◌, length, arith}
use Rattle.flow_graph.specs.declared.parts.ArcKind.TheVariants.{Bin}
use Rattle.joint_extract.proofs.Cursors.{not-on, none-left, first-way, no-way-more, way-within}
use Rattle.joint_extract.proofs.walks.next_way.Goals as goal
use Rattle.joint_extract.proofs.walks.next_way.Goals.{else-left-place-gt0-via-then-left-place-gt0+else-start-node, else-left-place-gt0-via-else-left-place-gt0}

pub returns-then-start-node-clause-first : goal.returns-then-start-node-clause-first
returns-then-start-node-clause-first c = first-way c.args.row.now c.args.left.now c.args.node c.args.from c.loop-place.place c.loop-place.invariant

pub loop-place-preserved : goal.loop-place-preserved
loop-place-preserved c =
    no-way-more c.args.row.now c.args.left.now c.args.node c.args.from c.loop-place.place c.loop-place.invariant
    (elim c.else-left-place-gt0.branch [
      | else-left-place-gt0-via-then-left-place-gt0+else-start-node w ↦ not-on c.args.row.now c.args.left.now c.args.node c.loop-place.place w.start.result (Bin 0) w.start.ensures w.if-start-node.false
      | else-left-place-gt0-via-else-left-place-gt0 w ↦ none-left c.args.row.now c.args.left.now c.args.node c.loop-place.place w.if-left-place-gt0.false
    ])

pub unreachable-requires : goal.unreachable-requires
unreachable-requires c =
    let some = c.requires.some in
    let within : some.0 < length c.args.row.now = way-within c.args.row.now c.args.left.now c.args.node some.0 some.2 in
    let end : length c.args.row.now ≤ c.loop-place.place = c.loop-place-test.false in
    c.loop-place.invariant some.0 some.1 (omega (arith, within, end)) some.2

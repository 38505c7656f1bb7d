use Rattle.std.proofs.Common.{sym, rules}
use Rattle.joint_graph.proofs.FoundStates.{found-more, reached-piece}
use Rattle.joint_graph.proofs.states.look_at.Goals as goal

pub take-taken-requires : goal.take-taken-requires
take-taken-requires g c =
    let s = c.state_at-state.result in
    let low = reached-piece c.args.pieces.now c.args.caps.now s (c.requires.found.reached s (c.args.index, c.requires.index, sym c.state_at-state.ensures)) in
    (search rules, (search rules, (search rules, (c.requires.small, (c.requires.ranged, low)))))

pub returns : goal.returns
returns g c =
    found-more c.args.pieces.now c.args.caps.now c.args.found.now.keys c.add.new.set.keys c.add-2.new.set.keys c.args.index c.state_at-state.result c.take-taken.result c.skip-skipped.result c.requires.index c.state_at-state.ensures c.requires.found c.take-taken.ensures c.skip-skipped.ensures c.in_ok-add.ensures c.in_ok-add-2.ensures

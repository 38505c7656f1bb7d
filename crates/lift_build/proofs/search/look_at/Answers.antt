use Rattle.std.proofs.Common.{rules}
use Rattle.label_graph.specs.declared.parts.Mark.TheVariants.{Loss}
use Rattle.lift_build.specs.inner.Searches.{state_of}
use Rattle.lift_build.proofs.Waiting.{lift-ahead}
use Rattle.lift_build.proofs.search.look_at.Goals as goal

pub wait_for-requires : goal.wait_for-requires
wait_for-requires g c =
    (search rules, (search rules, (search rules, (search rules, (search rules, (c.requires.small, (c.requires.stack, (c.requires.frame, (lift-ahead c.args.pieces.now c.args.cap.now c.known.ensures.places c.args.found.now (state_of c.args.frame.state) Loss c.in-Lifted.next c.requires.frame.lift c.in-Lifted.ensures, c.in-Lifted.ensures.3)))))))))

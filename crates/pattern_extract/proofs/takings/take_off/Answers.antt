use Rattle.std.proofs.Common.{get_or, refl}
use Rattle.pattern_extract.proofs.Moves.{taken-more}
use Rattle.pattern_extract.proofs.takings.take_off.Goals as goal

pub loop-arc-preserved : goal.loop-arc-preserved
loop-arc-preserved c =
    taken-more c.args.left.now c.loop-arc.left c.args.times c.loop-arc.arc-index (get_or c.args.arcs.now c.loop-arc.arc-index 0) c.args.arcs.now c.loop-arc.invariant c.loop-arc.auto.left c.loop-arc-test.true refl c.requires.left.apart c.requires.left.each

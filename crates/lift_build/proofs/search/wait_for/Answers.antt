use Rattle.lift_build.proofs.Waiting.{waits-more}
use Rattle.lift_build.proofs.search.wait_for.Goals as goal

pub returns : goal.returns
returns g c = waits-more c.args._pieces.now c.args._cap.now c.args._found.now c.args.stack.now.items c.put.new.stack.items c.put-2.new.stack.items c.args.frame c.args.next c.requires.stack c.requires.frame c.requires.lift c.requires.within c.in_ok-put.ensures c.in_ok-put-2.ensures

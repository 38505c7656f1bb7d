-- The item has a cap.
use Rattle.first_fit.proofs.FilledBins.{most-capped}
use Rattle.first_fit.proofs.filling.most_of.Goals as goal

pub returns-in-Some : goal.returns-in-Some
returns-in-Some c =
    most-capped c.args.instance.now c.args.rest.now c.args.item c.entry-left.result c.in-Some.cap c.min.result c.known.ensures c.requires.item c.entry-left.ensures c.in-Some.ensures.some c.min.ensures

use Rattle.mps_text.proofs.Places.{names_added}
use Rattle.mps_text.proofs.names.Names.add.Goals as goal

pub returns-clause-ok : goal.returns-clause-ok
returns-clause-ok c = names_added c.args.name c.self.inside.set.keys c.insert.new.self.keys c.args.self.now c.self.view_is c.requires c.in_ok-insert.ensures.keys

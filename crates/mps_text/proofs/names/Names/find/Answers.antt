use Rattle.std.proofs.Common.{◌∙◌}
use Rattle.mps_text.proofs.Places.{place_by}
use Rattle.mps_text.proofs.names.Names.find.Goals as goal

pub returns : goal.returns
returns c = c.get_index_of.ensures.index ∙ place_by c.args.name.now c.self.inside.set.keys c.args.self.now c.self.view_is

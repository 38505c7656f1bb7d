use Rattle.cert_text.proofs.Cuts.{none_left}
use Rattle.cert_text.proofs.fields.Fields.is_empty.Goals as goal

pub returns : goal.returns
returns c = none_left c.self.inside.is_done c.self.inside.rest.now c.args.self.now c.self.view_is

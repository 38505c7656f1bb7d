use Rattle.std.proofs.Common.{◌∙◌, sym}
use Rattle.cert_text.proofs.Cuts.{first_left, last_left}
use Rattle.cert_text.proofs.fields.Fields.next.Goals as goal

pub returns-in-Some : goal.returns-in-Some
returns-in-Some c =
    first_left c.self.inside.is_done c.self.inside.rest.now c.args.self.now c.in-Some.end c.self.view_is c.if-self.false (sym c.first_place.ensures ∙ c.in-Some.is)

pub returns-in-None : goal.returns-in-None
returns-in-None c =
    last_left c.self.inside.is_done c.self.inside.rest.now c.args.self.now c.self.view_is c.if-self.false (sym c.first_place.ensures ∙ c.in-None.is)

use Rattle.arc_num.specs.declared.TheConstants.{MAX_PRICE}
use Rattle.cert_text.proofs.Places.{number_takes}
use Rattle.cert_text.proofs.parse.bound.Goals as goal

pub goal-requires : goal.goal-requires
goal-requires c = (number_takes 0 MAX_PRICE c.args.fields.now c.in_ok-bound.bound c.number_field.new.fields c.in_ok-bound.ensures).1.1

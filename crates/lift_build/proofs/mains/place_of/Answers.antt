use Rattle.lift_build.proofs.LabelSearch.{label_never_missed, label_found}
use Rattle.lift_build.proofs.mains.place_of.Goals as goal

pub unreachable-requires : goal.unreachable-requires
unreachable-requires g c = label_never_missed c.args.sorted.now c.args.label.now c.in-Err.field-0 c.requires.ordered c.requires.there c.in-Err.ensures.position

pub returns : goal.returns
returns g c = label_found c.args.sorted.now c.args.label.now c.in-Ok.index c.in-Ok.ensures.bound c.in-Ok.ensures.ok

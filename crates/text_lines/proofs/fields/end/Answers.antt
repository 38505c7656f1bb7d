use Rattle.std.proofs.Common.{sym, arith}
use Rattle.text_lines.specs.Lines.{parts_fields}
use Rattle.arc_num.proofs.Places.{place_some, place_none}
use Rattle.text_lines.proofs.fields.end.Goals as goal

pub returns-in-Some : goal.returns-in-Some
returns-in-Some c =
    let place = place_some parts_fields c.args.line.now c.in-Some.at (sym c.in-Some.ensures) in
    record { at = place.0; within = omega (arith, place.1) }

pub returns-in-None : goal.returns-in-None
returns-in-None c = record { at = place_none parts_fields c.args.line.now (sym c.in-None.ensures); within = omega arith }

use Rattle.std.proofs.Common.{sym, arith}
use Rattle.std.specs.Prelude.{bytes_eq}
use Rattle.arc_num.proofs.Places.{place_some}
use Rattle.solution_text.specs.Fields.{column_names}
use Rattle.solution_text.proofs.ColumnNames.{column_count}
use Rattle.solution_text.proofs.lines.read_fields.Goals as goal

pub put-requires : goal.put-requires
put-requires c =
    let place = place_some (bytes_eq c.in-Some.fields.0.now) (column_names c.args.graph.now) c.in-Some-column_place.place (sym c.in-Some-column_place.ensures) in
    let within = place.1 in
    let count = column_count c.args.graph.now in
    omega (arith, within, count, c.requires)

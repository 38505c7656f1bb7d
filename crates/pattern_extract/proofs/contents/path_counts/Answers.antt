use Rattle.std.proofs.Common.{◌++◌, ◌∙◌, ◌-◌, List, sym, ap, get_or}
use Rattle.std.specs.Option.{option_to_list}
use Rattle.packing_laws.specs.declared.packings.Count.{Count}
use Rattle.flow_graph.specs.declared.parts.ArcKind.TheVariants.{Bin}
use Rattle.pattern_extract.specs.Extracts.{unit_on}
use Rattle.pattern_extract.proofs.PathContents.{units-more}
use Rattle.pattern_extract.proofs.contents.path_counts.Goals as goal

pub loop-arc-preserved : goal.loop-arc-preserved
loop-arc-preserved c =
    let a = get_or c.args.arcs.now c.loop-arc.arc-index 0 in
    c.in_ok-put_unit.ensures ∙ ap (λ (counts : List Count). counts ++ option_to_list (unit_on (get_or c.args.row.now (a - 1) (Bin 0)))) c.loop-arc.invariant ∙ sym (units-more c.args.row.now c.args.arcs.now c.loop-arc.arc-index c.loop-arc-test.true)

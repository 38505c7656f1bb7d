use Rattle.std.proofs.Common.{List, subst, rules, length, ◌≡◌}
use Rattle.arc_num.specs.declared.TheConstants.{MAX_ITEMS}
use Rattle.flow_graph.specs.declared.parts.ArcKind.{ArcKind}
use Rattle.flow_graph.specs.Arcs.{numbered}
use Rattle.needs_check.specs.inner.Laid.{HoldsCarried}
use Rattle.needs_check.proofs.LaidNeeds.{served_where}
use Rattle.needs_check.proofs.demands.are_served.Goals as goal

pub returns : goal.returns
returns c =
    let held : HoldsCarried (numbered c.args.graph.now) c.args.values.now c.take_carried.new.carried = subst (λ (kinds : List ArcKind). HoldsCarried kinds c.args.values.now c.take_carried.new.carried) c.row.ensures c.take_carried.ensures in
    let room : length c.take_carried.new.carried ≡ MAX_ITEMS = search rules in
    served_where c.args.instance.now c.args.graph.now c.args.scale c.args.values.now c.take_carried.new.carried c.reach_demands.result room c.graph.ensures.items held c.reach_demands.ensures

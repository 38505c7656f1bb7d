use Rattle.std.proofs.Common.{◌≡◌, ◌+◌, ◌<◌, ◌≤◌, length, sum_by, ap, ◌∙◌, rules}
use Rattle.arc_num.specs.declared.TheConstants.{MAX_ARCS, MAX_TYPES}
use Rattle.flow_graph.proofs.Numbers.{stored_push}
use Rattle.flow_graph.specs.Arcs.{TypeValue}
use Rattle.flow_graph.proofs.graph.FlowGraph.add_type.Goals as goal

pub invariant_of-self-2 : goal.invariant_of-self-2
invariant_of-self-2 c =
    let few : length c.self.inside.types.items < MAX_TYPES = search rules in
    let room : sum_by (λ (x : TypeValue). length x.arcs) c.self.inside.types.items + length c.args.arcs.now ≤ MAX_ARCS = search rules in
    let x : TypeValue = record { nodes = c.args.nodes; arcs = c.args.arcs.now } in
    let y : TypeValue = record { nodes = c.args.nodes; arcs = c.in_ok-arcs.arcs.items } in
    let same : y ≡ x = ap (λ arcs. record { nodes = c.args.nodes; arcs = arcs }) c.in_ok-arcs.ensures.items in
    let at : c.len.result + 1 ≡ length c.self.inside.types.items + 1 = search rules in
    stored_push c.self.inside.types.items c.put_both.new.types.items c.self.inside.row.items c.as_slice.result.now c.put_both.new.row.items x y (c.len.result + 1) c.self.invariant c.requires.value few room same at (c.as_slice.ensures.value ∙ c.in_ok-kinds.ensures) c.in_ok-put_both.ensures.types c.in_ok-put_both.ensures.row

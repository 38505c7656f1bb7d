use Rattle.std.proofs.Common.{◌-◌, ◌≤◌, length, rules, arith}
use Rattle.std.proofs.lemmas.Grind.{common_steps}
use Rattle.arc_num.specs.declared.TheConstants.{MAX_NUMBERED}
use Rattle.flow_graph.proofs.Numbers.{few_before, few_to_last}
use Rattle.packing_laws.specs.Instances.{IsAmong}
use Rattle.flow_graph.specs.Arcs.{last_arc}
use Rattle.flow_graph.proofs.graph.FlowGraph.arcs_of.Goals as goal

pub number_after-first-requires : goal.number_after-first-requires
number_after-first-requires c = let few = few_before c.self.inside.types.items c.self.invariant.graph (c.args.t - 1) in grind (arith, common_steps, few)

pub overflow_add-result : goal.overflow_add-result
overflow_add-result c =
    let among : IsAmong c.args.t (length c.self.inside.types.items) = search rules in
    let few : last_arc c.self.inside.types.items c.args.t ≤ MAX_NUMBERED = few_to_last c.self.inside.types.items c.self.invariant.graph c.args.t among in
    grind (arith, common_steps, few)

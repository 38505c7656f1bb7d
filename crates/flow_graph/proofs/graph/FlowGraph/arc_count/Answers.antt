use Rattle.std.proofs.Common.{arith}
use Rattle.std.proofs.lemmas.Grind.{common_steps}
use Rattle.flow_graph.proofs.Numbers.{few_numbered}
use Rattle.flow_graph.proofs.graph.FlowGraph.arc_count.Goals as goal

pub overflow_cast-result : goal.overflow_cast-result
overflow_cast-result c = let few = few_numbered c.self.inside.types.items c.self.invariant.graph in grind (arith, common_steps, few)

pub returns-clause-known : goal.returns-clause-known
returns-clause-known c = let few = few_numbered c.self.inside.types.items c.self.invariant.graph in grind (arith, common_steps, few)

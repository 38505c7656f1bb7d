use Rattle.std.proofs.Common.{rules}
use Rattle.flow_graph.specs.declared.parts.ArcKind.TheVariants.{Bin}
use Rattle.joint_flows.proofs.SumRows.{all_bounded, bounded_more, first_unbounded}
use Rattle.joint_flows.proofs.checks.bad_bound.Goals as goal

pub returns-then-values-index : goal.returns-then-values-index
returns-then-values-index c = first_unbounded c.args.instance.now c.args.graph.now c.args.values.now c.loop-index.index (Bin 0) c.upper-most.result (search rules) (search rules) (search rules) c.loop-index.invariant

pub loop-index-preserved : goal.loop-index-preserved
loop-index-preserved c = bounded_more c.args.instance.now c.args.graph.now c.args.values.now c.loop-index.index (Bin 0) c.upper-most.result (search rules) (search rules) (search rules) c.loop-index.invariant

pub returns : goal.returns
returns c = all_bounded c.args.instance.now c.args.graph.now c.args.values.now c.loop-index.index (search rules) c.loop-index.invariant

use Rattle.std.proofs.Common.{◌≡◌, ℕ, ◌^◌, ◌<◌, add-one, get_or, rules}
use Rattle.flow_graph.specs.declared.parts.ArcKind.TheVariants.{Bin}
use Rattle.flow_model.specs.Flows.{arc_cost}
use Rattle.needs_check.proofs.CostSums.{small_more, cost_more}
use Rattle.needs_check.proofs.costs.row_cost.Goals as goal

pub loop-index-preserved : goal.loop-index-preserved
loop-index-preserved c =
    let i : ℕ = c.loop-index.index in
    let unit : ℕ = c.from.result in
    let x : ℕ = c.from-in-loop-index.result in
    let low : unit < 2 ^ 32 = search rules in
    let small : x < 2 ^ 64 = search rules in
    let one : unit ≡ arc_cost c.args.instance.now (get_or c.args.row.now i (Bin 0)) = search rules in
    record {
      small = small_more c.loop-index.cost i unit x low small c.loop-index.invariant.small;
      sum = rw add-one (cost_more c.args.instance.now c.args.row.now c.args.values.now i c.loop-index.cost unit x (Bin 0) c.loop-index-test.true c.requires.size one c.from-in-loop-index.ensures c.loop-index.invariant.sum);
    }

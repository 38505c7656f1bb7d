use Rattle.std.proofs.Common.{◌≡◌, ℕ, ◌+◌, ◌<◌, ◌≤◌, ap, rules, arith}
use Rattle.std.specs.Prelude.{◌↔◌}
use Rattle.flow_graph.specs.Arcs.{flow_type}
use Rattle.flow_model.specs.declared.flows.FlowRow.TheVariants.{Node}
use Rattle.flow_model.specs.Flows.{Keeps, IsConserved}
use Rattle.flow_model.proofs.BrokenRows.{next_broken, all_hold, conserved_at, each_more}
use Rattle.flow_model.proofs.checks.bad_node_of.Goals as goal

pub returns-then-inflow-outflow : goal.returns-then-inflow-outflow
returns-then-inflow-outflow c =
    let t : ℕ = c.args.t in
    let i : ℕ = c.loop-index.index in
    let within : i < (flow_type c.args.graph.now t).nodes = search rules in
    let at : (c.node-inflow.result.0 ≡ c.node-inflow.result.1) ↔ IsConserved c.args.graph.now c.args.flow.now.values t (i + 1) = conserved_at c.args.instance.now c.args.graph.now c.args.flow.now.values c.args.tally.now c.requires.tally c.requires.sums t i c.start-start.result c.node-inflow.result.0 c.node-inflow.result.1 c.requires.of_type within c.start-start.ensures (ap (λ (r : ℕ × ℕ). r.0) c.node-inflow.ensures) (ap (λ (r : ℕ × ℕ). r.1) c.node-inflow.ensures) in
    next_broken (Keeps c.args.instance.now c.args.graph.now c.args.flow.now.values) (λ v. Node t v) (flow_type c.args.graph.now t).nodes i within c.loop-index.invariant (λ kept. c.if-inflow-outflow.true (at.1 kept))

pub loop-index-preserved : goal.loop-index-preserved
loop-index-preserved c =
    let t : ℕ = c.args.t in
    let i : ℕ = c.loop-index.index in
    let within : i < (flow_type c.args.graph.now t).nodes = search rules in
    let at : (c.node-inflow.result.0 ≡ c.node-inflow.result.1) ↔ IsConserved c.args.graph.now c.args.flow.now.values t (i + 1) = conserved_at c.args.instance.now c.args.graph.now c.args.flow.now.values c.args.tally.now c.requires.tally c.requires.sums t i c.start-start.result c.node-inflow.result.0 c.node-inflow.result.1 c.requires.of_type within c.start-start.ensures (ap (λ (r : ℕ × ℕ). r.0) c.node-inflow.ensures) (ap (λ (r : ℕ × ℕ). r.1) c.node-inflow.ensures) in
    each_more (λ k. IsConserved c.args.graph.now c.args.flow.now.values t k) i c.loop-index.invariant (at.0 c.if-inflow-outflow.false)

pub returns : goal.returns
returns c =
    let n : ℕ = (flow_type c.args.graph.now c.args.t).nodes in
    let whole : n ≤ c.loop-index.index = search rules in
    all_hold (Keeps c.args.instance.now c.args.graph.now c.args.flow.now.values) (λ v. Node c.args.t v) n (λ k among. c.loop-index.invariant k (among.0, omega (arith, among.1, whole)))

use Rattle.std.proofs.Common.{◌≡◌, ℕ, ◌+◌, ◌<◌, ◌≤◌, List, length, get_or, refl, ap, rules, arith}
use Rattle.std.specs.Prelude.{◌↔◌}
use Rattle.packing_laws.specs.Instances.{InstanceValue}
use Rattle.flow_graph.specs.declared.parts.ArcKind.TheVariants.{Bin}
use Rattle.flow_graph.specs.Arcs.{TypeValue, numbered}
use Rattle.flow_model.specs.declared.flows.FlowRow.TheVariants.{Bound}
use Rattle.flow_model.specs.Boxes.{upper_of}
use Rattle.flow_model.specs.Flows.{Keeps, IsBounded}
use Rattle.flow_model.proofs.BrokenRows.{next_broken, all_hold, bounded_at, each_more}
use Rattle.flow_model.proofs.checks.bad_bound.Goals as goal

pub returns-then-values-index : goal.returns-then-values-index
returns-then-values-index c =
    let I : InstanceValue = c.args.instance.now in
    let g : List TypeValue = c.args.graph.now in
    let values : List ℕ = c.args.flow.now.values in
    let i : ℕ = c.loop-kind.index in
    let same : i ≡ c.loop-kind.kind-index = c.loop-kind.invariant.0 in
    let within : i < length (numbered g) = search rules in
    let most : c.from.result ≡ upper_of I (get_or (numbered g) i (Bin 0)) = search rules in
    let above : c.from.result < get_or values i 0 = search rules in
    let at : (get_or values i 0 ≤ c.from.result) ↔ IsBounded I g values (i + 1) = bounded_at I g values i (Bin 0) within (get_or values i 0) c.from.result refl most in
    next_broken (Keeps I g values) (λ a. Bound a) (length (numbered g)) i within (λ k among. c.loop-kind.invariant.1 k (among.0, omega (arith, among.1, same))) (λ kept. let low = at.1 kept in omega (arith, low, above))

pub loop-kind-preserved : goal.loop-kind-preserved
loop-kind-preserved c =
    let I : InstanceValue = c.args.instance.now in
    let g : List TypeValue = c.args.graph.now in
    let values : List ℕ = c.args.flow.now.values in
    let i : ℕ = c.loop-kind.index in
    let j : ℕ = c.loop-kind.kind-index in
    let same : i ≡ j = c.loop-kind.invariant.0 in
    let within : j < length (numbered g) = search rules in
    let most : c.from.result ≡ upper_of I (get_or (numbered g) j (Bin 0)) = search rules in
    let below : get_or values j 0 ≤ c.from.result = search rules in
    let at : (get_or values j 0 ≤ c.from.result) ↔ IsBounded I g values (j + 1) = bounded_at I g values j (Bin 0) within (get_or values j 0) c.from.result refl most in
    (ap (λ (n : ℕ). n + 1) same, each_more (IsBounded I g values) j c.loop-kind.invariant.1 (at.0 below))

pub returns : goal.returns
returns c =
    let n : ℕ = length (numbered c.args.graph.now) in
    let whole : n ≤ c.loop-kind.kind-index = search rules in
    all_hold (Keeps c.args.instance.now c.args.graph.now c.args.flow.now.values) (λ a. Bound a) n (λ k among. c.loop-kind.invariant.1 k (among.0, omega (arith, among.1, whole)))

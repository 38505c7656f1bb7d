use Rattle.std.proofs.Common.{◌≡◌, ℕ, ◌+◌, ◌-◌, ◌<◌, ◌≤◌, List, [], length, get_or, sym, ap, ◌∙◌, subst, rules, arith}
use Rattle.std.specs.Prelude.{◌↔◌}
use Rattle.packing_laws.specs.Instances.{InstanceValue, item_at}
use Rattle.packing_laws.specs.declared.instances.Item.{Item}
use Rattle.flow_graph.specs.Arcs.{TypeValue}
use Rattle.std.proofs.lemmas.List.{get_or_default}
use Rattle.flow_model.specs.declared.flows.FlowRow.TheVariants.{Demand}
use Rattle.flow_model.specs.Flows.{Keeps, IsServed}
use Rattle.flow_model.proofs.BrokenRows.{next_broken, all_hold, served_at, each_more}
use Rattle.flow_model.proofs.checks.bad_demand.Goals as goal

item_demand : (I : InstanceValue) (i j : ℕ) (item : Item) (demand : ℕ) → i ≡ j → i < length I.items → item ≡ get_or I.items j item → demand ≡ item.demand → demand ≡ (item_at I (i + 1)).demand
item_demand I i j item demand same within read asked =
    let e : i + 1 - 1 ≡ i = omega arith in
    let none : Item = record { demand = 0; forms = [] } in
    let at : item ≡ get_or I.items i none = read ∙ get_or_default I.items j item none (omega (arith, within, same)) ∙ ap (λ (n : ℕ). get_or I.items n none) (sym same) in
    rw e (asked ∙ ap (λ (x : Item). x.demand) at)

pub returns-then-item-from : goal.returns-then-item-from
returns-then-item-from c =
    let I : InstanceValue = c.args.instance.now in
    let g : List TypeValue = c.args.graph.now in
    let values : List ℕ = c.args.flow.now.values in
    let i : ℕ = c.loop-item.index in
    let same : i ≡ c.loop-item.item-index = c.loop-item.invariant.0 in
    let within : i < length I.items = search rules in
    let asked : c.from.result ≡ (item_at I (i + 1)).demand = item_demand I i c.loop-item.item-index c.item-item.result c.from.result same within (search rules) (search rules) in
    let at : (c.from.result ≤ c.item.result) ↔ IsServed I g values (i + 1) = served_at I g values c.args.tally.now c.requires.sums i within c.item.result c.from.result c.item.ensures asked in
    let short : c.item.result < c.from.result = c.if-item-from.true in
    next_broken (Keeps I g values) (λ i. Demand i) (length I.items) i within (λ k among. c.loop-item.invariant.1 k (among.0, omega (arith, among.1, same))) (λ kept. let low = at.1 kept in omega (arith, low, short))

pub loop-item-preserved : goal.loop-item-preserved
loop-item-preserved c =
    let I : InstanceValue = c.args.instance.now in
    let g : List TypeValue = c.args.graph.now in
    let values : List ℕ = c.args.flow.now.values in
    let i : ℕ = c.loop-item.index in
    let same : i ≡ c.loop-item.item-index = c.loop-item.invariant.0 in
    let within : i < length I.items = search rules in
    let asked : c.from.result ≡ (item_at I (i + 1)).demand = item_demand I i c.loop-item.item-index c.item-item.result c.from.result same within (search rules) (search rules) in
    let at : (c.from.result ≤ c.item.result) ↔ IsServed I g values (i + 1) = served_at I g values c.args.tally.now c.requires.sums i within c.item.result c.from.result c.item.ensures asked in
    let here : IsServed I g values (c.loop-item.item-index + 1) = subst (λ (n : ℕ). IsServed I g values (n + 1)) same (at.0 c.if-item-from.false) in
    (ap (λ (n : ℕ). n + 1) same, each_more (IsServed I g values) c.loop-item.item-index c.loop-item.invariant.1 here)

pub returns : goal.returns
returns c =
    let n : ℕ = length c.args.instance.now.items in
    let whole : n ≤ c.loop-item.item-index = search rules in
    all_hold (Keeps c.args.instance.now c.args.graph.now c.args.flow.now.values) (λ i. Demand i) n (λ k among. c.loop-item.invariant.1 k (among.0, omega (arith, among.1, whole)))

use Rattle.std.proofs.Common.{◌≡◌, ◌+◌, ◌-◌, ◌<◌, ◌≤◌, ◌^◌, ◌∙◌, ℕ, List, All, length, get_or, sym, ap, subst, arith}
use Rattle.packing_laws.specs.declared.instances.Item.{Item}
use Rattle.packing_laws.specs.Instances.{item_at}
use Rattle.packing_laws.proofs.OneUnitBins.{item-by_number}
use Rattle.flow_graph.specs.declared.parts.ArcKind.{ArcKind}
use Rattle.flow_model.specs.Flows.{carries, weigh_arcs}
use Rattle.pattern_extract.specs.Extracts.{NamesItem}
use Rattle.pattern_extract.proofs.Places.{one_if}
use Rattle.joint_arcs.specs.Joined.{numbered}
use Rattle.joint_extract.proofs.Bounded.{items-named, total-small}
use Rattle.joint_extract.proofs.surpluses.surpluses.Goals as goal

pub carried_units-requires-clause-items : goal.carried_units-requires-clause-items
carried_units-requires-clause-items c =
    let named = items-named c.args.instance.now c.args.graph.now c.requires.graph in
    let sized = subst (λ (items : List Item). All (NamesItem (length items)) (numbered c.args.graph.now)) (sym c.items-items.ensures.value) named in
    subst (λ (row : List ArcKind). All (NamesItem (length c.items-items.result.now)) row) (sym c.row.ensures) sized

pub carried_units-requires-clause-small : goal.carried_units-requires-clause-small
carried_units-requires-clause-small c i =
    let small = total-small c.args.instance.now c.args.graph.now c.args.values.now (carries i) c.known.ensures c.known-2.ensures c.requires.flow in
    subst (λ (row : List ArcKind). weigh_arcs (one_if (carries i)) row c.args.values.now < 2 ^ 64) (sym c.row.ensures) small

pub overflow_sub-units : goal.overflow_sub-units
overflow_sub-units c =
    let I = c.args.instance.now in
    let n = c.loop-place.place in
    let within : n < length I.items = subst (λ (items : List Item). n < length items) c.items-items.ensures.value c.loop-place-test.true in
    let item = item-by_number I c.items-items.result.now n c.index-items-place.result c.items-items.ensures.value c.loop-place-test.true c.index-items-place.is in
    let demand : c.from.result ≡ (item_at I (n + 1)).demand = c.from.ensures ∙ ap (λ (x : Item). x.demand) item in
    let e : n + 1 - 1 ≡ n = omega arith in
    let served = c.requires.flow.demands (n + 1) (omega arith, omega (arith, within)) in
    let left = c.loop-place.invariant.rest (n + 1) (omega arith, omega (arith, within)) (omega arith) in
    subst (λ (k : ℕ). c.from.result ≤ get_or c.loop-place.units k 0) e (omega (arith, demand, served, left))

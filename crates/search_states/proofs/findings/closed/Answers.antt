use Rattle.std.proofs.Common.{◌≡◌, Option, Some, None, subst}
use Rattle.fixed_leaf.specs.declared.leaf.OnlyFlow.{OnlyFlow}
use Rattle.fixed_leaf.specs.Leaves.{Settles}
use Rattle.search_states.proofs.Closed.{closed_bound, closed_empty}
use Rattle.search_states.proofs.findings.closed.Goals as goal

pub returns-in-None : goal.returns-in-None
returns-in-None c =
    let none : c.args.leaf.flow ≡ None = c.in-None.is in
    let settles = subst (λ (f : Option OnlyFlow). Settles c.args.instance.now c.args.graph.now c.args.ranges.now c.args.leaf.prices f) none c.requires.settles in
    closed_empty c.args.instance.now c.args.graph.now c.args.ranges.now c.args.best c.args.leaf.prices _ c.requires.told settles.1 c.requires.best

pub returns-in_ok-known-in-Some : goal.returns-in_ok-known-in-Some
returns-in_ok-known-in-Some c =
    let some : c.args.leaf.flow ≡ Some c.in-Some.only = c.in-Some.is in
    let settles = subst (λ (f : Option OnlyFlow). Settles c.args.instance.now c.args.graph.now c.args.ranges.now c.args.leaf.prices f) some c.requires.settles in
    closed_bound c.material_is_floor.ensures c.args.instance.now c.args.graph.now c.args.ranges.now c.args.best c.better_of-best.result c.in_ok-known-in-Some.known c.args.leaf.prices c.in-Some.only.cost _ c.requires.told settles.1 c.in_ok-known-in-Some.ensures.known c.in_ok-known-in-Some.ensures.cost (c.better_of-best.ensures.known c.args.instance.now c.requires.best c.in_ok-known-in-Some.ensures.known) c.better_of-best.ensures.better c.better_of-best.ensures.other

pub packing_of-requires-clause-only : goal.packing_of-requires-clause-only
packing_of-requires-clause-only c =
    let some : c.args.leaf.flow ≡ Some c.in-Some.only = c.in-Some.is in
    (subst (λ (f : Option OnlyFlow). Settles c.args.instance.now c.args.graph.now c.args.ranges.now c.args.leaf.prices f) some c.requires.settles).0

use Rattle.std.proofs.Common.{◌≡◌, ℕ, List, subst, ◌∙◌}
use Rattle.std.specs.Prelude.{◌↔◌, IsTrue}
use Rattle.flow_model.specs.Flows.{AreConserved, flow_cost}
use Rattle.cert_laws.specs.Needs.{CostsBelow, IsNeeded}
use Rattle.needs_check.specs.inner.Laid.{AreServed, LieInScaled}
use Rattle.needs_check.proofs.LaidNeeds.{needed_is_conserved, needed_is_served, answered, refused}
use Rattle.needs_check.proofs.needs.laid_holds.Goals as goal

pub returns-then-not-are_conserved-clause-value : goal.returns-then-not-are_conserved-clause-value
returns-then-not-are_conserved-clause-value c =
    refused c.are_conserved.result (AreConserved c.args.graph.now c.args.values.now.items) (IsNeeded c.args.instance.now c.args.graph.now c.args.ranges.now c.args.goal c.args.need.now) c.if-not-are_conserved.true c.are_conserved.ensures.value
    (needed_is_conserved c.args.instance.now c.args.graph.now c.args.ranges.now c.args.goal c.args.need.now c.args.values.now.items c.requires.laid c.requires.size)

pub returns-then-not-are_served-clause-value : goal.returns-then-not-are_served-clause-value
returns-then-not-are_served-clause-value c =
    let same : c.as_slice-2.result.now ≡ c.args.values.now.items = c.as_slice-2.ensures.value ∙ c.are_conserved.ensures.values in
    let served : IsTrue c.are_served.result ↔ AreServed c.args.instance.now c.args.graph.now c.args.need.now.scale c.args.values.now.items = subst (λ (xs : List ℕ). IsTrue c.are_served.result ↔ AreServed c.args.instance.now c.args.graph.now c.args.need.now.scale xs) same c.are_served.ensures in
    refused c.are_served.result (AreServed c.args.instance.now c.args.graph.now c.args.need.now.scale c.args.values.now.items) (IsNeeded c.args.instance.now c.args.graph.now c.args.ranges.now c.args.goal c.args.need.now) c.if-not-are_served.true served
    (needed_is_served c.args.instance.now c.args.graph.now c.args.ranges.now c.args.goal c.args.need.now c.args.values.now.items c.requires.laid c.requires.size)

pub returns-clause-value : goal.returns-clause-value
returns-clause-value c =
    let values : List ℕ = c.args.values.now.items in
    let same : c.as_slice-2.result.now ≡ values = c.as_slice-2.ensures.value ∙ c.are_conserved.ensures.values in
    let last : c.as_slice-3.result.now ≡ values = c.as_slice-3.ensures.value ∙ c.are_conserved.ensures.values in
    let inside : LieInScaled c.args.need.now.scale c.args.ranges.now values = subst (LieInScaled c.args.need.now.scale c.args.ranges.now) c.as_slice.ensures.value (c.lie_in.ensures.0 c.if-not-lie_in.false) in
    let served : AreServed c.args.instance.now c.args.graph.now c.args.need.now.scale values = subst (AreServed c.args.instance.now c.args.graph.now c.args.need.now.scale) same (c.are_served.ensures.0 c.if-not-are_served.false) in
    let cheap : IsTrue c.cost_below.result ↔ CostsBelow c.args.goal c.args.need.now.scale (flow_cost c.args.instance.now c.args.graph.now values) = subst (λ (xs : List ℕ). IsTrue c.cost_below.result ↔ CostsBelow c.args.goal c.args.need.now.scale (flow_cost c.args.instance.now c.args.graph.now xs)) last c.cost_below.ensures in
    answered c.args.instance.now c.args.graph.now c.args.ranges.now c.args.goal c.args.need.now values c.requires.laid c.requires.size c.cost_below.result inside (c.are_conserved.ensures.value.0 c.if-not-are_conserved.false) served cheap

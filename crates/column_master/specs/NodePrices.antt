-- What the prices and the flow of a box keep.
use Rattle.std.specs.Prelude.{◌≤◌, List, All, length}
use Rattle.packing_laws.specs.Instances.{InstanceValue}
use Rattle.packing_laws.specs.Floors.{material_of}
use Rattle.flow_graph.specs.Arcs.{TypeValue, numbered}
use Rattle.flow_model.specs.Flows.{AreConserved}
use Rattle.cert_text.specs.declared.lines.Prices.{Prices}
use Rattle.cert_text.specs.declared.lines.Need.{Need}
use Rattle.cert_text.specs.declared.lines.Claim.{Claim}
use Rattle.cert_text.specs.declared.lines.Claim.TheVariants.{Bound}
use Rattle.cert_text.specs.declared.lines.TreeLine.TheVariants.{Leaf}
use Rattle.cert_text.specs.Lines.{ArePrices, IsNeed}
use Rattle.cert_laws.specs.Needs.{parts_of}
use Rattle.cert_laws.specs.Rules.{Box, NamesArcs, NamesItems}
use Rattle.cert_laws.specs.Shown.{Closes}
use Rattle.column_master.specs.declared.master.NodePrices.{NodePrices}

-- prices that close a box for a claim: a line can tell them, their items and arcs exist, no bin gains more than it costs, and
-- what they are worth there is enough
pub record AreClosing (I : InstanceValue) (g : List TypeValue) (box : Box) (claim : Claim) (p : Prices) : Type 0 where
  pub prices : ArePrices p
  pub items : NamesItems I (Leaf p)
  pub arcs : NamesArcs g (Leaf p)
  pub closes : Closes I g p box claim

-- prices of a box: a line can tell them, their items and arcs exist, no bin gains more than it costs, and what they are worth
-- there closes the box for the material bound
pub record ArePricesOf (I : InstanceValue) (g : List TypeValue) (box : Box) (p : Prices) : Type 0 where
  pub prices : ArePrices p
  pub items : NamesItems I (Leaf p)
  pub arcs : NamesArcs g (Leaf p)
  pub closes : Closes I g p box (Bound (material_of I))

-- a flow in fractions: a line can tell it, its arcs exist, and what comes into each node goes out of it
pub record IsFlowOf (g : List TypeValue) (flow : Need) : Type 0 where
  pub told : IsNeed flow
  pub arcs : All (λ x. x.arc ≤ length (numbered g)) flow.parts
  pub conserved : AreConserved g (parts_of g flow)

-- what a box is answered
pub record AreNodePrices (I : InstanceValue) (g : List TypeValue) (box : Box) (n : NodePrices) : Type 0 where
  pub prices : ArePricesOf I g box n.prices
  pub flow : IsFlowOf g n.flow

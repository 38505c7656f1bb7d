-- Boxes in which each chord has one value, and what closes them.
use Rattle.std.specs.Prelude.{◌≡◌, ℕ, ◌-◌, ◌≤◌, Bool, true, false, List, Option, None, Some, length, slice_index_or}
use Rattle.packing_laws.specs.Instances.{InstanceValue, IsAmong}
use Rattle.flow_graph.specs.Arcs.{TypeValue, numbered}
use Rattle.flow_graph.specs.Chords.{is_chord, range_at}
use Rattle.flow_model.specs.Boxes.{InBox}
use Rattle.flow_model.specs.Flows.{IsFlow, flow_cost}
use Rattle.cert_text.specs.declared.lines.Prices.{Prices}
use Rattle.cert_text.specs.declared.lines.Claim.{Claim}
use Rattle.cert_text.specs.declared.lines.Claim.TheVariants.{Bound}
use Rattle.cert_text.specs.declared.lines.TreeLine.TheVariants.{Leaf}
use Rattle.cert_text.specs.Lines.{ArePrices}
use Rattle.cert_laws.specs.Rules.{Box, NamesArcs, NamesItems}
use Rattle.cert_laws.specs.Shown.{Closes}
use Rattle.fixed_leaf.specs.declared.leaf.OnlyFlow.{OnlyFlow}

-- each chord has one value in the box
abbrev pub ChordsAreFixed : List TypeValue → Box → Type 0
ChordsAreFixed g box = (a : ℕ) → is_chord g a ≡ true → (range_at box a).0 ≡ (range_at box a).1

-- prices that a line can tell, of items and arcs that exist
pub record AreTold (I : InstanceValue) (g : List TypeValue) (p : Prices) : Type 0 where
  pub prices : ArePrices p
  pub items : NamesItems I (Leaf p)
  pub arcs : NamesArcs g (Leaf p)

-- no flow lies in the box
abbrev pub IsFreeOfFlows : InstanceValue → List TypeValue → Box → Type 0
IsFreeOfFlows I g box = (values : List ℕ) → IsFlow I g values → InBox values box → ⊥

-- a flow that lies in the box, as no other does, and what it costs
pub record IsOnlyFlow (I : InstanceValue) (g : List TypeValue) (box : Box) (found : OnlyFlow) : Type 0 where
  pub flow : IsFlow I g found.flow.values
  pub inside : InBox found.flow.values box
  pub only : (other : List ℕ) → IsFlow I g other → InBox other box → other ≡ found.flow.values
  pub cost : found.cost ≡ flow_cost I g found.flow.values

-- what the prices show of the box: where no flow is found none lies in it, and they close it for every claim; else they
-- close it for each bound up to what the one flow in it costs
abbrev pub Settles : InstanceValue → List TypeValue → Box → Prices → Option OnlyFlow → Type 0
Settles I g box p None = IsFreeOfFlows I g box × ((claim : Claim) → Closes I g p box claim)
Settles I g box p (Some found) = IsOnlyFlow I g box found × ((bound : ℕ) → bound ≤ found.cost → Closes I g p box (Bound bound))

-- for each arc, by number, whether it is a chord
pub record TellsChords (g : List TypeValue) (chords : List Bool) : Type 0 where
  pub size : length chords ≡ length (numbered g)
  pub each : (a : ℕ) → IsAmong a (length (numbered g)) → slice_index_or chords (a - 1) false ≡ is_chord g a

-- When prices do not close a box.
use Rattle.std.specs.Prelude.{ℕ, ◌≤◌, ◌<◌, List, length}
use Rattle.packing_laws.specs.Instances.{InstanceValue, IsAmong}
use Rattle.flow_graph.specs.Arcs.{TypeValue}
use Rattle.cert_text.specs.declared.lines.Claim.{Claim}
use Rattle.cert_text.specs.declared.lines.Prices.{Prices}
use Rattle.cert_text.specs.declared.lines.TreeLine.TheVariants as place
use Rattle.cert_laws.specs.Rules.{Box, GainsWithin, IsStrong}
use Rattle.leaf_check.specs.declared.leaves.LeafFault.{LeafFault}
use Rattle.leaf_check.specs.declared.leaves.LeafFault.TheVariants.{Gain, Weak}

-- why they do not: bins of a type gain more than they cost, and of no type before it; or bins of no type do, but the prices
-- are worth too little there
abbrev pub IsLeafFault : InstanceValue → List TypeValue → Prices → Box → Claim → LeafFault → Type 0
IsLeafFault I g prices box claim (Gain t) = IsAmong t (length g) × (GainsWithin I g t (place.Leaf prices) → ⊥) × ((s : ℕ) → 1 ≤ s → s < t → GainsWithin I g s (place.Leaf prices))
IsLeafFault I g prices box claim Weak = ((t : ℕ) → IsAmong t (length g) → GainsWithin I g t (place.Leaf prices)) × (IsStrong I box claim (place.Leaf prices) → ⊥)

-- The first type of which a bin gains more than it costs.
use Rattle.std.specs.Prelude.{ℕ, ◌*◌, ◌≤◌, ◌<◌, pos, List, Option, None, Some, length}
use Rattle.packing_laws.specs.Instances.{InstanceValue, IsAmong}
use Rattle.packing_laws.specs.Packings.{cost_at}
use Rattle.cert_text.specs.declared.lines.Prices.{Prices}
use Rattle.flow_graph.specs.Arcs.{TypeValue}
use Rattle.path_prices.specs.Gains.{GainsAtMost}

-- no bin of type t gains more than it costs, in units of the scale
abbrev pub GainsItsCost : InstanceValue → List TypeValue → Prices → ℕ → Type 0
GainsItsCost I g p t = GainsAtMost g p t (pos (p.scale * cost_at I t))

-- the first type, if there is one, of which a bin gains more than it costs
abbrev pub FirstExcess : InstanceValue → List TypeValue → Prices → Option ℕ → Type 0
FirstExcess I g p None = (t : ℕ) → IsAmong t (length g) → GainsItsCost I g p t
FirstExcess I g p (Some t) = IsAmong t (length g) × (GainsItsCost I g p t → ⊥) × ((s : ℕ) → 1 ≤ s → s < t → GainsItsCost I g p s)

-- What is known of boxes.
use Rattle.std.proofs.Common.{ℕ, ◌≤◌, List, arith}
use Rattle.packing_laws.specs.Instances.{InstanceValue}
use Rattle.packing_laws.specs.Floors.{material_of}
use Rattle.flow_graph.specs.Arcs.{TypeValue, IsFlowGraph}
use Rattle.flow_graph.specs.Faithful.{IsFaithful}
use Rattle.cert_text.specs.declared.lines.Claim.{Claim}
use Rattle.cert_text.specs.declared.lines.Claim.TheVariants.{Bound, Empty}
use Rattle.cert_text.specs.declared.lines.Prices.{Prices}
use Rattle.cert_text.specs.declared.lines.TreeLine.TheVariants.{Leaf}
use Rattle.cert_text.specs.Lines.{IsClaim}
use Rattle.cert_laws.specs.Rules.{Box, IsStrong}
use Rattle.bound_certificates.specs.MaterialPrices.{ClosesAll}
use Rattle.column_master.specs.NodePrices.{ArePricesOf}
use Rattle.search_tree.specs.declared.places.Shown.{Shown}
use Rattle.search_tree.specs.Trees.{Reaches}
use Rattle.search_states.specs.States.{IsValued}

pub reaches_on : (a b c : Claim) → Reaches a b → Reaches b c → Reaches a c
reaches_on Empty b c first second = tt
reaches_on (Bound x) Empty c first second = absurd first
reaches_on (Bound x) (Bound y) Empty first second = absurd second
reaches_on (Bound x) (Bound y) (Bound z) first second = omega (arith, first, second)

pub valued_by : (I : InstanceValue) (g : List TypeValue) (box : Box) (p : Prices) (claim : Claim) (known : Shown) → ArePricesOf I g box p → IsClaim claim → IsStrong I box claim (Leaf p) → Reaches claim known.claim → IsValued I g box known → IsValued I g box (record { prices = p; claim = claim })
valued_by I g box p claim known priced fits strong reaches valued = (
  record { prices = priced.prices; items = priced.items; arcs = priced.arcs; claim = fits; closes = record { gains = priced.closes.gains; strong = strong } },
  reaches_on claim known.claim (Bound (material_of I)) reaches valued.1,
)

pub valued_material : (I : InstanceValue) (g : List TypeValue) (box : Box) (p : Prices) (bound : ℕ) → IsFlowGraph g → IsFaithful I g → ClosesAll I p bound → IsClaim (Bound bound) → material_of I ≤ bound → IsValued I g box (record { prices = p; claim = Bound bound })
valued_material I g box p bound graph faithful all fits least = (
  record { prices = all.prices; items = all.items; arcs = all.arcs g; claim = fits; closes = all.closes g graph faithful box },
  least,
)

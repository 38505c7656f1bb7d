-- Laws of gains.
use Rattle.std.specs.Prelude.{◌↔◌, ℕ, ℤ, ◌≤ℤ◌, List, length}
use Rattle.packing_laws.specs.Instances.{IsAmong}
use Rattle.cert_text.specs.declared.lines.Prices.{Prices}
use Rattle.flow_graph.specs.Arcs.{TypeValue, IsFlowGraph}
use Rattle.path_prices.specs.Gains.{IsGain, GainsAtMost}

-- a type has a gain
pub record HasGain (g : List TypeValue) (p : Prices) (t : ℕ) : Type 0 where
  pub gain : ℤ
  pub is : IsGain g p t gain

-- each type has a gain, and its bins gain at most z exactly where that is at most z
pub record GainsAreKnown : Type 0 where
  pub types : (g : List TypeValue) (p : Prices) (t : ℕ) → IsFlowGraph g → IsAmong t (length g) → HasGain g p t
  pub most : (g : List TypeValue) (p : Prices) (t : ℕ) (x z : ℤ) → IsGain g p t x → GainsAtMost g p t z ↔ (x ≤ℤ z)

use Rattle.std.proofs.Common.{◌≡◌, ℕ, ◌<◌, ◌≤◌}
use Rattle.cert_text.specs.declared.lines.Prices.{Prices}
use Rattle.cert_text.specs.Lines.{ArePrices}
use Rattle.path_prices.specs.Excess.{GainsItsCost}
use Rattle.path_prices.specs.inner.Tables.{AreLaid}
use Rattle.path_prices.proofs.laid.laid_excess.Given as goal

abbrev pub invariant-loop-t : goal.invariant-loop-t
invariant-loop-t l = (p : Prices) → ArePrices p → p.scale ≡ l.scale → AreLaid p l.items l.arcs → (s : ℕ) → 1 ≤ s → s < l.t → GainsItsCost l.instance l.graph p s

-- What is left in tables of prices while they are cleared.
use Rattle.std.proofs.Common.{◌≡◌, ℕ, ◌+◌, ◌<◌, ℤ, pos, List, length, get_or}
use Rattle.cert_text.specs.declared.lines.ItemPrice.{ItemPrice}
use Rattle.cert_text.specs.declared.lines.ArcPrice.{ArcPrice}
use Rattle.path_prices.specs.Gains.{item_price_in, arc_price_in}

-- where these prices have none of an item, neither has the table
abbrev pub HoldsFewItems : List ItemPrice → List ℕ → Type 0
HoldsFewItems prices table = (k : ℕ) → k < length table → item_price_in prices (k + 1) ≡ 0 → get_or table k 0 ≡ 0

-- where these prices have none of an arc, neither has the table
abbrev pub HoldsFewArcs : List ArcPrice → List ℤ → Type 0
HoldsFewArcs prices table = (k : ℕ) → k < length table → arc_price_in prices (k + 1) ≡ pos 0 → get_or table k (pos 0) ≡ pos 0

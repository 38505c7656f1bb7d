-- What prices are worth in a box: what every flow in the box that meets the demands costs at least, at these prices.
use Rattle.std.specs.Prelude.{◌≡◌, ℕ, ◌-◌, ◌*◌, ◌<◌, ℤ, pos, negsuc, ◌+ℤ◌, ◌-ℤ◌, ◌*ℤ◌, ◌<ℤ◌, List, [], ◌∷◌, sum_by, slice_index_or}
use Rattle.flow_graph.specs.Chords.{range_at}
use Rattle.cert_text.specs.declared.lines.ArcPrice.{ArcPrice}
use Rattle.cert_text.specs.declared.lines.Prices.{Prices}
use Rattle.cert_text.specs.declared.lines.Claim.{Claim}
use Rattle.cert_text.specs.declared.lines.Claim.TheVariants.{Bound}

-- the least that a number in a range is worth at a price: the lower end counts where the price is positive, and the upper
-- end where it is negative
abbrev pub least_worth : ℕ × ℕ → ℤ → ℤ
least_worth r (pos n) = pos n *ℤ pos r.0
least_worth r (negsuc n) = negsuc n *ℤ pos r.1

-- what the listed prices of arcs are worth at least in a box
abbrev pub arcs_worth : List (ℕ × ℕ) → List ArcPrice → ℤ
arcs_worth ranges [] = pos 0
arcs_worth ranges (x ∷ xs) = least_worth (range_at ranges x.arc) x.price +ℤ arcs_worth ranges xs

-- what the prices of items are worth: each times the demand, which is that at the item's place in a list
abbrev pub items_worth : List ℕ → Prices → ℕ
items_worth demands p = sum_by (λ x. slice_index_or demands (x.item - 1) 0 * x.price) p.items

-- what prices are worth in a box
abbrev pub worth_of : List ℕ → List (ℕ × ℕ) → Prices → ℤ
worth_of demands ranges p = pos (items_worth demands p) +ℤ arcs_worth ranges p.arcs

-- a worth is enough for a claim: without a scale, where bins are worth nothing, it is above 0, so that no flow lies in the
-- box; with a scale D it is above D * (B - 1), so that none costs less than the bound B
pub data IsEnough (claim : Claim) (scale : ℕ) (worth : ℤ) : Type 0 where
  empty : scale ≡ 0 → pos 0 <ℤ worth → IsEnough claim scale worth
  bound : (b : ℕ) → claim ≡ Bound b → 0 < scale → (pos scale *ℤ (pos b -ℤ pos 1)) <ℤ worth → IsEnough claim scale worth

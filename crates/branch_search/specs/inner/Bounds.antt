-- The least bound of the leaves of a tree.
use Rattle.std.specs.Prelude.{◌≡◌, ℕ, ◌≤◌, List, Option, None, Some, All, min}
use Rattle.arc_num.specs.declared.TheConstants.{MAX_PRICE}
use Rattle.cert_text.specs.declared.lines.Claim.{Claim}
use Rattle.cert_text.specs.declared.lines.Claim.TheVariants.{Bound, Empty}
use Rattle.search_tree.specs.declared.places.Place.{Place}
use Rattle.search_tree.specs.declared.places.SplitAt.{SplitAt}

-- the bound of a claim, no greater than can be claimed; that of an empty box is the greatest
abbrev pub bound_in : Claim → ℕ
bound_in Empty = MAX_PRICE
bound_in (Bound bound) = min bound MAX_PRICE

-- the bound of a place that is not split; the greatest bound where it is split
abbrev pub leaf_bound : Option SplitAt → Claim → ℕ
leaf_bound None claim = bound_in claim
leaf_bound (Some s) claim = MAX_PRICE

abbrev pub IsBoundOf : Place → ℕ → Type 0
IsBoundOf p bound = bound ≡ leaf_bound p.split p.shown.claim

-- the least of the bounds of these places, or the greatest that can be claimed
pub record IsLeastBound (places : List Place) (least : ℕ) : Type 0 where
  pub small : least ≤ MAX_PRICE
  pub below : All (λ p. least ≤ leaf_bound p.split p.shown.claim) places
  pub reached : (m : ℕ) → m ≤ MAX_PRICE → All (λ p. m ≤ leaf_bound p.split p.shown.claim) places → m ≤ least

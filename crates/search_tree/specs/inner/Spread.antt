-- One place of a list is split, and its parts stand behind it.
use Rattle.std.specs.Prelude.{◌≡◌, ℕ, List, ◌∷◌, ◌++◌, Some, length}
use Rattle.cert_laws.specs.Rules.{Box}
use Rattle.search_tree.specs.declared.places.Place.{Place}
use Rattle.search_tree.specs.declared.places.Shown.{Shown}
use Rattle.search_tree.specs.declared.places.SplitAt.{SplitAt}
use Rattle.search_tree.specs.Trees.{high_place, low_place}

-- one place is split, and the low part and the high part stand behind it
pub record IsSpread (old : List Place) (index : ℕ) (s : SplitAt) (low high : Place) (new : List Place) : Type 0 where
  pub before : List Place
  pub place : Place
  pub after : List Place
  pub old_places : old ≡ before ++ place ∷ after
  pub at : length before ≡ index
  pub new_places : new ≡ before ++ record place { split = Some s } ∷ low ∷ high ∷ after

-- one place, which has this box, is split in two, of which this is known
pub record IsSplitInto (box : Box) (old : List Place) (index : ℕ) (s : SplitAt) (low high : Shown) (new : List Place) : Type 0 where
  pub before : List Place
  pub place : Place
  pub after : List Place
  pub old_places : old ≡ before ++ place ∷ after
  pub at : length before ≡ index
  pub new_places : new ≡ before ++ record place { split = Some s } ∷ low_place box place s low ∷ high_place box place s high ∷ after

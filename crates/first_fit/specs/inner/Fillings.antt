-- Pieces, and a bin that is being filled with them.
use Rattle.std.specs.Prelude.{◌≡◌, ℕ, ◌+◌, ◌-◌, ◌*◌, ◌<◌, ◌≤◌, ◌⊎◌, List, [], ◌∷◌, ◌++◌, length, All, slice_index}
use Rattle.packing_laws.specs.Instances.{InstanceValue, IsAmong, type_at, item_at}
use Rattle.packing_laws.specs.Packings.{Content, Exists, KeepsCaps, count_of_item, weight_in}
use Rattle.first_fit.specs.declared.pieces.Piece.{Piece}
use Rattle.first_fit.specs.declared.filling.Filling.{Filling}

-- the piece is a form of an item
pub record IsPiece (I : InstanceValue) (p : Piece) : Type 0 where
  pub item : IsAmong p.item (length I.items)
  pub form : IsAmong p.form (length (item_at I p.item).forms)

-- the content has no more of any item than is left of it
abbrev pub IsWithinRest : InstanceValue → List ℕ → Content → Type 0
IsWithinRest I rest c = (i : ℕ) → IsAmong i (length I.items) → count_of_item i c ≤ slice_index rest (i - 1)

-- a bin holds at most so many units of item i: no more than are left, and no more than its cap
pub record IsMostOf (I : InstanceValue) (rest : List ℕ) (i most : ℕ) : Type 0 where
  pub left : most ≤ slice_index rest (i - 1)
  pub cap : All (λ k. k.item ≡ i → most ≤ k.count) I.caps
  pub greatest : (c : Content) → IsWithinRest I rest c → KeepsCaps I c → count_of_item i c ≤ most

-- what is in the bin and the room that it has add up to the capacity of its type; what is left and the caps are kept
pub record IsFilling (I : InstanceValue) (rest : List ℕ) (b : Filling) : Type 0 where
  pub bin_type : IsAmong b.bin_type (length I.types)
  pub exists : All (Exists I) b.counts.items
  pub dims : length b.room.items ≡ I.dims
  pub weight : (d : ℕ) → IsAmong d I.dims → weight_in I d b.counts.items + slice_index b.room.items (d - 1) ≡ slice_index (type_at I b.bin_type).cap (d - 1)
  pub within : IsWithinRest I rest b.counts.items
  pub caps : KeepsCaps I b.counts.items

-- so many units of a piece were put into the bin, if any
pub record IsPutInto (old : Filling) (p : Piece) (weights : List ℕ) (copies : ℕ) (new : Filling) : Type 0 where
  pub bin_type : new.bin_type ≡ old.bin_type
  pub counts : (new.counts.items ≡ old.counts.items ++ record { item = p.item; form = p.form; count = copies } ∷ []) ⊎ ((new.counts.items ≡ old.counts.items) × (copies ≡ 0))
  pub dims : length new.room.items ≡ length old.room.items
  pub room : (d : ℕ) → d < length weights → slice_index new.room.items d + copies * slice_index weights d ≡ slice_index old.room.items d

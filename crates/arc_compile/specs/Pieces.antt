-- The pieces of a type of bins: the forms that fit it, of items with a demand, in order.
use Rattle.std.specs.Prelude.{◌≡◌, ℕ, ◌-◌, ◌<◌, true, List, ◌++◌, length, All, Contains, replicate}
use Rattle.std.specs.List.Sorted.{IsStrictlySortedBy}
use Rattle.std.specs.Ordering.{nat_cmp, ordering_then}
use Rattle.std.specs.Cmp.Lexicographic.{slice_cmp}
use Rattle.std.specs.declared.cmp.Ordering.{Ordering}
use Rattle.packing_laws.specs.Instances.{InstanceValue, IsAmong, type_at, item_at, form_at}
use Rattle.packing_laws.specs.Floors.{vector_fits}
use Rattle.label_graph.specs.declared.parts.Piece.{Piece}
use Rattle.arc_compile.specs.Extended.{extended_weight}

-- a vector with zeros behind it, up to n numbers
abbrev pub padded : ℕ → List ℕ → List ℕ
padded n v = v ++ replicate (n - length v) 0

-- the piece is a form that fits type t, of an item with a demand: its weight is the extended weight
-- of the form, and it has a copy for each unit
pub record IsPiece {N : ℕ} (I : InstanceValue) (t : ℕ) (q : Piece N) : Type 0 where
  pub item_is : IsAmong q.item (length I.items)
  pub form_is : IsAmong q.form (length (item_at I q.item).forms)
  pub demanded : 0 < (item_at I q.item).demand
  pub fits : vector_fits (form_at I q.item q.form) (type_at I t).cap ≡ true
  pub weighs : q.weight ≡ padded N (extended_weight I q.item q.form)
  pub copied : q.copies ≡ (item_at I q.item).demand

-- the order of pieces: the heavier first, by their extended weights from the first number on; then by item, then by form
abbrev pub piece_cmp : {N : ℕ} → Piece N → Piece N → Ordering
piece_cmp p q = ordering_then (slice_cmp nat_cmp q.weight p.weight) (ordering_then (nat_cmp p.item q.item) (nat_cmp p.form q.form))

-- these are the pieces of type t, all of them, in order
pub record ArePieces {N : ℕ} (I : InstanceValue) (t : ℕ) (pieces : List (Piece N)) : Type 0 where
  pub each : All (IsPiece I t) pieces
  pub all : (q : Piece N) → IsPiece I t q → Contains pieces q
  pub order : IsStrictlySortedBy piece_cmp pieces

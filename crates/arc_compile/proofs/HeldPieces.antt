-- Pieces of which some fit a type: forms of items with a demand, no two of one form.
use Rattle.std.proofs.Common.{◌≡◌, ℕ, ◌<◌, List, length, get_or}
use Rattle.std.specs.Prelude.{All, AllPairs, Contains}
use Rattle.packing_laws.specs.Instances.{InstanceValue, IsAmong, item_at}
use Rattle.label_graph.specs.declared.parts.Piece.{Piece}
use Rattle.arc_compile.specs.Extended.{extended_weight}
use Rattle.arc_compile.specs.Pieces.{padded, IsPiece}

-- the piece is a form of an item with a demand, whatever it fits
pub record IsFormPiece {N : ℕ} (I : InstanceValue) (q : Piece N) : Type 0 where
  pub item_is : IsAmong q.item (length I.items)
  pub form_is : IsAmong q.form (length (item_at I q.item).forms)
  pub demanded : 0 < (item_at I q.item).demand
  pub weighs : q.weight ≡ padded N (extended_weight I q.item q.form)
  pub copied : q.copies ≡ (item_at I q.item).demand

-- two pieces are of different forms
abbrev pub AreApart : {N : ℕ} → Piece N → Piece N → Type 0
AreApart p q = ((p.item ≡ q.item) × (p.form ≡ q.form)) → ⊥

-- pieces of different forms, among them all pieces of type t
pub record HoldPieces {N : ℕ} (I : InstanceValue) (t : ℕ) (pieces : List (Piece N)) : Type 0 where
  pub each : All (IsFormPiece I) pieces
  pub apart : AllPairs AreApart pieces
  pub all : (q : Piece N) → IsPiece I t q → Contains pieces q

module _ {N : ℕ} (I : InstanceValue) (t : ℕ) where
  pub form_piece : (q : Piece N) → IsPiece I t q → IsFormPiece I q
  form_piece q h = record { item_is = h.item_is; form_is = h.form_is; demanded = h.demanded; weighs = h.weighs; copied = h.copied }

  pub form_pieces : (pieces : List (Piece N)) → All (IsPiece I t) pieces → All (IsFormPiece I) pieces
  form_pieces pieces each k d lt = form_piece (get_or pieces k d) (each k d lt)

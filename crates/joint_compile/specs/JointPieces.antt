-- The pieces and the capacities of all types of an instance, and in how many places their weights stand.
use Rattle.std.specs.Prelude.{ℕ, List, if◌then◌else◌, nat_lt, length, map, All, Contains}
use Rattle.std.specs.List.Sorted.{IsStrictlySortedBy}
use Rattle.packing_laws.specs.Instances.{InstanceValue, IsAmong}
use Rattle.label_graph.specs.declared.parts.Piece.{Piece}
use Rattle.flow_model.specs.Flows.{up_to}
use Rattle.arc_compile.specs.Extended.{extended_capacity, places_of}
use Rattle.arc_compile.specs.Pieces.{IsPiece, padded, piece_cmp}

-- in how many places weights stand that have so many numbers: behind these stand zeros
abbrev pub width_for : ℕ → ℕ
width_for n = if nat_lt n 2 then 1 else (if nat_lt n 3 then 2 else (if nat_lt n 5 then 4 else (if nat_lt n 9 then 8 else (if nat_lt n 17 then 16 else 32))))

abbrev pub width_of : InstanceValue → ℕ
width_of I = width_for (places_of I)

-- the piece is a form that fits some type, of an item with a demand
abbrev pub IsJointPiece : {N : ℕ} → InstanceValue → Piece N → Type 0
IsJointPiece I q = (t : ℕ) × IsAmong t (length I.types) × IsPiece I t q

-- these are the pieces of all types, all of them, in order
pub record AreJointPieces {N : ℕ} (I : InstanceValue) (pieces : List (Piece N)) : Type 0 where
  pub each : All (IsJointPiece I) pieces
  pub all : (q : Piece N) → IsJointPiece I q → Contains pieces q
  pub order : IsStrictlySortedBy piece_cmp pieces

-- the capacities of the types and the caps, in N places
abbrev pub joint_caps : ℕ → InstanceValue → List (List ℕ)
joint_caps N I = map (λ t. padded N (extended_capacity I t)) (up_to (length I.types))

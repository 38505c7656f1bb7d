-- No text of one type has too many forms, and want of memory is no bad place.
use Rattle.std.proofs.Common.{ℕ, ◌+◌, Ok, length}
use Rattle.arc_num.specs.declared.TheConstants.{MAX_DIMS, MAX_DEMAND}
use Rattle.packing_laws.specs.declared.fault.ReadFault.{ReadFault}
use Rattle.packing_laws.specs.declared.fault.ReadFault.TheVariants.{Short, NotNumber, Range, Total, ZeroWeight, Extra, Memory}
use Rattle.packing_laws.specs.Places.{Place, next_number, next_vector, next_form}
use Rattle.packing_laws.specs.Layouts.{next_plain_item, plain_item_behind, plain_instance_at}
use Rattle.layout_walk.proofs.Faults.{FaultsAre, faults-then, faults-none, faults-number, faults-vector, faults-form}
use Rattle.layout_walk.proofs.ItemTails.{tail_faults}
use Rattle.vbp_reader.proofs.PlainRows.{item_of, Plain, after_form, after_capacity, after_dims}

-- a fault of a text of one type
abbrev pub IsPlainFault : ReadFault → Type 0
IsPlainFault (Short k) = Unit {0}
IsPlainFault (NotNumber k) = Unit {0}
IsPlainFault (Range k) = Unit {0}
IsPlainFault (Total k) = ⊥
IsPlainFault (ZeroWeight k item form) = Unit {0}
IsPlainFault (Extra k) = Unit {0}
IsPlainFault Memory = ⊥

number_faults : (low high : ℕ) (p : Place) → FaultsAre IsPlainFault (next_number low high p)
number_faults low high p = faults-number IsPlainFault (λ k. tt) (λ k. tt) (λ k. tt) low high p

item_faults : (n item : ℕ) (p : Place) → FaultsAre IsPlainFault (next_plain_item n item p)
unfolding next_plain_item
item_faults n item p =
    faults-then IsPlainFault (next_form n item 1 p) after_form (faults-form IsPlainFault (λ k. tt) (λ k. tt) (λ k. tt) (λ k i f. tt) n item 1 p)
    (λ v. faults-then IsPlainFault (next_number 0 MAX_DEMAND v.1) (λ (b : ℕ × Place). Ok (item_of v.0 b.0, b.1)) (number_faults 0 MAX_DEMAND v.1) (λ b. faults-none IsPlainFault (item_of v.0 b.0, b.1)))

pub instance_faults : (p : Place) → FaultsAre IsPlainFault (plain_instance_at p)
unfolding plain_instance_at
instance_faults p =
    faults-then IsPlainFault (next_number 1 MAX_DIMS p) after_dims (number_faults 1 MAX_DIMS p)
    (λ n. faults-then IsPlainFault (next_vector n.0 n.1) (after_capacity n.0) (faults-vector IsPlainFault (λ k. tt) (λ k. tt) (λ k. tt) n.0 n.1)
    (λ cap. tail_faults (plain_item_behind n.0) n.0 (Plain n.0 cap.0) IsPlainFault (λ k. tt) (λ k. tt) (λ k. tt) (λ k. tt) (λ xs q. item_faults n.0 (length xs + 1) q) cap.1))

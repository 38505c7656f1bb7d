-- Want of memory is no bad place.
use Rattle.std.proofs.Common.{ℕ, ◌+◌, List, [], Option, Ok, length}
use Rattle.std.specs.Prelude.{nat_lt}
use Rattle.arc_num.specs.declared.TheConstants.{MAX_DIMS, MAX_TYPES, MAX_DEMAND, MAX_FORMS, MAX_ALL_FORMS, MAX_VALUE}
use Rattle.packing_laws.specs.declared.fault.ReadFault.{ReadFault}
use Rattle.packing_laws.specs.declared.fault.ReadFault.TheVariants.{Short, NotNumber, Range, Total, ZeroWeight, Extra, Memory}
use Rattle.packing_laws.specs.Places.{Place, next_number, next_limit, next_vector, next_form, several}
use Rattle.packing_laws.specs.Layouts.{forms_of, next_form_count, form_behind, next_item, item_behind, next_type, type_behind, instance_at}
use Rattle.layout_walk.proofs.Faults.{FaultsAre, faults-then, faults-none, faults-if, faults-number, faults-limit, faults-vector, faults-form, faults-several}
use Rattle.layout_walk.proofs.ItemTails.{tail_faults}
use Rattle.mvp_reader.proofs.ItemRows.{type_of, after_capacity, after_cost, after_count, item_of, after_demand, after_forms}
use Rattle.mvp_reader.proofs.InstanceRows.{Made, after_types, after_type_count, after_dims}

-- a fault of a text
abbrev pub IsTextFault : ReadFault → Type 0
IsTextFault (Short k) = Unit {0}
IsTextFault (NotNumber k) = Unit {0}
IsTextFault (Range k) = Unit {0}
IsTextFault (Total k) = Unit {0}
IsTextFault (ZeroWeight k item form) = Unit {0}
IsTextFault (Extra k) = Unit {0}
IsTextFault Memory = ⊥

number_faults : (low high : ℕ) (p : Place) → FaultsAre IsTextFault (next_number low high p)
number_faults low high p = faults-number IsTextFault (λ k. tt) (λ k. tt) (λ k. tt) low high p

type_faults : (n : ℕ) (p : Place) → FaultsAre IsTextFault (next_type n p)
unfolding next_type
type_faults n p =
    faults-then IsTextFault (next_vector n p) after_capacity (faults-vector IsTextFault (λ k. tt) (λ k. tt) (λ k. tt) n p)
    (λ cap. faults-then IsTextFault (next_number 0 MAX_VALUE cap.1) (after_cost cap.0) (number_faults 0 MAX_VALUE cap.1)
    (λ cost. faults-then IsTextFault (next_limit cost.1) (λ (limit : Option ℕ × Place). Ok (type_of cap.0 cost.0 limit.0, limit.1)) (faults-limit IsTextFault (λ k. tt) (λ k. tt) (λ k. tt) cost.1)
    (λ limit. faults-none IsTextFault (type_of cap.0 cost.0 limit.0, limit.1))))

count_faults : (before : ℕ) (p : Place) → FaultsAre IsTextFault (next_form_count before p)
unfolding next_form_count
count_faults before p =
    faults-then IsTextFault (next_number 1 MAX_FORMS p) (after_count before) (number_faults 1 MAX_FORMS p)
    (λ n. faults-if IsTextFault (nat_lt MAX_ALL_FORMS (before + n.0)) (Total n.1.count) (Ok n) tt (faults-none IsTextFault n))

form_faults : (n item form : ℕ) (p : Place) → FaultsAre IsTextFault (next_form n item form p)
form_faults n item form p = faults-form IsTextFault (λ k. tt) (λ k. tt) (λ k. tt) (λ k i f. tt) n item form p

item_faults : (n item before : ℕ) (p : Place) → FaultsAre IsTextFault (next_item n item before p)
unfolding next_item
item_faults n item before p =
    faults-then IsTextFault (next_form_count before p) (after_forms n item) (count_faults before p)
    (λ count. faults-then IsTextFault (next_number 0 MAX_DEMAND count.1) (after_demand n item count.0) (number_faults 0 MAX_DEMAND count.1)
    (λ b. faults-then IsTextFault (several count.0 (form_behind n item) [] b.1) (λ (vs : List (List ℕ) × Place). Ok (item_of b.0 vs.0, vs.1)) (faults-several IsTextFault (form_behind n item) (λ vs q. form_faults n item (length vs + 1) q) count.0 [] b.1)
    (λ vs. faults-none IsTextFault (item_of b.0 vs.0, vs.1))))

pub instance_faults : (p : Place) → FaultsAre IsTextFault (instance_at p)
unfolding instance_at
instance_faults p =
    faults-then IsTextFault (next_number 1 MAX_DIMS p) after_dims (number_faults 1 MAX_DIMS p)
    (λ n. faults-then IsTextFault (next_number 1 MAX_TYPES n.1) (after_type_count n.0) (number_faults 1 MAX_TYPES n.1)
    (λ k. faults-then IsTextFault (several k.0 (type_behind n.0) [] k.1) (after_types n.0) (faults-several IsTextFault (type_behind n.0) (λ ts q. type_faults n.0 q) k.0 [] k.1)
    (λ ts. tail_faults (item_behind n.0) n.0 (Made n.0 ts.0) IsTextFault (λ k. tt) (λ k. tt) (λ k. tt) (λ k. tt) (λ xs q. item_faults n.0 (length xs + 1) (forms_of xs) q) ts.1)))

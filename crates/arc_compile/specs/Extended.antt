-- Weights and capacities with a number for each cap behind those of the dimensions: a cap counts the units of its item.
use Rattle.std.specs.Prelude.{ℕ, ◌+◌, ◌==◌, ◌*◌, if◌then◌else◌, List, ◌++◌, length, map, sum_by, slice_index}
use Rattle.packing_laws.specs.Instances.{InstanceValue, type_at, form_at}
use Rattle.packing_laws.specs.Packings.{Content}

-- how many numbers there are: one for each dimension, and one for each cap
abbrev pub places_of : InstanceValue → ℕ
places_of I = I.dims + length I.caps

-- a unit of item i, as the caps count it: 1 for the cap of that item, and 0 for the others
abbrev pub counted_by_caps : InstanceValue → ℕ → List ℕ
counted_by_caps I i = map (λ k. if i == k.item then 1 else 0) I.caps

-- the weight of form f of item i, and how the caps count a unit of it, whatever its form
abbrev pub extended_weight : InstanceValue → ℕ → ℕ → List ℕ
extended_weight I i f = form_at I i f ++ counted_by_caps I i

-- the capacity of type t, and the caps
abbrev pub extended_capacity : InstanceValue → ℕ → List ℕ
extended_capacity I t = (type_at I t).cap ++ map (λ k. k.count) I.caps

-- what a content weighs in a place of extended weights, by places from 0
abbrev pub extended_in : InstanceValue → ℕ → Content → ℕ
extended_in I d c = sum_by (λ n. n.count * slice_index (extended_weight I n.item n.form) d) c

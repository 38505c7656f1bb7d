-- Lists in which neighbours that are alike become one.
use Rattle.std.specs.Prelude.{◌+◌, List, [], ◌∷◌, if◌then◌else◌}
use Rattle.std.specs.List.{fold}
use Rattle.std.specs.Ordering.{is_eq}
use Rattle.std.specs.declared.cmp.Ordering.{Ordering}
use Rattle.packing_laws.specs.declared.packings.Count.{Count}
use Rattle.packing_laws.specs.declared.packings.Bin.{Bin}
use Rattle.packing_laws.specs.declared.tidying.Line.{Line}

-- x goes to the end: into the last element where the order has them equal
abbrev pub put_last : {X : Type 0} → (X → X → Ordering) → (X → X → X) → List X → X → List X
put_last order join [] x = x ∷ []
put_last order join (y ∷ []) x = if is_eq (order y x) then join y x ∷ [] else y ∷ x ∷ []
put_last order join (y ∷ z ∷ zs) x = y ∷ put_last order join (z ∷ zs) x

-- all of the list, each put to the end in turn
abbrev pub merged : {X : Type 0} → (X → X → Ordering) → (X → X → X) → List X → List X
merged order join xs = fold (put_last order join) [] xs

-- two counts of one form are a count of it
abbrev pub joined_count : Count → Count → Count
joined_count m n = record { item = m.item; form = m.form; count = m.count + n.count }

-- bins that are alike, in one line
abbrev pub joined_bin : Bin → Bin → Bin
joined_bin a b = record { bin_type = a.bin_type; times = a.times + b.times; counts = a.counts }

-- the bin that a line is to become
abbrev pub bin_of : Line → Bin
bin_of x = record { bin_type = x.bin_type; times = x.times; counts = x.counts.items }

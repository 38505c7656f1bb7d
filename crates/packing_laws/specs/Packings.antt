-- What a packing is, and what it costs.
use Rattle.std.specs.Prelude.{◌≡◌, ℕ, ◌-◌, ◌*◌, ◌<◌, ◌≤◌, List, ◌++◌, length, Some, All, sum_by, count_by, ◌==◌, ◌&&◌, if◌then◌else◌, slice_index, slice_get, IfSome}
use Rattle.std.specs.List.{flat_map}
use Rattle.packing_laws.specs.declared.packings.Count.{Count}
use Rattle.packing_laws.specs.Instances.{InstanceValue, IsAmong, type_at, item_at, form_at}

-- a content: what is in a bin, as counts of forms of items. Counts of one form add up
abbrev pub Content : Type 0
Content = List Count

-- how many units of item i are in a content, whatever their form
abbrev pub count_of_item : ℕ → Content → ℕ
count_of_item i c = sum_by (λ n. if n.item == i then n.count else 0) c

-- how many units of form f of item i are in a content
abbrev pub count_of_form : ℕ → ℕ → Content → ℕ
count_of_form i f c = sum_by (λ n. if (n.item == i) && (n.form == f) then n.count else 0) c

-- what a content weighs in dimension d, by numbers from 1
abbrev pub weight_in : InstanceValue → ℕ → Content → ℕ
weight_in I d c = sum_by (λ n. n.count * slice_index (form_at I n.item n.form) (d - 1)) c

-- the item and the form exist
pub record Exists (I : InstanceValue) (n : Count) : Type 0 where
  pub item : IsAmong n.item (length I.items)
  pub form : IsAmong n.form (length (item_at I n.item).forms)

-- the content has no more of any item than the item's cap
abbrev pub KeepsCaps : InstanceValue → Content → Type 0
KeepsCaps I c = All (λ k. count_of_item k.item c ≤ k.count) I.caps

-- the content fits a bin of type t: in no dimension does it weigh more than the capacity, and it keeps the caps
pub record Fits (I : InstanceValue) (t : ℕ) (c : Content) : Type 0 where
  pub bin_type : IsAmong t (length I.types)
  pub exists : All (Exists I) c
  pub weight : (d : ℕ) → IsAmong d I.dims → weight_in I d c ≤ slice_index (type_at I t).cap (d - 1)
  pub caps : KeepsCaps I c

-- the content has no more of any item than is asked for
abbrev pub IsWithin : InstanceValue → Content → Type 0
IsWithin I c = (i : ℕ) → IsAmong i (length I.items) → count_of_item i c ≤ (item_at I i).demand

-- bins: each a type, and what is in it
abbrev pub Bins : Type 0
Bins = List (ℕ × Content)

-- all that is in the bins, together
abbrev pub all_of : Bins → Content
all_of P = flat_map (λ b. b.1) P

-- how many of the bins are of type t
abbrev pub used_of : ℕ → Bins → ℕ
used_of t P = count_by (λ b. b.0 == t) P

-- a packing: each bin fits, no limit of a type is passed, and each demand is met exactly
pub record IsPacking (I : InstanceValue) (P : Bins) : Type 0 where
  pub fits : All (λ b. Fits I b.0 b.1) P
  pub limits : (t : ℕ) → IsAmong t (length I.types) → IfSome (type_at I t).limit (λ q. used_of t P ≤ q)
  pub demands : (i : ℕ) → IsAmong i (length I.items) → count_of_item i (all_of P) ≡ (item_at I i).demand

-- what a bin of type t costs, by numbers from 1; 0 where there is no such type
abbrev pub cost_at : InstanceValue → ℕ → ℕ
cost_at I t = if t == 0 then 0 else (type_at I t).cost

-- the costs of the bins, added up
abbrev pub cost_of : InstanceValue → Bins → ℕ
cost_of I P = sum_by (λ b. cost_at I b.0) P

-- no packing costs less than z
abbrev pub IsFloor : InstanceValue → ℕ → Type 0
IsFloor I z = (P : Bins) → IsPacking I P → z ≤ cost_of I P

-- some packing costs z, and none costs less
abbrev pub IsLeast : InstanceValue → ℕ → Type 0
IsLeast I z = ((P : Bins) × IsPacking I P × (cost_of I P ≡ z)) × IsFloor I z

-- no bins at all are a packing
abbrev pub HasNoPacking : InstanceValue → Type 0
HasNoPacking I = (P : Bins) → IsPacking I P → ⊥

-- for no two places of the list does what is in both bins, taken together, fit the type of one of them
abbrev pub IsJoined : InstanceValue → Bins → Type 0
IsJoined I P = (j k : ℕ) (b c : ℕ × Content) → j < k → slice_get P j ≡ Some b → slice_get P k ≡ Some c → (Fits I b.0 (b.1 ++ c.1) → ⊥) × (Fits I c.0 (b.1 ++ c.1) → ⊥)

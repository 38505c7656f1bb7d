-- Forms of items that fit a capacity, while they are gathered.
use Rattle.std.specs.Prelude.{◌≡◌, ◌⊎◌, ◌↔◌, ℕ, ◌-◌, ◌<◌, true, List, [], ◌++◌, length, Contains, map, slice_index_or, sum_by}
use Rattle.std.specs.Ordering.{nat_cmp, ordering_then}
use Rattle.std.specs.Cmp.Lexicographic.{slice_cmp}
use Rattle.std.specs.declared.cmp.Ordering.{Ordering}
use Rattle.label_graph.specs.declared.parts.Piece.{Piece}
use Rattle.packing_laws.specs.declared.instances.Item.{Item}
use Rattle.packing_laws.specs.Floors.{vector_fits}
use Rattle.packing_laws.specs.Instances.{InstanceValue, IsAmong, type_at, item_at}
use Rattle.arc_compile.specs.declared.ranks.Ranked.{Ranked}
use Rattle.arc_compile.specs.Extended.{counted_by_caps}
use Rattle.arc_compile.specs.Pieces.{padded}

-- the form with this number of an item
abbrev pub form_of : Item → ℕ → List ℕ
form_of x f = slice_index_or x.forms (f - 1) []

-- one of the first forms of item i, which fits, with further numbers behind its weight
pub record IsRankedOf {N : ℕ} (i : ℕ) (x : Item) (cap further : List ℕ) (forms : ℕ) (r : Ranked N) : Type 0 where
  pub item_is : r.item ≡ i
  pub form_is : IsAmong r.form forms
  pub fits : vector_fits (form_of x r.form) cap ≡ true
  pub weighs : r.weight.0 ≡ padded N (form_of x r.form ++ further)

-- the first forms of item i that fit are added
abbrev pub AddsForms : {N : ℕ} → ℕ → Item → List ℕ → List ℕ → ℕ → List (Ranked N) → List (Ranked N) → Type 0
AddsForms {N} i x cap further forms old new = (r : Ranked N) → Contains new r ↔ (Contains old r ⊎ IsRankedOf i x cap further forms r)

-- a form that fits type t, of one of the first items, with a demand
pub record IsRanked {N : ℕ} (I : InstanceValue) (t items : ℕ) (r : Ranked N) : Type 0 where
  pub item_is : IsAmong r.item items
  pub demanded : 0 < (item_at I r.item).demand
  pub ranked : IsRankedOf r.item (item_at I r.item) (type_at I t).cap (counted_by_caps I r.item) (length (item_at I r.item).forms) r

-- these are the forms of the first items that fit
abbrev pub AreRanked : {N : ℕ} → InstanceValue → ℕ → ℕ → List (Ranked N) → Type 0
AreRanked {N} I t items ranked = (r : Ranked N) → Contains ranked r ↔ IsRanked I t items r

-- the order of ranks: the heavier first, then by item, then by form
abbrev pub rank_cmp : {N : ℕ} → Ranked N → Ranked N → Ordering
rank_cmp p q = ordering_then (slice_cmp nat_cmp q.weight.0 p.weight.0) (ordering_then (nat_cmp p.item q.item) (nat_cmp p.form q.form))

-- the piece of a rank
abbrev pub piece_from : {N : ℕ} → InstanceValue → Ranked N → Piece N
piece_from I r = record { item = r.item; form = r.form; weight = r.weight.0; copies = (item_at I r.item).demand }

-- the pieces of ranks, in their order
abbrev pub pieces_from : {N : ℕ} → InstanceValue → List (Ranked N) → List (Piece N)
pieces_from I ranked = map (piece_from I) ranked

-- how many forms the items have together
abbrev pub forms_of : List Item → ℕ
forms_of xs = sum_by (λ x. length x.forms) xs

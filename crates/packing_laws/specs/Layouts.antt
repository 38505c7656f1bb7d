-- The two layouts of an instance's text.
use Rattle.std.specs.Prelude.{◌≡◌, ◌↔◌, ◌⊎◌, ℕ, ◌+◌, ◌-◌, min, Bool, true, false, nat_lt, if◌then◌else◌, List, [], ◌∷◌, ◌++◌, length, map, sum_by, All, Option, Some, None, Result, Ok, Err, codes}
use Rattle.std.specs.List.{flat_map, fold}
use Rattle.arc_num.specs.Words.{tokens_of}
use Rattle.arc_num.specs.Decimals.{are_digits, value_of}
use Rattle.arc_num.specs.declared.TheConstants.{MAX_DIMS, MAX_TYPES, MAX_ITEMS, MAX_FORMS, MAX_ALL_FORMS, MAX_VALUE, MAX_DEMAND, MAX_CAP}
use Rattle.packing_laws.specs.declared.fault.ReadFault.{ReadFault}
use Rattle.packing_laws.specs.declared.fault.ReadFault.TheVariants.{Total, Memory}
use Rattle.packing_laws.specs.declared.instances.BinType.{BinType}
use Rattle.packing_laws.specs.declared.instances.Item.{Item}
use Rattle.packing_laws.specs.declared.instances.ItemCap.{ItemCap}
use Rattle.packing_laws.specs.Instances.{InstanceValue, IsInstance}
use Rattle.packing_laws.specs.Places.{Place, front, ◌>>=◌, next_number, next_limit, several, next_vector, next_form, caps_word, end_at}

-- one type of bins and one form for each item, or several of both
pub data Layout : Type 0 where
  Vbp Mvp : Layout

-- how many forms the items have together
abbrev pub forms_of : List Item → ℕ
forms_of xs = sum_by (λ x. length x.forms) xs

-- of one type: an item, which is its one form and its demand
unfoldable pub next_plain_item : ℕ → ℕ → Place → Result (Item × Place) ReadFault
next_plain_item dims item p = do
  v ← next_form dims item 1 p
  b ← next_number 0 MAX_DEMAND v.1
  Ok (record { demand = b.0; forms = v.0 ∷ [] }, b.1)

-- the item behind those that are there
abbrev pub plain_item_behind : ℕ → List Item → Place → Result (Item × Place) ReadFault
plain_item_behind dims xs p = next_plain_item dims (length xs + 1) p

-- of several types: how many forms an item has; Total where they are too many with those of the items before it
unfoldable pub next_form_count : ℕ → Place → Result (ℕ × Place) ReadFault
next_form_count before p = do
  n ← next_number 1 MAX_FORMS p
  if nat_lt MAX_ALL_FORMS (before + n.0) then Err (Total n.1.count) else Ok n

-- the form behind those that are there
abbrev pub form_behind : ℕ → ℕ → List (List ℕ) → Place → Result (List ℕ × Place) ReadFault
form_behind dims item vs p = next_form dims item (length vs + 1) p

-- an item: its number of forms, its demand and its forms
unfoldable pub next_item : ℕ → ℕ → ℕ → Place → Result (Item × Place) ReadFault
next_item dims item before p = do
  n ← next_form_count before p
  b ← next_number 0 MAX_DEMAND n.1
  vs ← several n.0 (form_behind dims item) [] b.1
  Ok (record { demand = b.0; forms = vs.0 }, vs.1)

-- the item behind those that are there
abbrev pub item_behind : ℕ → List Item → Place → Result (Item × Place) ReadFault
item_behind dims xs p = next_item dims (length xs + 1) (forms_of xs) p

-- a type of bins: its capacities, its cost and its limit
unfoldable pub next_type : ℕ → Place → Result (BinType × Place) ReadFault
next_type dims p = do
  cap ← next_vector dims p
  cost ← next_number 0 MAX_VALUE cap.1
  limit ← next_limit cost.1
  Ok (record { cap = cap.0; cost = cost.0; limit = limit.0 }, limit.1)

-- the type behind those that are there
abbrev pub type_behind : ℕ → List BinType → Place → Result (BinType × Place) ReadFault
type_behind dims ts p = next_type dims p

-- the item of the last cap; 0 where there is none
abbrev pub last_item : List ItemCap → ℕ
last_item ks = fold (λ _ k. k.item) 0 ks

-- a cap: an item above `last` among so many items, and how many of its units a bin may hold
unfoldable pub next_cap : ℕ → ℕ → Place → Result (ItemCap × Place) ReadFault
next_cap items last p = do
  i ← next_number (last + 1) items p
  c ← next_number 1 MAX_CAP i.1
  Ok (record { item = i.0; count = c.0 }, c.1)

-- the cap behind those that are there
abbrev pub cap_behind : ℕ → List ItemCap → Place → Result (ItemCap × Place) ReadFault
cap_behind items ks p = next_cap items (last_item ks) p

-- the number of caps and the caps, where the word stands in front of them; else no caps
abbrev pub caps_if : Bool → ℕ → ℕ → Place → Result (List ItemCap × Place) ReadFault
caps_if false dims items p = Ok ([], p)
caps_if true dims items p = do
  r ← next_number 0 (min items (MAX_DIMS - dims)) p
  several r.0 (cap_behind items) [] r.1

-- the last part of a text, behind so many items: its end, or the word `caps`, the caps and the end
unfoldable pub caps_at : ℕ → ℕ → Place → Result (List ItemCap) ReadFault
caps_at dims items p = do
  word ← caps_word p
  ks ← caps_if word.0 dims items word.1
  _ ← end_at ks.1
  Ok ks.0

-- the whole text with one type of cost 1 without limit: dimensions, capacities, number of items, items, caps
unfoldable pub plain_instance_at : Place → Result InstanceValue ReadFault
plain_instance_at p = do
  n ← next_number 1 MAX_DIMS p
  cap ← next_vector n.0 n.1
  m ← next_number 0 MAX_ITEMS cap.1
  xs ← several m.0 (plain_item_behind n.0) [] m.1
  ks ← caps_at n.0 m.0 xs.1
  Ok (record { dims = n.0; types = record { cap = cap.0; cost = 1; limit = None } ∷ []; items = xs.0; caps = ks })

-- the whole text with several types: dimensions, number of types, types, number of items, items, caps
unfoldable pub instance_at : Place → Result InstanceValue ReadFault
instance_at p = do
  n ← next_number 1 MAX_DIMS p
  q ← next_number 1 MAX_TYPES n.1
  ts ← several q.0 (type_behind n.0) [] q.1
  m ← next_number 0 MAX_ITEMS ts.1
  xs ← several m.0 (item_behind n.0) [] m.1
  ks ← caps_at n.0 m.0 xs.1
  Ok (record { dims = n.0; types = ts.0; items = xs.0; caps = ks })

-- a field of a row: a number, no limit, or the word in front of the caps
pub data Field : Type 0 where
  Number : ℕ → Field
  NoLimit CapsWord : Field

-- the numbers of a vector, as fields
abbrev pub vector_row : List ℕ → List Field
vector_row v = map (λ x. Number x) v

-- a limit as a field
abbrev pub limit_field : Option ℕ → Field
limit_field None = NoLimit
limit_field (Some q) = Number q

-- an item as a row of fields, in either layout
abbrev pub plain_item_row : Item → List Field
plain_item_row x = flat_map vector_row x.forms ++ Number x.demand ∷ []

abbrev pub item_row : Item → List Field
item_row x = Number (length x.forms) ∷ Number x.demand ∷ flat_map vector_row x.forms

-- a type of bins as a row of fields
abbrev pub type_row : BinType → List Field
type_row t = vector_row t.cap ++ Number t.cost ∷ limit_field t.limit ∷ []

-- an instance as a row of fields, up to its last item
abbrev pub row_of : Layout → InstanceValue → List Field
row_of Vbp I = Number I.dims ∷ (flat_map (λ t. vector_row t.cap) I.types ++ Number (length I.items) ∷ flat_map plain_item_row I.items)
row_of Mvp I = Number I.dims ∷ Number (length I.types) ∷ (flat_map type_row I.types ++ Number (length I.items) ∷ flat_map item_row I.items)

-- a cap as a row of fields
abbrev pub cap_row : ItemCap → List Field
cap_row k = Number k.item ∷ Number k.count ∷ []

-- caps as a row of fields
abbrev pub caps_row : List ItemCap → List Field
caps_row ks = CapsWord ∷ Number (length ks) ∷ flat_map cap_row ks

-- there is one type, of cost 1 without limit, and each item has one form
pub record IsPlain (I : InstanceValue) : Type 0 where
  pub types : (cap : List ℕ) × (I.types ≡ record { cap = cap; cost = 1; limit = None } ∷ [])
  pub forms : All (λ x. length x.forms ≡ 1) I.items

-- the instance can be spelled in the layout
abbrev pub HasLayout : Layout → InstanceValue → Type 0
HasLayout Vbp I = IsInstance I × IsPlain I
HasLayout Mvp I = IsInstance I

-- the token spells the field: a number by its digits, no limit by -1, the word in front of the caps by itself
abbrev pub SpellsField : List ℕ → Field → Type 0
SpellsField t (Number v) = (are_digits t ≡ true) × (value_of t ≡ v)
SpellsField t NoLimit = t ≡ codes "-1"
SpellsField t CapsWord = t ≡ codes "caps"

-- the tokens spell the row, each one field
abbrev pub Spells : List (List ℕ) → List Field → Type 0
Spells [] [] = Unit {0}
Spells (t ∷ ts) (f ∷ fs) = SpellsField t f × Spells ts fs
Spells _ _ = ⊥

-- the tokens spell the row of the instance, and behind it that of its caps, which may be left out where there are none
abbrev pub SpellsInstance : Layout → List (List ℕ) → InstanceValue → Type 0
SpellsInstance layout ts I = Spells ts (row_of layout I ++ caps_row I.caps) ⊎ ((I.caps ≡ []) × Spells ts (row_of layout I))

-- the instance of a text, or its first bad place with the first cause there
abbrev pub reading_of : Layout → List ℕ → Result InstanceValue ReadFault
reading_of Vbp text = plain_instance_at (front text)
reading_of Mvp text = instance_at (front text)

-- the tokens of the text fill every place of the layout without a fault, no token is left, and the instance has their values
abbrev pub Reads : Layout → List ℕ → InstanceValue → Type 0
Reads layout text I = reading_of layout text ≡ Ok I

-- the fault is that of the first bad place of the text
abbrev pub BadPlace : Layout → List ℕ → ReadFault → Type 0
BadPlace layout text e = reading_of layout text ≡ Err e

-- a text reads as an instance exactly where this has the layout, and the tokens are its row of fields
abbrev pub ReadsItsRow : Layout → Type 0
ReadsItsRow layout = (text : List ℕ) (I : InstanceValue) → Reads layout text I ↔ (HasLayout layout I × SpellsInstance layout (tokens_of text) I)

-- an instance of one type as a row of numbers: dimensions, capacities, number of items, and for each item its weights and
-- its demand
abbrev pub plain_numbers_of : InstanceValue → List ℕ
plain_numbers_of I = I.dims ∷ (flat_map (λ t. t.cap) I.types ++ length I.items ∷ flat_map (λ x. flat_map (λ v. v) x.forms ++ x.demand ∷ []) I.items)

-- caps as a row of numbers: how many they are, and for each its item and how many units
abbrev pub cap_numbers_of : List ItemCap → List ℕ
cap_numbers_of ks = length ks ∷ flat_map (λ k. k.item ∷ k.count ∷ []) ks

-- all tokens are digits, and their values are the numbers
pub record AreNumbers (ts : List (List ℕ)) (ns : List ℕ) : Type 0 where
  pub digits : All (λ t. are_digits t ≡ true) ts
  pub values : map value_of ts ≡ ns

-- the tokens are numbers, the word `caps` and the numbers of the caps
abbrev pub AreCapped : List (List ℕ) → List ℕ → List ItemCap → Type 0
AreCapped ts ns ks = (before after : List (List ℕ)) × (ts ≡ before ++ codes "caps" ∷ after) × AreNumbers before ns × AreNumbers after (cap_numbers_of ks)

-- a text of one type reads as an instance exactly where this has one type and one form for each item, and the tokens are
-- the row of its numbers, the word `caps` and the numbers of its caps; where there are no caps these may be left out
abbrev pub ReadsItsNumbers : Type 0
ReadsItsNumbers =
    (text : List ℕ) (I : InstanceValue) →
    Reads Vbp text I ↔ (HasLayout Vbp I × (AreCapped (tokens_of text) (plain_numbers_of I) I.caps ⊎ ((I.caps ≡ []) × AreNumbers (tokens_of text) (plain_numbers_of I))))

-- each text reads as one instance or has one bad place, and not both
pub record ReadsOrBadPlace (layout : Layout) (text : List ℕ) : Type 0 where
  pub some : ((I : InstanceValue) × Reads layout text I) ⊎ ((e : ReadFault) × BadPlace layout text e)
  pub one : (I : InstanceValue) (e : ReadFault) → Reads layout text I → BadPlace layout text e → ⊥
  pub instance : (I J : InstanceValue) → Reads layout text I → Reads layout text J → I ≡ J
  pub fault : (e f : ReadFault) → BadPlace layout text e → BadPlace layout text f → e ≡ f

-- want of memory is no bad place
abbrev pub MemoryIsNoPlace : Layout → Type 0
MemoryIsNoPlace layout = (text : List ℕ) → BadPlace layout text Memory → ⊥

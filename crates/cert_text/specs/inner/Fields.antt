-- Reading the fields of a line from left to right. A field in its place is a value and the fields behind it.
use Rattle.std.specs.Prelude.{◌≡◌, ℕ, zero, suc, ◌+◌, ◌&&◌, ◌==◌, nat_lt, nat_le, if◌then◌else◌, ℤ, pos, neg_ℤ, List, [], ◌∷◌, length, drop, take, slice_index, Option, Some, None, option_map, Result, Ok, Err, codes, bytes_eq}
use Rattle.std.specs.List.{slice_split}
use Rattle.arc_num.specs.Decimals.{number_of}
use Rattle.arc_num.specs.declared.TheConstants.{MAX_DIMS, MAX_ITEMS, MAX_NUMBERED, MAX_PRICE, MAX_VALUE}
use Rattle.cert_text.specs.declared.lines.ItemPrice.{ItemPrice}
use Rattle.cert_text.specs.declared.lines.ArcPrice.{ArcPrice}
use Rattle.cert_text.specs.declared.lines.ArcPart.{ArcPart}
use Rattle.cert_text.specs.declared.lines.Prices.{Prices}
use Rattle.cert_text.specs.declared.lines.Need.{Need}
use Rattle.cert_text.specs.declared.lines.Claim.TheVariants.{Bound, Empty}
use Rattle.cert_text.specs.declared.lines.TreeLine.{TreeLine}
use Rattle.cert_text.specs.declared.lines.TreeLine.TheVariants.{Split, Needed, Leaf, Step}
use Rattle.cert_text.specs.declared.lines.CertLine.{CertLine}
use Rattle.cert_text.specs.declared.lines.CertLine.TheVariants as cert
use Rattle.cert_text.specs.declared.faults.LineFault.{LineFault}
use Rattle.cert_text.specs.declared.faults.LineFault.TheVariants.{Bad, Memory}

-- a number of 32 bits, at most
abbrev pub widest : ℕ
widest = 4294967295

-- the fields of a line: what stands between its spaces
abbrev pub split_fields : List ℕ → List (List ℕ)
split_fields text = slice_split (λ b. b == 32) text

-- a value and the fields behind it
abbrev pub Found : Type 0 → Type 0
Found A = Option (A × List (List ℕ))

infixl 10 ◌>>=◌
abbrev pub ◌>>=◌ : {A B : Type 0} → Option A → (A → Option B) → Option B
(Some x) >>= f = f x
None >>= f = None

-- the value of digits that have no leading zero
abbrev pub numeral : List ℕ → Option ℕ
numeral field = if nat_lt 1 (length field) && (slice_index field 0 == 48) then None else number_of field

-- a number between two others
abbrev pub ranged : ℕ → ℕ → Option ℕ → Option ℕ
ranged least most None = None
ranged least most (Some n) = if nat_le least n && nat_le n most then Some n else None

-- a price of an arc: a number from 1 on, maybe behind a minus sign
abbrev pub signed_in : List ℕ → Option ℤ
signed_in field =
    if bytes_eq (take 1 field) (codes "-") then option_map (λ n. neg_ℤ (pos n)) (ranged 1 MAX_PRICE (numeral (drop 1 field)))
    else option_map (λ n. pos n) (ranged 1 MAX_PRICE (numeral field))

-- the first field, read by a function on fields
abbrev pub first_by : {A : Type 0} → (List ℕ → Option A) → List (List ℕ) → Found A
first_by read [] = None
first_by read (field ∷ fields) = option_map (λ x. (x, fields)) (read field)

unfoldable pub number_at : ℕ → ℕ → List (List ℕ) → Found ℕ
number_at least most fields = first_by (λ field. ranged least most (numeral field)) fields

unfoldable pub signed_at : List (List ℕ) → Found ℤ
signed_at fields = first_by signed_in fields

-- the fields behind a word
unfoldable pub word_at : List ℕ → List (List ℕ) → Option (List (List ℕ))
word_at word [] = None
word_at word (field ∷ fields) = if bytes_eq field word then Some fields else None

-- a pair whose number is above the last one's
unfoldable pub item_at : ℕ → List (List ℕ) → Found ItemPrice
item_at last fields = do
  item ← number_at (last + 1) widest fields
  price ← number_at 1 MAX_PRICE item.1
  Some (record { item = item.0; price = price.0 }, price.1)

unfoldable pub arc_at : ℕ → List (List ℕ) → Found ArcPrice
arc_at last fields = do
  arc ← number_at (last + 1) widest fields
  price ← signed_at arc.1
  Some (record { arc = arc.0; price = price.0 }, price.1)

unfoldable pub part_at : ℕ → List (List ℕ) → Found ArcPart
part_at last fields = do
  arc ← number_at (last + 1) widest fields
  value ← number_at 1 MAX_PRICE arc.1
  Some (record { arc = arc.0; value = value.0 }, value.1)

-- so many pairs, with ascending numbers
unfoldable pub pairs_at : {A : Type 0} → (ℕ → List (List ℕ) → Found A) → (A → ℕ) → ℕ → ℕ → List (List ℕ) → Found (List A)
pairs_at one number zero last fields = Some ([], fields)
pairs_at one number (suc count) last fields = do
  first ← one last fields
  others ← pairs_at one number count (number first.0) first.1
  Some (first.0 ∷ others.0, others.1)

abbrev pub items_at : ℕ → ℕ → List (List ℕ) → Found (List ItemPrice)
items_at count last fields = pairs_at item_at (λ x. x.item) count last fields

abbrev pub arcs_at : ℕ → ℕ → List (List ℕ) → Found (List ArcPrice)
arcs_at count last fields = pairs_at arc_at (λ x. x.arc) count last fields

abbrev pub parts_at : ℕ → ℕ → List (List ℕ) → Found (List ArcPart)
parts_at count last fields = pairs_at part_at (λ x. x.arc) count last fields

-- what stands behind the first word of a line, by the kind of line
unfoldable pub prices_at : List (List ℕ) → Found Prices
prices_at fields = do
  scale ← number_at 0 MAX_PRICE fields
  item_count ← number_at 0 MAX_ITEMS scale.1
  items ← items_at item_count.0 0 item_count.1
  arc_count ← number_at 0 MAX_NUMBERED items.1
  arcs ← arcs_at arc_count.0 0 arc_count.1
  Some (record { scale = scale.0; items = items.0; arcs = arcs.0 }, arcs.1)

unfoldable pub need_at : List (List ℕ) → Found Need
need_at fields = do
  scale ← number_at 1 MAX_PRICE fields
  count ← number_at 0 MAX_NUMBERED scale.1
  parts ← parts_at count.0 0 count.1
  Some (record { scale = scale.0; parts = parts.0 }, parts.1)

unfoldable pub split_at : List (List ℕ) → Found TreeLine
split_at fields = do
  arc ← number_at 1 widest fields
  k ← number_at 0 widest arc.1
  Some (Split arc.0 k.0, k.1)

unfoldable pub needed_at : List (List ℕ) → Found TreeLine
needed_at fields = do
  arc ← number_at 1 widest fields
  k ← number_at 0 widest arc.1
  need ← need_at k.1
  Some (Needed arc.0 k.0 need.0, need.1)

unfoldable pub leaf_at : List (List ℕ) → Found TreeLine
leaf_at fields = do
  prices ← prices_at fields
  Some (Leaf prices.0, prices.1)

unfoldable pub step_at : List (List ℕ) → Found TreeLine
step_at fields = do
  dim ← number_at 1 MAX_DIMS fields
  step ← number_at 0 MAX_VALUE dim.1
  Some (Step dim.0 step.0, step.1)

-- a place of the tree, by its word
unfoldable pub tree_at : ℕ → List ℕ → List (List ℕ) → Found TreeLine
tree_at version word fields =
    if bytes_eq word (codes "split") then split_at fields
    else (if bytes_eq word (codes "leaf") then leaf_at fields
    else (if bytes_eq word (codes "need") && nat_le 2 version then needed_at fields
    else (if bytes_eq word (codes "step") && nat_le 3 version then step_at fields
    else None)))

-- a place of the tree, or the end
unfoldable pub later_at : ℕ → List (List ℕ) → Found CertLine
later_at version [] = None
later_at version (word ∷ fields) =
    if bytes_eq word (codes "end") then Some (cert.End, fields)
    else option_map (λ x. (cert.Tree x.0, x.1)) (tree_at version word fields)

unfoldable pub head_at : List (List ℕ) → Found CertLine
head_at fields = do
  behind ← word_at (codes "vpack-certificate") fields
  version ← number_at 1 3 behind
  Some (cert.Head version.0, version.1)

-- the goal of a bound: none in version 1
unfoldable pub goal_at : ℕ → ℕ → List (List ℕ) → Found (Option ℕ)
goal_at version bound fields =
    if nat_le version 1 then Some (None, fields)
    else (do
      behind ← word_at (codes "goal") fields
      goal ← number_at bound (bound + 1) behind
      Some (Some goal.0, goal.1))

unfoldable pub bound_at : ℕ → List (List ℕ) → Found CertLine
bound_at version fields = do
  bound ← number_at 0 MAX_PRICE fields
  goal ← goal_at version bound.0 bound.1
  Some (cert.Claim (Bound bound.0) goal.0, goal.1)

-- a claim, by its second word
unfoldable pub claimed_at : ℕ → List (List ℕ) → Found CertLine
claimed_at version [] = None
claimed_at version (word ∷ fields) =
    if bytes_eq word (codes "empty") then Some (cert.Claim Empty None, fields)
    else (if bytes_eq word (codes "bound") then bound_at version fields else None)

unfoldable pub claim_at : ℕ → List (List ℕ) → Found CertLine
claim_at version fields = do
  behind ← word_at (codes "claim") fields
  claimed_at version behind

-- a line, by how many stand before it
unfoldable pub begun_at : ℕ → ℕ → List (List ℕ) → Found CertLine
begun_at before version fields =
    if before == 0 then head_at fields
    else (if before == 1 then claim_at version fields else later_at version fields)

-- a line with nothing behind it
unfoldable pub line_in : ℕ → ℕ → List (List ℕ) → Option CertLine
line_in before version fields = do
  line ← begun_at before version fields
  if length line.1 == 0 then Some line.0 else None

-- what a reader of fields answered is what is found, with these fields left, unless memory ran out
abbrev pub Gives : {A : Type 0} → Result A LineFault → Found A → List (List ℕ) → Type 0
Gives (Ok x) found left = found ≡ Some (x, left)
Gives (Err Bad) found left = found ≡ None
Gives (Err Memory) found left = Unit {0}

-- the same where no fields are left
abbrev pub GivesWhole : {A : Type 0} → Result A LineFault → Option A → Type 0
GivesWhole (Ok x) found = found ≡ Some x
GivesWhole (Err Bad) found = found ≡ None
GivesWhole (Err Memory) found = Unit {0}

-- the same where what is found is only what is left
abbrev pub Skips : Result (Unit {0}) LineFault → Option (List (List ℕ)) → List (List ℕ) → Type 0
Skips (Ok x) found left = found ≡ Some left
Skips (Err Bad) found left = found ≡ None
Skips (Err Memory) found left = Unit {0}

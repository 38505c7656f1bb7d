-- A text of one type reads as an instance exactly where its tokens are the row of this instance.
use Rattle.std.proofs.Common.{◌≡◌, ℕ, ◌+◌, ◌≤◌, List, [], ◌∷◌, ◌++◌, length, None, Result, Ok, refl, sym, ap, ◌∙◌, subst, append-nil, arith}
use Rattle.std.specs.List.{All, flat_map, sum_by}
use Rattle.std.proofs.lemmas.List.Sums.{sum_by-cons}
use Rattle.std.proofs.lemmas.List.Elements.{All-nil, All-cons, All-head, All-tail, All-weaker}
use Rattle.arc_num.specs.Words.{tokens_of}
use Rattle.arc_num.specs.declared.TheConstants.{MAX_DIMS, MAX_ITEMS, MAX_DEMAND}
use Rattle.packing_laws.specs.declared.fault.ReadFault.{ReadFault}
use Rattle.packing_laws.specs.declared.instances.BinType.{BinType}
use Rattle.packing_laws.specs.declared.instances.Item.{Item}
use Rattle.packing_laws.specs.declared.instances.ItemCap.{ItemCap}
use Rattle.packing_laws.specs.Instances.{InstanceValue, IsInstance, AreCaps, IsItem, IsVector, IsForm, IsBinType}
use Rattle.packing_laws.specs.Places.{Place, front, ◌>>=◌, next_number, next_vector, next_form}
use Rattle.packing_laws.specs.Layouts.{Field, Number, Vbp, SpellsInstance, vector_row, plain_item_row, row_of, IsPlain, next_plain_item, plain_item_behind, plain_instance_at}
use Rattle.layout_walk.proofs.Rows.{Passes, Passes-join, Passes-split, IsExact, each-All, All-each, read_both, both_read, same_value, same_place}
use Rattle.layout_walk.proofs.CapRows.{Walked, spelled_walk, walk_spelled}
use Rattle.layout_walk.proofs.ItemTails.{Tail, tail_at, tail_sound, tail_complete, walked-join, walked-split}
use Rattle.layout_walk.proofs.Numerals.{number-exact, vector-exact, form-exact}

-- an item with one form
abbrev pub IsPlainItem : ℕ → Item → Type 0
IsPlainItem n x = IsItem n x × (length x.forms ≡ 1)

abbrev pub item_of : List ℕ → ℕ → Item
item_of v b = record { demand = b; forms = v ∷ [] }

abbrev pub after_form : List ℕ × Place → Result (Item × Place) ReadFault
after_form v = next_number 0 MAX_DEMAND v.1 >>= (λ b. Ok (item_of v.0 b.0, b.1))

row_of_item : (v : List ℕ) (b : ℕ) → vector_row v ++ Number b ∷ [] ≡ plain_item_row (item_of v b)
row_of_item v b = ap (λ (r : List Field). r ++ Number b ∷ []) (sym (append-nil (vector_row v)))

item_sound : (n item : ℕ) (p : Place) (x : Item) (q : Place) → next_plain_item n item p ≡ Ok (x, q) → IsPlainItem n x × Passes p (plain_item_row x) q
unfolding next_plain_item
item_sound n item p x q h =
    let form = read_both (next_form n item 1 p) after_form (x, q) h in
    let v = form.0 in
    let number = read_both (next_number 0 MAX_DEMAND v.1) (λ (b : ℕ × Place). Ok (item_of v.0 b.0, b.1)) (x, q) form.1.1 in
    let b = number.0 in
    let value = same_value (Ok (item_of v.0 b.0, b.1)) (item_of v.0 b.0) x b.1 q refl number.1.1 in
    let place = same_place (Ok (item_of v.0 b.0, b.1)) (item_of v.0 b.0) x b.1 q refl number.1.1 in
    let form_part = (form-exact n item 1).sound p v.0 v.1 form.1.0 in
    let number_part = (number-exact 0 MAX_DEMAND).sound v.1 b.0 b.1 number.1.0 in
    let lawful : IsPlainItem n (item_of v.0 b.0) = (record { demand = number_part.0.1; form_count = (omega arith, omega arith); forms = All-cons (IsForm n) v.0 [] form_part.0 (All-nil (IsForm n)) }, refl) in
    let passed : Passes p (plain_item_row (item_of v.0 b.0)) b.1 = subst (λ (r : List Field). Passes p r b.1) (row_of_item v.0 b.0) (Passes-join p (vector_row v.0) (Number b.0 ∷ []) v.1 b.1 form_part.1 number_part.1) in
    subst (λ (z : Item). IsPlainItem n z × Passes p (plain_item_row z) q) value (lawful, subst (λ (z : Place). Passes p (plain_item_row (item_of v.0 b.0)) z) place passed)

item_complete : (n item : ℕ) (p : Place) (b : ℕ) (forms : List (List ℕ)) (q : Place) → IsPlainItem n (record { demand = b; forms = forms }) → Passes p (plain_item_row (record { demand = b; forms = forms })) q → next_plain_item n item p ≡ Ok (record { demand = b; forms = forms }, q)
unfolding next_plain_item
item_complete n item p b [] q l h = absurd (omega (arith, l.1))
item_complete n item p b (v ∷ w ∷ ws) q l h = absurd (omega (arith, l.1))
item_complete n item p b (v ∷ []) q l h =
    let both = Passes-split p (vector_row v) (Number b ∷ []) q (subst (λ (r : List Field). Passes p r q) (sym (row_of_item v b)) h) in
    let m = both.0 in
    let form = (form-exact n item 1).complete p v m (All-head (IsForm n) v [] l.0.forms) both.1.0 in
    let number = (number-exact 0 MAX_DEMAND).complete m b q (omega arith, l.0.demand) both.1.1 in
    both_read (next_form n item 1 p) after_form (v, m) (item_of v b, q) form (both_read (next_number 0 MAX_DEMAND m) (λ (b : ℕ × Place). Ok (item_of v b.0, b.1)) (b, q) (item_of v b, q) number refl)

pub item-exact : (n item : ℕ) → IsExact (next_plain_item n item) plain_item_row (IsPlainItem n)
item-exact n item = record {
  sound = λ p x q h. item_sound n item p x q h;
  complete = λ p x q l h. item_complete n item p x.demand x.forms q l h;
}

abbrev pub PlainBehind : ℕ → List Item → Item → Type 0
PlainBehind n xs x = IsPlainItem n x

items-exact : (n : ℕ) (xs : List Item) → IsExact (plain_item_behind n xs) plain_item_row (PlainBehind n xs)
items-exact n xs = item-exact n (length xs + 1)

-- with one form each there are as many forms as items
forms_each : (xs : List Item) → All (λ x. length x.forms ≡ 1) xs → sum_by (λ x. length x.forms) xs ≡ length xs
forms_each [] h = refl
forms_each (x ∷ xs) h =
    let rest = forms_each xs (All-tail (λ (x : Item). length x.forms ≡ 1) x xs h) in
    let one = All-head (λ (x : Item). length x.forms ≡ 1) x xs h in
    rw (sum_by-cons (λ (x : Item). length x.forms) x xs, one, rest) (omega arith)

abbrev pub Plain : ℕ → List ℕ → List Item → List ItemCap → InstanceValue
Plain n cap xs ks = record { dims = n; types = record { cap = cap; cost = 1; limit = None } ∷ []; items = xs; caps = ks }

-- what follows each part
abbrev pub after_capacity : ℕ → List ℕ × Place → Result InstanceValue ReadFault
after_capacity n cap = tail_at (plain_item_behind n) n (Plain n cap.0) cap.1

abbrev pub after_dims : ℕ × Place → Result InstanceValue ReadFault
after_dims n = next_vector n.0 n.1 >>= after_capacity n.0

-- what the parts of an instance are
lawful_instance : (n : ℕ) (cap : List ℕ) (xs : List Item) (ks : List ItemCap) → (1 ≤ n) × (n ≤ MAX_DIMS) → IsVector n cap → length xs ≤ MAX_ITEMS → All (IsPlainItem n) xs → AreCaps n (length xs) ks → IsInstance (Plain n cap xs ks) × IsPlain (Plain n cap xs ks)
lawful_instance n cap xs ks dims vector count items caps =
    let one_form = All-weaker (IsPlainItem n) (λ (x : Item). length x.forms ≡ 1) (λ x l. l.1) xs items in
    let forms = forms_each xs one_form in
    let bin_type : IsBinType n (record { cap = cap; cost = 1; limit = None }) = record { capacity = vector; cost = omega arith; limit = tt } in (
      record {
        dims = dims;
        type_count = (omega arith, omega arith);
        types = All-cons (IsBinType n) (record { cap = cap; cost = 1; limit = None }) [] bin_type (All-nil (IsBinType n));
        item_count = count;
        items = All-weaker (IsPlainItem n) (IsItem n) (λ x l. l.0) xs items;
        form_count = omega arith;
        caps = caps;
      },
      record { types = (cap, refl); forms = one_form },
    )

row_of_instance : (n : ℕ) (cap : List ℕ) (xs : List Item) (ks : List ItemCap) → Number n ∷ (vector_row cap ++ Number (length xs) ∷ flat_map plain_item_row xs) ≡ row_of Vbp (Plain n cap xs ks)
row_of_instance n cap xs ks = ap (λ (r : List Field). Number n ∷ (r ++ Number (length xs) ∷ flat_map plain_item_row xs)) (sym (append-nil (vector_row cap)))

-- from a place on the tokens spell the instance
abbrev pub WalkedPlain : Place → InstanceValue → Type 0
WalkedPlain p I = Walked p (row_of Vbp I) I.caps

pub instance_sound : (p : Place) (I : InstanceValue) → plain_instance_at p ≡ Ok I → (IsInstance I × IsPlain I) × WalkedPlain p I
unfolding plain_instance_at
instance_sound p I h =
    let a = read_both (next_number 1 MAX_DIMS p) after_dims I h in
    let n = a.0 in
    let b = read_both (next_vector n.0 n.1) (after_capacity n.0) I a.1.1 in
    let cap = b.0 in
    let n_part = (number-exact 1 MAX_DIMS).sound p n.0 n.1 a.1.0 in
    let cap_part = (vector-exact n.0).sound n.1 cap.0 cap.1 b.1.0 in
    let tail = tail_sound (plain_item_behind n.0) n.0 (Plain n.0 cap.0) plain_item_row (PlainBehind n.0) (items-exact n.0) cap.1 I n_part.0.1 b.1.1 in
    let xs = tail.0 in
    let ks = tail.1.0 in
    let parts = tail.1.1.1 in
    let lawful = lawful_instance n.0 cap.0 xs ks n_part.0 cap_part.0 parts.count (each-All (IsPlainItem n.0) [] xs parts.items) parts.caps in
    let middle = walked-join n.1 (vector_row cap.0) (Number (length xs) ∷ flat_map plain_item_row xs) cap.1 ks cap_part.1 parts.walk in
    let row = walked-join p (Number n.0 ∷ []) (vector_row cap.0 ++ Number (length xs) ∷ flat_map plain_item_row xs) n.1 ks n_part.1 middle in
    let whole = subst (λ (r : List Field). Walked p r ks) (row_of_instance n.0 cap.0 xs ks) row in
    subst (λ (z : InstanceValue). (IsInstance z × IsPlain z) × WalkedPlain p z) tail.1.1.0 (lawful, whole)

complete_parts : (p : Place) (n : ℕ) (cap : List ℕ) (xs : List Item) (ks : List ItemCap) → IsInstance (Plain n cap xs ks) → All (IsPlainItem n) xs → WalkedPlain p (Plain n cap xs ks) → plain_instance_at p ≡ Ok (Plain n cap xs ks)
unfolding plain_instance_at
complete_parts p n cap xs ks l items walked =
    let row = subst (λ (r : List Field). Walked p r ks) (sym (row_of_instance n cap xs ks)) walked in
    let a = walked-split p (Number n ∷ []) (vector_row cap ++ Number (length xs) ∷ flat_map plain_item_row xs) ks row in
    let b = walked-split a.0 (vector_row cap) (Number (length xs) ∷ flat_map plain_item_row xs) ks a.1.1 in
    let bin_type = All-head (IsBinType n) (record { cap = cap; cost = 1; limit = None }) [] l.types in
    let n_read = (number-exact 1 MAX_DIMS).complete p n a.0 l.dims a.1.0 in
    let cap_read = (vector-exact n).complete a.0 cap b.0 bin_type.capacity b.1.0 in
    let tail : Tail n plain_item_row (PlainBehind n) b.0 xs ks = record { count = l.item_count; items = All-each (IsPlainItem n) [] xs items; caps = l.caps; walk = b.1.1 } in
    let tail_read = tail_complete (plain_item_behind n) n (Plain n cap) plain_item_row (PlainBehind n) (items-exact n) b.0 xs ks tail in
    both_read (next_number 1 MAX_DIMS p) after_dims (n, a.0) (Plain n cap xs ks) n_read
    (both_read (next_vector n a.0) (after_capacity n) (cap, b.0) (Plain n cap xs ks) cap_read tail_read)

-- an instance of one type, by its parts
plain_is : (I : InstanceValue) (cap : List ℕ) → I.types ≡ record { cap = cap; cost = 1; limit = None } ∷ [] → Plain I.dims cap I.items I.caps ≡ I
plain_is I cap e = ap (λ (ts : List BinType). record { dims = I.dims; types = ts; items = I.items; caps = I.caps }) (sym e)

pub instance_complete : (p : Place) (I : InstanceValue) → IsInstance I × IsPlain I → WalkedPlain p I → plain_instance_at p ≡ Ok I
instance_complete p I l walked =
    let cap = l.1.types.0 in
    let same = plain_is I cap l.1.types.1 in
    let lawful = subst IsInstance (sym same) l.0 in
    let ended = subst (WalkedPlain p) (sym same) walked in
    let items = All-both (IsItem I.dims) (λ (x : Item). length x.forms ≡ 1) I.items l.0.items l.1.forms in
    complete_parts p I.dims cap I.items I.caps lawful items ended ∙ ap (λ (z : InstanceValue). Ok z) same
  where
    All-both : (P Q : Item → Type 0) (xs : List Item) → All P xs → All Q xs → All (λ x. P x × Q x) xs
    All-both P Q xs h k = λ i d lt. (h i d lt, k i d lt)

-- the law
pub reads_its_row : (text : List ℕ) (I : InstanceValue) → plain_instance_at (front text) ≡ Ok I → (IsInstance I × IsPlain I) × SpellsInstance Vbp (tokens_of text) I
reads_its_row text I h =
    let s = instance_sound (front text) I h in
    (s.0, spelled_walk (tokens_of text) 0 (row_of Vbp I) I.caps s.1)

pub row_is_read : (text : List ℕ) (I : InstanceValue) → (IsInstance I × IsPlain I) × SpellsInstance Vbp (tokens_of text) I → plain_instance_at (front text) ≡ Ok I
row_is_read text I h = instance_complete (front text) I h.0 (walk_spelled (tokens_of text) 0 (row_of Vbp I) I.caps h.1)

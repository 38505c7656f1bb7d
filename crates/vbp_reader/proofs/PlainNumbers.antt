-- A row of numbers is spelled by digits alone.
use Rattle.std.proofs.Common.{◌≡◌, ℕ, true, List, [], ◌∷◌, ◌++◌, length, map, Ok, refl, sym, ap, ◌∙◌, subst, ◌⊎◌, inl, inr}
use Rattle.std.specs.Prelude.{codes}
use Rattle.std.specs.List.{All, flat_map}
use Rattle.std.proofs.lemmas.List.Elements.{All-nil, All-cons, All-head, All-tail}
use Rattle.std.proofs.lemmas.List.{map-append}
use Rattle.arc_num.specs.Words.{tokens_of}
use Rattle.arc_num.specs.Decimals.{are_digits, value_of}
use Rattle.packing_laws.specs.declared.instances.BinType.{BinType}
use Rattle.packing_laws.specs.declared.instances.Item.{Item}
use Rattle.packing_laws.specs.declared.instances.ItemCap.{ItemCap}
use Rattle.packing_laws.specs.Instances.{InstanceValue, IsInstance}
use Rattle.packing_laws.specs.Places.{front}
use Rattle.packing_laws.specs.Layouts.{Field, Number, CapsWord, Vbp, IsPlain, Spells, SpellsInstance, vector_row, plain_item_row, cap_row, caps_row, AreNumbers, AreCapped, cap_numbers_of, plain_numbers_of, row_of, plain_instance_at}
use Rattle.vbp_reader.proofs.PlainRows.{reads_its_row, row_is_read}

abbrev AreDigits : List ℕ → Type 0
AreDigits t = are_digits t ≡ true

digits_spelled : (ts : List (List ℕ)) (ns : List ℕ) → Spells ts (map (λ n. Number n) ns) → AreNumbers ts ns
digits_spelled [] [] h = record { digits = All-nil AreDigits; values = refl }
digits_spelled [] (n ∷ ns) h = absurd h
digits_spelled (t ∷ ts) [] h = absurd h
digits_spelled (t ∷ ts) (n ∷ ns) h =
    let rest = digits_spelled ts ns h.1 in
    record { digits = All-cons AreDigits t ts h.0.0 rest.digits; values = cc (h.0.1, rest.values) }

spelled_digits : (ts : List (List ℕ)) (ns : List ℕ) → All AreDigits ts → map value_of ts ≡ ns → Spells ts (map (λ n. Number n) ns)
spelled_digits [] [] h e = tt
spelled_digits [] (n ∷ ns) h e = absurd (cc)
spelled_digits (t ∷ ts) [] h e = absurd (cc)
spelled_digits (t ∷ ts) (n ∷ ns) h e = ((All-head AreDigits t ts h, cc), spelled_digits ts ns (All-tail AreDigits t ts h) (cc))

-- tokens that spell two rows one after the other
spells_split : (ts : List (List ℕ)) (r s : List Field) → Spells ts (r ++ s) → (before : List (List ℕ)) × (after : List (List ℕ)) × (ts ≡ before ++ after) × Spells before r × Spells after s
spells_split ts [] s h = ([], ts, refl, tt, h)
spells_split [] (f ∷ fs) s h = absurd h
spells_split (t ∷ ts) (f ∷ fs) s h =
    let rest = spells_split ts fs s h.1 in
    (t ∷ rest.0, rest.1, ap (λ (z : List (List ℕ)). t ∷ z) rest.2, (h.0, rest.3), rest.4)

spells_join : (ts us : List (List ℕ)) (r s : List Field) → Spells ts r → Spells us s → Spells (ts ++ us) (r ++ s)
spells_join [] us [] s h k = k
spells_join [] us (f ∷ fs) s h k = absurd h
spells_join (t ∷ ts) us [] s h k = absurd h
spells_join (t ∷ ts) us (f ∷ fs) s h k = (h.0, spells_join ts us fs s h.1 k)

-- behind the word
word_split : (ts : List (List ℕ)) (r : List Field) → Spells ts (CapsWord ∷ r) → (after : List (List ℕ)) × (ts ≡ codes "caps" ∷ after) × Spells after r
word_split [] r h = absurd h
word_split (t ∷ ts) r h = (ts, ap (λ (z : List ℕ). z ∷ ts) h.0, h.1)

module _ {X : Type 0} where
  map_joined : (f : X → List ℕ) (g : X → List Field) (same : (x : X) → map (λ n. Number n) (f x) ≡ g x) (xs : List X) → map (λ n. Number n) (flat_map f xs) ≡ flat_map g xs
  map_joined f g same [] = refl
  map_joined f g same (x ∷ xs) =
      map-append (λ (n : ℕ). Number n) (f x) (flat_map f xs) ∙ cc (same x, map_joined f g same xs)

item_joined : (x : Item) → map (λ n. Number n) (flat_map (λ v. v) x.forms ++ x.demand ∷ []) ≡ plain_item_row x
item_joined x =
    map-append (λ (n : ℕ). Number n) (flat_map (λ (v : List ℕ). v) x.forms) (x.demand ∷ []) ∙ ap (λ (r : List Field). r ++ Number x.demand ∷ []) (map_joined (λ (v : List ℕ). v) vector_row (λ v. refl) x.forms)

row_of_numbers : (I : InstanceValue) → map (λ n. Number n) (plain_numbers_of I) ≡ row_of Vbp I
row_of_numbers I =
    let types = map_joined (λ (t : BinType). t.cap) (λ (t : BinType). vector_row t.cap) (λ t. refl) I.types in
    let items = map_joined (λ (x : Item). flat_map (λ v. v) x.forms ++ x.demand ∷ []) plain_item_row item_joined I.items in
    ap (λ (r : List Field). Number I.dims ∷ r) (map-append (λ (n : ℕ). Number n) (flat_map (λ (t : BinType). t.cap) I.types) (length I.items ∷ flat_map (λ x. flat_map (λ v. v) x.forms ++ x.demand ∷ []) I.items)
    ∙ cc (types, items))

caps_of_numbers : (ks : List ItemCap) → map (λ n. Number n) (cap_numbers_of ks) ≡ Number (length ks) ∷ flat_map cap_row ks
caps_of_numbers ks = ap (λ (r : List Field). Number (length ks) ∷ r) (map_joined (λ (k : ItemCap). k.item ∷ k.count ∷ []) cap_row (λ k. refl) ks)

-- the numbers of an instance, and of its caps
abbrev pub AreNumbersOf : List (List ℕ) → InstanceValue → Type 0
AreNumbersOf ts I = AreCapped ts (plain_numbers_of I) I.caps ⊎ ((I.caps ≡ []) × AreNumbers ts (plain_numbers_of I))

plain_numbers : (ts : List (List ℕ)) (I : InstanceValue) → Spells ts (row_of Vbp I) → AreNumbers ts (plain_numbers_of I)
plain_numbers ts I h = digits_spelled ts (plain_numbers_of I) (subst (Spells ts) (sym (row_of_numbers I)) h)

plain_row : (ts : List (List ℕ)) (I : InstanceValue) → AreNumbers ts (plain_numbers_of I) → Spells ts (row_of Vbp I)
plain_row ts I h = subst (Spells ts) (row_of_numbers I) (spelled_digits ts (plain_numbers_of I) h.digits h.values)

numbers_of_row : (ts : List (List ℕ)) (I : InstanceValue) → SpellsInstance Vbp ts I → AreNumbersOf ts I
numbers_of_row ts I (inl h) =
    let parts = spells_split ts (row_of Vbp I) (caps_row I.caps) h in
    let word = word_split parts.1 (Number (length I.caps) ∷ flat_map cap_row I.caps) parts.4 in
    let caps = digits_spelled word.0 (cap_numbers_of I.caps) (subst (Spells word.0) (sym (caps_of_numbers I.caps)) word.2) in
    let whole = parts.2 ∙ ap (λ (z : List (List ℕ)). parts.0 ++ z) word.1 in
    inl (parts.0, word.0, whole, plain_numbers parts.0 I parts.3, caps)
numbers_of_row ts I (inr h) = inr (h.0, plain_numbers ts I h.1)

row_of_capped : (ts : List (List ℕ)) (I : InstanceValue) → AreNumbersOf ts I → SpellsInstance Vbp ts I
row_of_capped ts I (inl h) =
    let caps = subst (Spells h.1) (caps_of_numbers I.caps) (spelled_digits h.1 (cap_numbers_of I.caps) h.4.digits h.4.values) in
    inl (subst (λ (z : List (List ℕ)). Spells z (row_of Vbp I ++ caps_row I.caps)) (sym h.2) (spells_join h.0 (codes "caps" ∷ h.1) (row_of Vbp I) (caps_row I.caps) (plain_row h.0 I h.3) (refl, caps)))
row_of_capped ts I (inr h) = inr (h.0, plain_row ts I h.1)

pub reads_its_numbers : (text : List ℕ) (I : InstanceValue) → plain_instance_at (front text) ≡ Ok I → (IsInstance I × IsPlain I) × AreNumbersOf (tokens_of text) I
reads_its_numbers text I h =
    let s = reads_its_row text I h in
    (s.0, numbers_of_row (tokens_of text) I s.1)

pub numbers_are_read : (text : List ℕ) (I : InstanceValue) → (IsInstance I × IsPlain I) × AreNumbersOf (tokens_of text) I → plain_instance_at (front text) ≡ Ok I
numbers_are_read text I h = row_is_read text I (h.0, row_of_capped (tokens_of text) I h.1)

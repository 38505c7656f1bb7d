-- The caps of a text are read exactly where its last tokens are their row.
use Rattle.std.proofs.Common.{◌≡◌, ℕ, ◌+◌, ◌-◌, ◌<◌, ◌≤◌, Bool, true, false, cond, List, [], ◌∷◌, ◌++◌, length, Ok, Err, refl, sym, ap, ◌∙◌, subst, ◌⊎◌, inl, inr, arith}
use Rattle.std.specs.Prelude.{codes, min}
use Rattle.std.specs.Str.{bytes_eq}
use Rattle.std.specs.Cmp.Lexicographic.{same_text}
use Rattle.std.specs.List.{All, AllByRecursion, flat_map}
use Rattle.std.specs.List.Sorted.{IsStrictlySortedBy}
use Rattle.std.specs.declared.cmp.Ordering.TheVariants.{Less}
use Rattle.std.proofs.Math.Nat.{min-le_right}
use Rattle.std.proofs.lemmas.List.Sums.{fold_push}
use Rattle.std.proofs.lemmas.List.Elements.{All-nil, All-cons, All-head, All-tail}
use Rattle.arc_num.specs.declared.TheConstants.{MAX_DIMS, MAX_CAP}
use Rattle.packing_laws.specs.declared.fault.ReadFault.{ReadFault}
use Rattle.packing_laws.specs.declared.instances.ItemCap.{ItemCap}
use Rattle.packing_laws.specs.Instances.{IsCap, AreCaps, cap_cmp}
use Rattle.packing_laws.specs.Places.{Place, ◌>>=◌, next_number, several, end_at, caps_word_in, caps_word}
use Rattle.packing_laws.specs.Layouts.{Field, Number, CapsWord, cap_row, caps_row, Spells, last_item, next_cap, cap_behind, caps_if, caps_at}
use Rattle.layout_walk.proofs.Repeats.{several-more, several-fault, several-all}
use Rattle.layout_walk.proofs.Rows.{Passes, Passes-join, Passes-split, Spells-passed, Passes-spelled, IsExact, EachLawful, several-exact, read_both, both_read, same_value, same_place, end_reached, reached_end}
use Rattle.layout_walk.proofs.Numerals.{number-exact}
use Rattle.layout_walk.proofs.CapParts.{cap_of, after_item, after_count, after_caps, after_word}

-- a cap behind those of lower items
abbrev pub IsCapBehind : ℕ → ℕ → ItemCap → Type 0
IsCapBehind items last k = ((last + 1 ≤ k.item) × (k.item ≤ items)) × ((1 ≤ k.count) × (k.count ≤ MAX_CAP))

cap_sound : (items last : ℕ) (p : Place) (k : ItemCap) (q : Place) → next_cap items last p ≡ Ok (k, q) → IsCapBehind items last k × Passes p (cap_row k) q
unfolding next_cap
cap_sound items last p k q h =
    let a = read_both (next_number (last + 1) items p) after_item (k, q) h in
    let i = a.0 in
    let b = read_both (next_number 1 MAX_CAP i.1) (λ (n : ℕ × Place). Ok (cap_of i.0 n.0, n.1)) (k, q) a.1.1 in
    let n = b.0 in
    let made = cap_of i.0 n.0 in
    let value = same_value (Ok (made, n.1)) made k n.1 q refl b.1.1 in
    let place = same_place (Ok (made, n.1)) made k n.1 q refl b.1.1 in
    let item = (number-exact (last + 1) items).sound p i.0 i.1 a.1.0 in
    let count = (number-exact 1 MAX_CAP).sound i.1 n.0 n.1 b.1.0 in
    let passed : Passes p (cap_row made) n.1 = Passes-join p (Number i.0 ∷ []) (Number n.0 ∷ []) i.1 n.1 item.1 count.1 in
    subst (λ (z : ItemCap). IsCapBehind items last z × Passes p (cap_row z) q) value ((item.0, count.0), subst (λ (z : Place). Passes p (cap_row made) z) place passed)

cap_complete : (items last : ℕ) (p : Place) (k : ItemCap) (q : Place) → IsCapBehind items last k → Passes p (cap_row k) q → next_cap items last p ≡ Ok (k, q)
unfolding next_cap
cap_complete items last p k q l h =
    let a = Passes-split p (Number k.item ∷ []) (Number k.count ∷ []) q h in
    let item = (number-exact (last + 1) items).complete p k.item a.0 l.0 a.1.0 in
    let count = (number-exact 1 MAX_CAP).complete a.0 k.count q l.1 a.1.1 in
    both_read (next_number (last + 1) items p) after_item (k.item, a.0) (k, q) item
    (both_read (next_number 1 MAX_CAP a.0) (λ (n : ℕ × Place). Ok (cap_of k.item n.0, n.1)) (k.count, q) (k, q) count refl)

cap-exact : (items last : ℕ) → IsExact (next_cap items last) cap_row (IsCapBehind items last)
cap-exact items last = record {
  sound = λ p k q h. cap_sound items last p k q h;
  complete = λ p k q l h. cap_complete items last p k q l h;
}

abbrev pub CapBehind : ℕ → List ItemCap → ItemCap → Type 0
CapBehind items ks k = IsCapBehind items (last_item ks) k

listed-exact : (items count : ℕ) → IsExact (several count (cap_behind items) []) (flat_map cap_row) (λ (ks : List ItemCap). (length ks ≡ count) × EachLawful (CapBehind items) [] ks)
listed-exact items count = several-exact (cap_behind items) cap_row (CapBehind items) (λ ks. cap-exact items (last_item ks)) count

-- the item of one more cap is the last
pub last_item-push : (ks : List ItemCap) (k : ItemCap) → last_item (ks ++ k ∷ []) ≡ k.item
last_item-push ks k = fold_push (λ (_ : ℕ) (k : ItemCap). k.item) 0 ks k

-- all caps are those of items above this one
abbrev Above : ℕ → List ItemCap → Type 0
Above item ks = AllByRecursion (λ k. item < k.item) ks

above-less : (k : ItemCap) (ks : List ItemCap) → Above k.item ks → AllByRecursion (λ z. cap_cmp k z ≡ Less) ks
above-less k [] h = tt
above-less k (x ∷ xs) h = let less : k.item < x.item = h.0 in (grind arith, above-less k xs h.1)

less-above : (k : ItemCap) (ks : List ItemCap) → AllByRecursion (λ z. cap_cmp k z ≡ Less) ks → Above k.item ks
less-above k [] h = tt
less-above k (x ∷ xs) h = let less : cap_cmp k x ≡ Less = h.0 in (grind arith, less-above k xs h.1)

above-lower : (i j : ℕ) (ks : List ItemCap) → i ≤ j → Above j ks → Above i ks
above-lower i j [] l h = tt
above-lower i j (x ∷ xs) l h = let above : j < x.item = h.0 in (omega arith, above-lower i j xs l h.1)

-- caps that are each behind those before it ascend
ascending : (items : ℕ) (ks ys : List ItemCap) → EachLawful (CapBehind items) ks ys → All (IsCap items) ys × IsStrictlySortedBy cap_cmp ys × Above (last_item ks) ys
unfolding IsStrictlySortedBy
ascending items ks [] h = (All-nil (IsCap items), tt, tt)
ascending items ks (y ∷ ys) h =
    let rest = ascending items (ks ++ y ∷ []) ys h.1 in
    let item = h.0.0 in
    let last = last_item-push ks y in
    let above : Above y.item ys = subst (λ (z : ℕ). Above z ys) last rest.2 in
    let cap : IsCap items y = record { item = (omega (arith, item.0), item.1); count = h.0.1 } in
    (All-cons (IsCap items) y ys cap rest.0, (above-less y ys above, rest.1), (omega (arith, item.0), above-lower (last_item ks) y.item ys (omega (arith, item.0)) above))

each-behind : (items : ℕ) (ks ys : List ItemCap) → All (IsCap items) ys → IsStrictlySortedBy cap_cmp ys → Above (last_item ks) ys → EachLawful (CapBehind items) ks ys
unfolding IsStrictlySortedBy
each-behind items ks [] a s h = tt
each-behind items ks (y ∷ ys) a s h =
    let cap = All-head (IsCap items) y ys a in
    let first : last_item ks < y.item = h.0 in
    let above : Above (last_item (ks ++ y ∷ [])) ys = subst (λ (z : ℕ). Above z ys) (sym (last_item-push ks y)) (less-above y ys s.0) in
    (((omega (arith, first), cap.item.1), cap.count), each-behind items (ks ++ y ∷ []) ys (All-tail (IsCap items) y ys a) s.1 above)

-- there are not more of them than items
few : (items : ℕ) (ks ys : List ItemCap) → last_item ks ≤ items → EachLawful (CapBehind items) ks ys → last_item ks + length ys ≤ items
few items ks [] l h = omega (arith, l)
few items ks (y ∷ ys) l h =
    let item = h.0.0 in
    let last = last_item-push ks y in
    let rest = few items (ks ++ y ∷ []) ys (omega (arith, last, item.1)) h.1 in
    omega (arith, last, rest, item.0)

-- from a place on the tokens up to the last spell the row
abbrev pub Ends : Place → List Field → Type 0
Ends p r = (q : Place) × (Passes p r q × (q.left ≡ []))

-- from a place on the tokens up to the last spell the caps, which may be left out where there are none
abbrev pub EndsInCaps : Place → List ItemCap → Type 0
EndsInCaps p ks = Ends p (caps_row ks) ⊎ ((ks ≡ []) × (p.left ≡ []))

-- the word, or the end of the text
word_first : (b : Bool) (x y : Bool × Place) (e : ReadFault) → cond b (Ok x) (Err e) ≡ Ok y → (b ≡ true) × (x ≡ y)
word_first true x y e h = (refl, cc)
word_first false x y e h = absurd (cc)

abbrev WordOrEnd : Place → Bool → Place → Type 0
WordOrEnd p true q = Passes p (CapsWord ∷ []) q
WordOrEnd p false q = (p.left ≡ []) × (q.left ≡ [])

word_sound : (count : ℕ) (ts : List (List ℕ)) (b : Bool) (q : Place) → caps_word_in count ts ≡ Ok (b, q) → WordOrEnd (record { count = count; left = ts }) b q
word_sound count [] true q h =
    let place : Place = record { count = count; left = [] } in
    let apart : false ≡ true = same_value (Ok (false, place)) false true place q refl h in
    absurd (cc)
word_sound count [] false q h =
    let place : Place = record { count = count; left = [] } in
    let same = same_place (Ok (false, place)) false false place q refl h in
    (refl, sym (ap (λ (z : Place). z.left) same))
word_sound count (t ∷ ts) true q h =
    let place : Place = record { count = count + 1; left = ts } in
    let first = word_first (bytes_eq t (codes "caps")) (true, place) (true, q) _ h in
    (same_text t (codes "caps") (sym first.0), ap (λ (z : Bool × Place). z.1) first.1)
word_sound count (t ∷ ts) false q h =
    let place : Place = record { count = count + 1; left = ts } in
    let first = word_first (bytes_eq t (codes "caps")) (true, place) (false, q) _ h in
    let apart : true ≡ false = ap (λ (z : Bool × Place). z.0) first.1 in
    absurd (cc)

word_complete : (count : ℕ) (ts : List (List ℕ)) (q : Place) → Passes (record { count = count; left = ts }) (CapsWord ∷ []) q → caps_word_in count ts ≡ Ok (true, q)
word_complete count [] q h = absurd (h.0)
word_complete count (t ∷ ts) q h =
    let read : caps_word_in count (t ∷ ts) ≡ Ok (true, record { count = count + 1; left = ts }) = subst (λ (z : List ℕ). caps_word_in count (z ∷ ts) ≡ Ok (true, record { count = count + 1; left = ts })) (sym h.0) refl in
    read ∙ ap (λ (z : Place). Ok (true, z)) h.1

end_complete : (count : ℕ) (ts : List (List ℕ)) → ts ≡ [] → caps_word_in count ts ≡ Ok (false, record { count = count; left = [] })
end_complete count ts e = rw e refl

-- the caps behind the word
listed_sound : (dims items : ℕ) (p : Place) (ks : List ItemCap) → dims ≤ MAX_DIMS → (caps_if true dims items p >>= after_caps) ≡ Ok ks → AreCaps dims items ks × Ends p (Number (length ks) ∷ flat_map cap_row ks)
unfolding end_at
listed_sound dims items p ks l h =
    let a = read_both (caps_if true dims items p) after_caps ks h in
    let b = read_both (next_number 0 (min items (MAX_DIMS - dims)) p) (after_count items) a.0 a.1.0 in
    let r = b.0 in
    let listed = a.0 in
    let d = read_both (end_at listed.1) (λ (_ : Unit {0}). Ok listed.0) ks a.1.1 in
    let value : listed.0 ≡ ks = cc (d.1.1) in
    let count = (number-exact 0 (min items (MAX_DIMS - dims))).sound p r.0 r.1 b.1.0 in
    let part = (listed-exact items r.0).sound r.1 listed.0 listed.1 b.1.1 in
    let order = ascending items [] listed.0 part.0.1 in
    let least : min items (MAX_DIMS - dims) ≤ MAX_DIMS - dims = min-le_right items (MAX_DIMS - dims) in
    let lawful : AreCaps dims items listed.0 = record { room = omega (arith, part.0.0, count.0.1, least, l); each = order.0; order = order.1 } in
    let number = subst (λ (z : ℕ). Passes p (Number z ∷ []) r.1) (sym part.0.0) count.1 in
    let passed : Passes p (Number (length listed.0) ∷ flat_map cap_row listed.0) listed.1 = Passes-join p (Number (length listed.0) ∷ []) (flat_map cap_row listed.0) r.1 listed.1 number part.1 in
    let end = end_reached listed.1.count listed.1.left d.0 d.1.0 in
    subst (λ (z : List ItemCap). AreCaps dims items z × Ends p (Number (length z) ∷ flat_map cap_row z)) value (lawful, (listed.1, (passed, end)))

listed_complete : (dims items : ℕ) (p : Place) (ks : List ItemCap) → AreCaps dims items ks → Ends p (Number (length ks) ∷ flat_map cap_row ks) → (caps_if true dims items p >>= after_caps) ≡ Ok ks
unfolding end_at
listed_complete dims items p ks l h =
    let q = h.0 in
    let a = Passes-split p (Number (length ks) ∷ []) (flat_map cap_row ks) q h.1.0 in
    let each = each-behind items [] ks l.each l.order (above_none ks l.each) in
    let many = few items [] ks (omega arith) each in
    let room : length ks ≤ MAX_DIMS - dims = omega (arith, l.room) in
    let within : length ks ≤ min items (MAX_DIMS - dims) = least (length ks) items (MAX_DIMS - dims) (omega (arith, many)) room in
    let count = (number-exact 0 (min items (MAX_DIMS - dims))).complete p (length ks) a.0 (omega arith, within) a.1.0 in
    let listed = (listed-exact items (length ks)).complete a.0 ks q (refl, each) a.1.1 in
    let end = reached_end q.count q.left h.1.1 in
    both_read (caps_if true dims items p) after_caps (ks, q) ks
    (both_read (next_number 0 (min items (MAX_DIMS - dims)) p) (after_count items) (length ks, a.0) (ks, q) count listed)
    (both_read (end_at q) (λ (_ : Unit {0}). Ok ks) tt ks end refl)
  where
    above_none : (ks : List ItemCap) → All (IsCap items) ks → Above 0 ks
    above_none [] h = tt
    above_none (x ∷ xs) h = let cap = All-head (IsCap items) x xs h in (omega (arith, cap.item.0), above_none xs (All-tail (IsCap items) x xs h))

    least : (n a b : ℕ) → n ≤ a → n ≤ b → n ≤ min a b
    least n a b h k = grind arith

-- all that stands behind the last item
rest_sound : (b : Bool) (dims items : ℕ) (p q : Place) (ks : List ItemCap) → dims ≤ MAX_DIMS → WordOrEnd p b q → (caps_if b dims items q >>= after_caps) ≡ Ok ks → AreCaps dims items ks × EndsInCaps p ks
unfolding end_at IsStrictlySortedBy
rest_sound true dims items p q ks l w h =
    let listed = listed_sound dims items q ks l h in
    let m = listed.1.0 in
    (listed.0, inl (m, (Passes-join p (CapsWord ∷ []) (Number (length ks) ∷ flat_map cap_row ks) q m w listed.1.1.0, listed.1.1.1)))
rest_sound false dims items p q ks l w h =
    let d = read_both (end_at q) (λ (_ : Unit {0}). Ok ([])) ks h in
    let none : [] ≡ ks = cc (d.1.1) in
    let lawful : AreCaps dims items [] = record { room = omega (arith, l); each = All-nil (IsCap items); order = tt } in
    (subst (AreCaps dims items) none lawful, inr (sym none, w.0))

pub caps_sound : (dims items : ℕ) (p : Place) (ks : List ItemCap) → dims ≤ MAX_DIMS → caps_at dims items p ≡ Ok ks → AreCaps dims items ks × EndsInCaps p ks
unfolding caps_at caps_word
caps_sound dims items p ks l h =
    let a = read_both (caps_word p) (after_word dims items) ks h in
    let word = a.0 in
    rest_sound word.0 dims items p word.1 ks l (word_sound p.count p.left word.0 word.1 a.1.0) a.1.1

pub caps_complete : (dims items : ℕ) (p : Place) (ks : List ItemCap) → AreCaps dims items ks → EndsInCaps p ks → caps_at dims items p ≡ Ok ks
unfolding caps_at caps_word end_at
caps_complete dims items p ks l (inl h) =
    let q = h.0 in
    let a = Passes-split p (CapsWord ∷ []) (Number (length ks) ∷ flat_map cap_row ks) q h.1.0 in
    both_read (caps_word p) (after_word dims items) (true, a.0) ks (word_complete p.count p.left a.0 a.1.0) (listed_complete dims items a.0 ks l (q, (a.1.1, h.1.1)))
caps_complete dims items p ks l (inr h) =
    let place : Place = record { count = p.count; left = [] } in
    both_read (caps_word p) (after_word dims items) (false, place) ks (end_complete p.count p.left h.1) (ap (λ (z : List ItemCap). Ok z) (sym h.0))

-- from a place on the tokens spell a row, and behind it up to the last the caps
abbrev pub Walked : Place → List Field → List ItemCap → Type 0
Walked p r ks = (q : Place) × (Passes p r q × EndsInCaps q ks)

-- the same of all tokens of a text
abbrev pub SpellsCapped : List (List ℕ) → List Field → List ItemCap → Type 0
SpellsCapped ts r ks = Spells ts (r ++ caps_row ks) ⊎ ((ks ≡ []) × Spells ts r)

pub spelled_walk : (ts : List (List ℕ)) (count : ℕ) (r : List Field) (ks : List ItemCap) → Walked (record { count = count; left = ts }) r ks → SpellsCapped ts r ks
spelled_walk ts count r ks (m, (h, inl e)) = inl (Spells-passed ts count (r ++ caps_row ks) e.0 (Passes-join (record { count = count; left = ts }) r (caps_row ks) m e.0 h e.1.0) e.1.1)
spelled_walk ts count r ks (m, (h, inr e)) = inr (e.0, Spells-passed ts count r m h e.1)

pub walk_spelled : (ts : List (List ℕ)) (count : ℕ) (r : List Field) (ks : List ItemCap) → SpellsCapped ts r ks → Walked (record { count = count; left = ts }) r ks
walk_spelled ts count r ks (inl h) =
    let whole = Passes-spelled ts count (r ++ caps_row ks) h in
    let split = Passes-split (record { count = count; left = ts }) r (caps_row ks) whole.0 whole.1.0 in
    (split.0, (split.1.0, inl (whole.0, (split.1.1, whole.1.1))))
walk_spelled ts count r ks (inr h) =
    let whole = Passes-spelled ts count r h.1 in
    (whole.0, (whole.1.0, inr (h.0, whole.1.1)))

pub ruleset cap_steps = (several-more, several-fault, several-all, last_item-push)

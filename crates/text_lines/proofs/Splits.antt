-- Cutting a text into lines, and a line into fields.
use Rattle.std.proofs.Common.{suc, ◌≡◌, ℕ, ◌+◌, ◌-◌, ◌<◌, ◌≤◌, Bool, true, false, cond, List, [], ◌∷◌, ◌++◌, length, get_or, take, drop, Some, None, refl, sym, ap, ◌∙◌, subst, arith, add-one, drop-cons}
use Rattle.std.specs.Prelude.{◌&&◌, ◌==◌, not, position, bytes_eq, codes, if◌then◌else◌}
use Rattle.std.specs.List.{list_all, position_or_len}
use Rattle.std.proofs.Math.Seq.{drop-length}
use Rattle.std.proofs.lemmas.Bool.Decides.{nat_tests}
use Rattle.std.proofs.lemmas.List.{take-append-drop, length-drop, length-take-le}
use Rattle.std.proofs.lemmas.List.Sums.{passes_at_first}
use Rattle.arc_num.specs.Words.{onto_first}
use Rattle.arc_num.proofs.Places.{place_some, place_none, none_before}
use Rattle.text_lines.specs.Lines.{lines_of, is_at_feed, without_return, parts_fields, ends_field, fields_of, IsFirstField}

-- no line feed among these
abbrev IsOneLine : List ℕ → Type 0
IsOneLine s = list_all (λ b. not (b == 10)) s ≡ true

one_head : (b : ℕ) (bs : List ℕ) → IsOneLine (b ∷ bs) → ((b == 10) ≡ false) × IsOneLine bs
one_head b bs h = by (b == 10) h
  where
    by : (x : Bool) → (not x && list_all (λ b. not (b == 10)) bs) ≡ true → (x ≡ false) × IsOneLine bs
    by true h = absurd (cc)
    by false h = (refl, h)

and_false : (a : Bool) → (a && false) ≡ false
and_false true = refl
and_false false = refl

lines_byte : (b : ℕ) (bs : List ℕ) (ls : List (List ℕ)) → (b == 10) ≡ false → is_at_feed bs ≡ false → lines_of bs ≡ ls → lines_of (b ∷ bs) ≡ onto_first b ls
lines_byte b bs ls e feed rest = rw (e, feed, and_false (b == 13), rest) refl

last_line : (b : ℕ) (bs : List ℕ) → IsOneLine (b ∷ bs) → lines_of (b ∷ bs) ≡ (b ∷ bs) ∷ []
last_line b [] h = lines_byte b [] [] (one_head b [] h).0 refl refl
last_line b (c ∷ cs) h =
    let first = one_head b (c ∷ cs) h in
    let second = one_head c cs first.1 in
    lines_byte b (c ∷ cs) ((c ∷ cs) ∷ []) first.0 second.0 (last_line c cs first.1)

-- the last byte of a line in front of a line feed
line_end : (b : ℕ) (rest : List ℕ) → (b == 10) ≡ false → lines_of (b ∷ 10 ∷ rest) ≡ without_return (b ∷ []) ∷ lines_of rest
line_end b rest e = rw e (by (b == 13))
  where
    by : (x : Bool) → cond (x && true) ([] ∷ lines_of rest) ((b ∷ []) ∷ lines_of rest) ≡ cond x [] (b ∷ []) ∷ lines_of rest
    by true = refl
    by false = refl

line_feed : (s rest : List ℕ) → IsOneLine s → lines_of (s ++ (10 ∷ rest)) ≡ without_return s ∷ lines_of rest
line_feed [] rest h = refl
line_feed (b ∷ []) rest h = line_end b rest (one_head b [] h).0
line_feed (b ∷ c ∷ cs) rest h =
    let first = one_head b (c ∷ cs) h in
    let second = one_head c cs first.1 in
    lines_byte b (c ∷ cs ++ (10 ∷ rest)) (without_return (c ∷ cs) ∷ lines_of rest) first.0 second.0 (line_feed (c ∷ cs) rest first.1)

pub split_at_feed : (text : List ℕ) (i : ℕ) → position (λ b. b == 10) text ≡ Some i → lines_of text ≡ without_return (take i text) ∷ lines_of (drop (i + 1) text)
split_at_feed text i h =
    let place = place_some (λ (b : ℕ). b == 10) text i h in
    let first = place.0 in
    let lt = place.1 in
    let at : (get_or text (position_or_len (λ b. b == 10) text) 0 == 10) ≡ true = passes_at_first (λ (b : ℕ). b == 10) text 0 (omega arith) in
    let feed : (get_or text i 0 == 10) ≡ true = subst (λ (k : ℕ). (get_or text k 0 == 10) ≡ true) (sym first) at in
    let ten : get_or text i 0 ≡ 10 = grind (arith, nat_tests) in
    let cut : drop i text ≡ 10 ∷ drop (i + 1) text = rw (add-one) (drop-cons text i 0 lt ∙ ap (λ (z : ℕ). z ∷ drop (suc i) text) ten) in
    let whole : text ≡ take i text ++ (10 ∷ drop (i + 1) text) = sym (take-append-drop i text) ∙ ap (λ (z : List ℕ). take i text ++ z) cut in
    ap lines_of whole ∙ line_feed (take i text) (drop (i + 1) text) (none_before (λ (b : ℕ). b == 10) text i (omega arith))

take_all : (xs : List ℕ) → take (length xs) xs ≡ xs
take_all [] = refl
take_all (x ∷ xs) = ap (λ (z : List ℕ). x ∷ z) (take_all xs)

pub split_last : (text : List ℕ) → 0 < length text → position (λ b. b == 10) text ≡ None → lines_of text ≡ text ∷ lines_of (drop (length text) text)
split_last [] lt h = absurd (omega arith)
split_last (b ∷ bs) lt h =
    let all = place_none (λ (b : ℕ). b == 10) (b ∷ bs) h in
    let none : IsOneLine (b ∷ bs) = subst IsOneLine (take_all (b ∷ bs)) (none_before (λ (b : ℕ). b == 10) (b ∷ bs) (length (b ∷ bs)) (omega arith)) in
    last_line b bs none ∙ ap (λ (z : List ℕ). (b ∷ bs) ∷ lines_of z) (sym (drop-length (b ∷ bs)))

-- what is cut off behind a line
suffix_cut : (b c : ℕ) (bs : List ℕ) → drop (length (b ∷ c ∷ bs) - 1) (b ∷ c ∷ bs) ≡ drop (length (c ∷ bs) - 1) (c ∷ bs)
suffix_cut b c bs =
    let one : suc (suc (length bs)) - 1 ≡ suc (length bs) = omega arith in
    let two : suc (length bs) - 1 ≡ length bs = omega arith in
    ap (λ (k : ℕ). drop k (b ∷ c ∷ bs)) one ∙ ap (λ (k : ℕ). drop k (c ∷ bs)) (sym two)

prefix_cut : (b c : ℕ) (bs : List ℕ) → take (length (b ∷ c ∷ bs) - 1) (b ∷ c ∷ bs) ≡ b ∷ take (length (c ∷ bs) - 1) (c ∷ bs)
prefix_cut b c bs =
    let one : suc (suc (length bs)) - 1 ≡ suc (length bs) = omega arith in
    let two : suc (length bs) - 1 ≡ length bs = omega arith in
    ap (λ (k : ℕ). take k (b ∷ c ∷ bs)) one ∙ ap (λ (k : ℕ). b ∷ take k (c ∷ bs)) (sym two)

and_true : (a : Bool) → (a && true) ≡ a
and_true true = refl
and_true false = refl

pub returned : (s : List ℕ) → bytes_eq (drop (length s - 1) s) (codes "\r") ≡ true → without_return s ≡ take (length s - 1) s
returned [] h = absurd (cc)
returned (b ∷ []) h = let e : (b == 13) ≡ true = sym (and_true (b == 13)) ∙ h in rw e refl
returned (b ∷ c ∷ bs) h =
    ap (λ (z : List ℕ). b ∷ z) (returned (c ∷ bs) (ap (λ (z : List ℕ). bytes_eq z (codes "\r")) (sym (suffix_cut b c bs)) ∙ h)) ∙ sym (prefix_cut b c bs)

pub kept_whole : (s : List ℕ) → bytes_eq (drop (length s - 1) s) (codes "\r") ≡ false → without_return s ≡ s
kept_whole [] h = refl
kept_whole (b ∷ []) h = let e : (b == 13) ≡ false = sym (and_true (b == 13)) ∙ h in rw e refl
kept_whole (b ∷ c ∷ bs) h = ap (λ (z : List ℕ). b ∷ z) (kept_whole (c ∷ bs) (ap (λ (z : List ℕ). bytes_eq z (codes "\r")) (sym (suffix_cut b c bs)) ∙ h))

-- the bytes in front of the first field
abbrev inside : ℕ → Bool
inside b = not (parts_fields b)

fields_behind : (s : List ℕ) → fields_of (drop (position_or_len inside s) s) ≡ fields_of s
fields_behind [] = refl
fields_behind (b ∷ bs) = by (parts_fields b) refl (fields_behind bs)
  where
    by : (x : Bool) → parts_fields b ≡ x → fields_of (drop (position_or_len inside bs) bs) ≡ fields_of bs → fields_of (drop (position_or_len inside (b ∷ bs)) (b ∷ bs)) ≡ fields_of (b ∷ bs)
    by true e next =
        let more : position_or_len inside (b ∷ bs) ≡ suc (position_or_len inside bs) = rw e (omega arith) in
        ap (λ (k : ℕ). fields_of (drop k (b ∷ bs))) more ∙ (next ∙ rw e refl)
    by false e next =
        let none : position_or_len inside (b ∷ bs) ≡ 0 = rw e refl in
        ap (λ (k : ℕ). fields_of (drop k (b ∷ bs))) none

begins_inside : (s : List ℕ) → list_all inside (take 1 (drop (position_or_len inside s) s)) ≡ true
begins_inside [] = refl
begins_inside (b ∷ bs) = by (parts_fields b) refl (begins_inside bs)
  where
    by : (x : Bool) → parts_fields b ≡ x → list_all inside (take 1 (drop (position_or_len inside bs) bs)) ≡ true → list_all inside (take 1 (drop (position_or_len inside (b ∷ bs)) (b ∷ bs))) ≡ true
    by true e next =
        let more : position_or_len inside (b ∷ bs) ≡ suc (position_or_len inside bs) = rw e (omega arith) in
        ap (λ (k : ℕ). list_all inside (take 1 (drop k (b ∷ bs)))) more ∙ next
    by false e next =
        let none : position_or_len inside (b ∷ bs) ≡ 0 = rw e refl in
        ap (λ (k : ℕ). list_all inside (take 1 (drop k (b ∷ bs)))) none ∙ rw e refl

suc_zero : (n : ℕ) → (suc n == 0) ≡ false
suc_zero n = grind (arith, nat_tests)

some_zero : (n : ℕ) → 0 < n → (n == 0) ≡ false
some_zero n h = grind (arith, nat_tests)

-- the first field and what stands behind it, where the field has n bytes
abbrev cut_at : ℕ → List ℕ → List (List ℕ)
cut_at n s = if n == 0 then [] else take n s ∷ fields_of (drop n s)

cut_suc : (n b : ℕ) (bs : List ℕ) → cut_at (suc n) (b ∷ bs) ≡ (b ∷ take n bs) ∷ fields_of (drop n bs)
cut_suc n b bs = rw (suc_zero n) refl

cut_on : (b : ℕ) (bs : List ℕ) (n : ℕ) (x : Bool) → ends_field bs ≡ x → parts_fields b ≡ false → (x ≡ true → n ≡ 0) → (x ≡ false → fields_of bs ≡ take n bs ∷ fields_of (drop n bs)) → fields_of (b ∷ bs) ≡ (b ∷ take n bs) ∷ fields_of (drop n bs)
cut_on b bs n true ends part none more = subst (λ (k : ℕ). fields_of (b ∷ bs) ≡ (b ∷ take k bs) ∷ fields_of (drop k bs)) (sym (none refl)) (rw (part, ends) refl)
cut_on b bs n false ends part none more = rw (part, ends, more refl) refl

-- a text that begins with a byte of a field, cut where this field ends
field_cut : (s : List ℕ) → list_all inside (take 1 s) ≡ true → fields_of s ≡ (if position_or_len parts_fields s == 0 then [] else take (position_or_len parts_fields s) s ∷ fields_of (drop (position_or_len parts_fields s) s))
field_cut [] h = refl
field_cut (b ∷ bs) h = by (parts_fields b) refl (field_cut bs) (next_byte bs)
  where
    n : ℕ
    n = position_or_len parts_fields bs

    next_byte : (bs : List ℕ) → (ends_field bs ≡ true → position_or_len parts_fields bs ≡ 0) × (ends_field bs ≡ false → (list_all inside (take 1 bs) ≡ true) × (0 < position_or_len parts_fields bs))
    next_byte [] = ((λ e. refl), (λ e. absurd (cc)))
    next_byte (c ∷ cs) = ((λ e. rw e refl), (λ e. (rw e refl, rw e (omega arith))))

    by : (x : Bool) → parts_fields b ≡ x → (list_all inside (take 1 bs) ≡ true → fields_of bs ≡ (if n == 0 then [] else take n bs ∷ fields_of (drop n bs)))
        → (ends_field bs ≡ true → n ≡ 0) × (ends_field bs ≡ false → (list_all inside (take 1 bs) ≡ true) × (0 < n))
        → fields_of (b ∷ bs) ≡ (if position_or_len parts_fields (b ∷ bs) == 0 then [] else take (position_or_len parts_fields (b ∷ bs)) (b ∷ bs) ∷ fields_of (drop (position_or_len parts_fields (b ∷ bs)) (b ∷ bs)))
    by true e next byte = let z : position_or_len parts_fields (b ∷ bs) ≡ 0 = rw e refl in absurd (let g : (not (parts_fields b) && true) ≡ true = h in cc (ap not e))
    by false e next byte =
        let size : position_or_len parts_fields (b ∷ bs) ≡ suc n = rw e (omega arith) in
        let more : ends_field bs ≡ false → fields_of bs ≡ take n bs ∷ fields_of (drop n bs) =
        (λ ends. let ready = byte.1 ends in next ready.0 ∙ ap (λ (x : Bool). if x then [] else take n bs ∷ fields_of (drop n bs)) (some_zero n ready.1)) in
        subst (λ (k : ℕ). fields_of (b ∷ bs) ≡ cut_at k (b ∷ bs)) (sym size)
        (cut_on b bs n (ends_field bs) refl e byte.0 more ∙ sym (cut_suc n b bs))

pub take_rest : (k : ℕ) (xs : List ℕ) → take (length xs - k) (drop k xs) ≡ drop k xs
take_rest k xs = ap (λ (n : ℕ). take n (drop k xs)) (sym (length-drop k xs)) ∙ take_all (drop k xs)

take_length : (n : ℕ) (xs : List ℕ) → n ≤ length xs → length (take n xs) ≡ n
take_length n xs h = length-take-le n xs h

-- the first field of a line, by the places where it begins and ends
pub first_field : (line rest : List ℕ) (a b : ℕ) → a ≡ position_or_len inside line → rest ≡ drop a line → b ≡ position_or_len parts_fields rest → b ≤ length rest → IsFirstField line (take b rest) (drop b rest)
first_field line rest a b begins cut ends within =
    let behind : rest ≡ drop (position_or_len inside line) line = cut ∙ ap (λ (k : ℕ). drop k line) begins in
    let whole : fields_of line ≡ fields_of rest = sym (fields_behind line) ∙ ap fields_of (sym behind) in
    let first : list_all inside (take 1 rest) ≡ true = ap (λ (z : List ℕ). list_all inside (take 1 z)) behind ∙ begins_inside line in
    let cutting : fields_of rest ≡ cut_at b rest = field_cut rest first ∙ ap (λ (k : ℕ). cut_at k rest) (sym ends) in
    let size : length (take b rest) ≡ b = take_length b rest within in
    whole ∙ (cutting ∙ ap (λ (k : ℕ). if k == 0 then [] else take b rest ∷ fields_of (drop b rest)) (sym size))

-- the same where what stands behind is written by its length
pub first_field_cut : (line : List ℕ) (a b : ℕ) → a ≡ position_or_len inside line → a ≤ length line → b ≡ position_or_len parts_fields (take (length line - a) (drop a line)) → b ≤ length (take (length line - a) (drop a line))
    → IsFirstField line (take b (take (length line - a) (drop a line))) (take (length (take (length line - a) (drop a line)) - b) (drop b (take (length line - a) (drop a line))))
first_field_cut line a b begins inside_line ends within =
    let rest = take (length line - a) (drop a line) in
    subst (λ (z : List ℕ). IsFirstField line (take b rest) z) (sym (take_rest b rest)) (first_field line rest a b begins (take_rest a line) ends within)

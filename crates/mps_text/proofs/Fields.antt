-- The fields of a line that is written are those that were written, and the lines of a text likewise.
use Rattle.std.proofs.Common.{◌≡◌, ℕ, ◌+◌, ◌<◌, Bool, true, false, List, [], ◌∷◌, ◌++◌, length, refl, ap, ◌∙◌, append_assoc, arith, Ok}
use Rattle.std.specs.Prelude.{◌==◌, nat_le}
use Rattle.std.specs.List.{list_all, AllByRecursion}
use Rattle.std.proofs.lemmas.Bool.Decides.{nat_tests}
use Rattle.std.proofs.lemmas.List.{append-nil}
use Rattle.arc_num.specs.Words.{is_white, onto_first}
use Rattle.mps_text.specs.Written.{spaced, joined}
use Rattle.text_lines.specs.Lines.{lines_of, fields_of, ends_field, parts_fields}
use Rattle.mps_text.specs.Meaning.{is_visible, Reading, Judged, line_of, section_line, lines_read, goes_on}
use Rattle.mps_text.proofs.Texts.{joined-append}
use Rattle.mps_text.proofs.WrittenNumbers.{both, joint, IsField}

shows_parts : (b : ℕ) → is_visible b ≡ true → parts_fields b ≡ false
shows_parts b h = grind (arith, nat_tests)

shows_white : (b : ℕ) → is_visible b ≡ true → is_white b ≡ false
shows_white b h = grind (arith, nat_tests)

-- one more byte of a field
field_byte : (b : ℕ) (rest : List ℕ) (fields : List (List ℕ)) → parts_fields b ≡ false → ends_field rest ≡ false → fields_of rest ≡ fields → fields_of (b ∷ rest) ≡ onto_first b fields
field_byte b rest fields part end e = rw (part, end, e) refl

-- a field in front of a text that ends it
field_front : (f rest : List ℕ) → 0 < length f → list_all is_visible f ≡ true → ends_field rest ≡ true → fields_of (f ++ rest) ≡ f ∷ fields_of rest
field_front [] rest h v e = absurd (omega arith)
field_front (b ∷ []) rest h v e =
    let part = shows_parts b (both (is_visible b) true v).0 in
    rw (part, e) refl
field_front (b ∷ c ∷ cs) rest h v e =
    let first = both (is_visible b) (list_all is_visible (c ∷ cs)) v in
    let second = both (is_visible c) (list_all is_visible cs) first.1 in
    let behind = field_front (c ∷ cs) rest (omega arith) first.1 e in
    field_byte b (c ∷ cs ++ rest) ((c ∷ cs) ∷ fields_of rest) (shows_parts b first.0) (shows_parts c second.0) behind

spaced_ends : (fs : List (List ℕ)) → ends_field (spaced fs) ≡ true
spaced_ends [] = refl
spaced_ends (f ∷ fs) = refl

abbrev pub AreFields : List (List ℕ) → Type 0
AreFields fs = AllByRecursion IsField fs

pub spaced_fields : (fs : List (List ℕ)) → AreFields fs → fields_of (spaced fs) ≡ fs
spaced_fields [] h = refl
spaced_fields (f ∷ fs) h =
    field_front f (spaced fs) h.0.0 h.0.1 (spaced_ends fs) ∙ ap (λ (z : List (List ℕ)). f ∷ z) (spaced_fields fs h.1)

not_blank : (f rest : List ℕ) → IsField f → list_all is_white (f ++ rest) ≡ false
not_blank [] rest h = absurd (omega arith)
not_blank (b ∷ bs) rest h = rw (shows_white b (both (is_visible b) (list_all is_visible bs) h.1).0) refl

-- a line of fields is judged by the section
pub spaced_line : (r : Reading) (f : List ℕ) (fs : List (List ℕ)) → AreFields (f ∷ fs) → line_of r (spaced (f ∷ fs)) ≡ section_line r.stage r (f ∷ fs)
spaced_line r f fs h =
    let blank = not_blank f (spaced fs) h.0 in
    let fields : fields_of (f ++ spaced fs) ≡ f ∷ fs = spaced_fields (f ∷ fs) h in
    rw (blank, fields) refl

-- a line has no byte below a space
abbrev is_printed : ℕ → Bool
is_printed b = nat_le 32 b

abbrev IsLine : List ℕ → Type 0
IsLine line = list_all is_printed line ≡ true

shows_printed : (b : ℕ) → is_visible b ≡ true → is_printed b ≡ true
shows_printed b h = grind (arith, nat_tests)

printed_feed : (b : ℕ) → is_printed b ≡ true → (b == 10) ≡ false
printed_feed b h = grind (arith, nat_tests)

printed_return : (b : ℕ) → is_printed b ≡ true → (b == 13) ≡ false
printed_return b h = grind (arith, nat_tests)

field_printed : (f rest : List ℕ) → list_all is_visible f ≡ true → IsLine rest → IsLine (f ++ rest)
field_printed [] rest v h = h
field_printed (b ∷ bs) rest v h =
    let parts = both (is_visible b) (list_all is_visible bs) v in
    joint (is_printed b) (list_all is_printed (bs ++ rest)) (shows_printed b parts.0) (field_printed bs rest parts.1 h)

spaced_printed : (fs : List (List ℕ)) → AreFields fs → IsLine (spaced fs)
spaced_printed [] h = refl
spaced_printed (f ∷ fs) h = field_printed f (spaced fs) h.0.1 (spaced_printed fs h.1)

line_front : (line rest : List ℕ) → IsLine line → lines_of (line ++ (10 ∷ rest)) ≡ line ∷ lines_of rest
line_front [] rest h = refl
line_front (b ∷ bs) rest h =
    let parts = both (is_printed b) (list_all is_printed bs) h in
    rw (printed_feed b parts.0, printed_return b parts.0) (ap (onto_first b) (line_front bs rest parts.1))

-- reading these lines in front of any text leads from r to s
abbrev pub Leads : Reading → List (List ℕ) → Reading → Type 0
Leads r lines s = (n : ℕ) (rest : List ℕ) → (m : ℕ) × (lines_read n r (lines_of (joined lines ++ rest)) ≡ lines_read m s (lines_of rest))

pub leads_none : (r : Reading) → Leads r [] r
leads_none r n rest = (n, refl)

one_line : (line rest : List ℕ) → joined (line ∷ []) ++ rest ≡ line ++ (10 ∷ rest)
one_line line rest = ap (λ (z : List ℕ). z ++ rest) (append-nil (line ++ (10 ∷ []))) ∙ append_assoc line (10 ∷ []) rest

pub leads_line : (r s : Reading) (line : List ℕ) → IsLine line → line_of r line ≡ Ok s → Leads r (line ∷ []) s
leads_line r s line h judged n rest =
    let lines : lines_of (joined (line ∷ []) ++ rest) ≡ line ∷ lines_of rest = ap lines_of (one_line line rest) ∙ line_front line rest h in
    (n + 1, ap (lines_read n r) lines ∙ ap (λ (z : Judged). goes_on n z (λ next. lines_read (n + 1) next (lines_of rest))) judged)

pub leads_on : (r s t : Reading) (xs ys : List (List ℕ)) → Leads r xs s → Leads s ys t → Leads r (xs ++ ys) t
leads_on r s t xs ys first then n rest =
    let text : joined (xs ++ ys) ++ rest ≡ joined xs ++ (joined ys ++ rest) = ap (λ (z : List ℕ). z ++ rest) (joined-append xs ys) ∙ append_assoc (joined xs) (joined ys) rest in
    let one = first n (joined ys ++ rest) in
    let two = then one.0 rest in
    (two.0, ap (λ (z : List ℕ). lines_read n r (lines_of z)) text ∙ (one.1 ∙ two.1))

-- the same of a line of fields that its section takes
pub leads_spaced : (r s : Reading) (f : List ℕ) (fs : List (List ℕ)) → AreFields (f ∷ fs) → section_line r.stage r (f ∷ fs) ≡ Ok s → Leads r (spaced (f ∷ fs) ∷ []) s
leads_spaced r s f fs h judged = leads_line r s (spaced (f ∷ fs)) (spaced_printed (f ∷ fs) h) (spaced_line r f fs h ∙ judged)

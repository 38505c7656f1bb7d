-- A program that a text means keeps the rules.
use Rattle.std.proofs.Common.{◌≡◌, ◌≢◌, ℕ, ◌<◌, ◌≤◌, ◌^◌, Bool, true, false, List, [], ◌∷◌, ◌++◌, length, Option, Some, None, Result, Ok, Err, ℤ, pos, refl, sym, ap, ◌∙◌, subst, arith, cond}
use Rattle.std.specs.Prelude.{◌||◌, not, nat_le, is_none, is_some, map, filter, unwrap_or, option_to_list, AllPairs, if◌then◌else◌}
use Rattle.std.specs.List.{list_all, AllByRecursion}
use Rattle.std.proofs.lemmas.Bool.Decides.{nat_tests}
use Rattle.std.proofs.lemmas.List.{length-map}
use Rattle.std.proofs.lemmas.List.Elements.{All-from_recursion}
use Rattle.flow_model.specs.declared.programs.Entry.{Entry}
use Rattle.flow_model.specs.declared.programs.Program.{Program}
use Rattle.flow_model.specs.Programs.{IsName, IsNumber, IsRow, IsEntry, IsColumn, IsProgram, AreDistinct}
use Rattle.flow_model.specs.Programs as program
use Rattle.mps_text.specs.declared.faults.MpsFault.{MpsFault}
use Rattle.mps_text.specs.declared.stages.Stage.{Stage}
use Rattle.mps_text.specs.declared.stages.Stage.TheVariants.{Start, Named, Rows, Columns, Rights, Limits, Ended}
use Rattle.mps_text.specs.declared.parts.ReadRow.{ReadRow}
use Rattle.mps_text.specs.declared.parts.ReadColumn.{ReadColumn}
use Rattle.text_lines.specs.Lines.{lines_of}
use Rattle.mps_text.specs.Written.{is_zero}
use Rattle.mps_text.specs.Meaning.{Reading, first_reading, row_names, column_names, is_ended, is_below, is_bounded, put_entry, in_row_order, row_of, column_of, program_of, ends_with, lines_read, mps_meaning}
use Rattle.mps_text.specs.Laws.{MeaningsKeepTheRules}
use Rattle.mps_text.proofs.WrittenNumbers.{both}
use Rattle.mps_text.proofs.Rules.{rise_none, rise_cons}
use Rattle.mps_text.proofs.SoundParts.{IsSmall, IsSmallBound, IsGiven, Apart, IsSoundColumn, IsSound, names_in, is_behind_rows, all_on, all_behind}
use Rattle.mps_text.proofs.Sound.{lines_sound, first_sound}

-- what is read where a text means a program
pub record IsRead (text : List ℕ) (p : Program) : Type 0 where
  pub reading : Reading
  pub lines : lines_read 1 first_reading (lines_of text) ≡ Ok reading
  pub ended : is_ended reading.stage ≡ true
  pub sound : IsSound reading
  pub same : program_of reading ≡ p

pub text_read : (text : List ℕ) (p : Program) → mps_meaning text ≡ Ok p → IsRead text p
text_read text p h = by (lines_read 1 first_reading (lines_of text)) refl h
  where
    same : (x y : Program) → ◌≡◌ {A = Result Program MpsFault} (Ok x) (Ok y) → x ≡ y
    same x y h = cc

    by : (o : Result Reading MpsFault) → lines_read 1 first_reading (lines_of text) ≡ o → ends_with o ≡ Ok p → IsRead text p
    by (Err e) read h = absurd (cc)
    by (Ok r) read h =
        let end = lines_sound 1 first_reading (lines_of text) r first_sound read in
        record { reading = r; lines = read; ended = end.ended; sound = end.sound; same = same (program_of r) p h }

-- the objective

pub objective_is : (o : Option (List ℕ)) → is_none o ≡ false → option_to_list o ≡ unwrap_or o [] ∷ []
objective_is None h = absurd (cc)
objective_is (Some x) h = refl

pub row_names_are : (rows : List ReadRow) → map (λ row. row.name) (map row_of rows) ≡ row_names rows
row_names_are [] = refl
row_names_are (row ∷ rows) = ap (λ (z : List (List ℕ)). row.name ∷ z) (row_names_are rows)

pub column_names_are : (columns : List ReadColumn) → map (λ column. column.name) (map column_of columns) ≡ column_names columns
column_names_are [] = refl
column_names_are (c ∷ columns) = ap (λ (z : List (List ℕ)). c.name ∷ z) (column_names_are columns)

pub behind_rows : (r : Reading) → is_ended r.stage ≡ true → IsSound r → is_none r.objective ≡ false
behind_rows r e h = h.objective (by r.stage e)
  where
    by : (stage : Stage) → is_ended stage ≡ true → is_behind_rows stage ≡ true
    by Start e = absurd (cc)
    by Named e = absurd (cc)
    by Rows e = absurd (cc)
    by Columns e = refl
    by Rights e = refl
    by Limits e = refl
    by Ended e = refl

pub names_are : (r : Reading) → is_ended r.stage ≡ true → IsSound r → names_in r ≡ program.row_names (program_of r)
names_are r e h =
    ap (λ (z : List (List ℕ)). z ++ row_names r.rows) (objective_is r.objective (behind_rows r e h))
    ∙ ap (λ (z : List (List ℕ)). unwrap_or r.objective [] ∷ z) (sym (row_names_are r.rows))

-- rows

number_or_zero : (o : Option ℤ) → IsSmall o → IsNumber (unwrap_or o (pos 0))
number_or_zero None h = omega arith
number_or_zero (Some z) h = h

rows_keep : (rows : List ReadRow) → AllByRecursion IsName (row_names rows) → AllByRecursion (λ row. IsSmall row.right) rows → AllByRecursion IsRow (map row_of rows)
rows_keep [] names rights = tt
rows_keep (row ∷ rows) names rights = (record { name = names.0; right = number_or_zero row.right rights.0 }, rows_keep rows names.1 rights.1)

-- entries

abbrev pub filled : List Entry → List Entry
filled entries = filter (λ e. not (is_zero e.value)) entries

all_filtered : {A : Type 0} (P : A → Type 0) (p : A → Bool) (xs : List A) → AllByRecursion P xs → AllByRecursion P (filter p xs)
all_filtered P p [] h = tt
all_filtered {A} P p (x ∷ xs) h = by (p x) (all_filtered P p xs h.1)
  where
    by : (b : Bool) → AllByRecursion P (filter p xs) → AllByRecursion P (cond b (x ∷ filter p xs) (filter p xs))
    by true next = (h.0, next)
    by false next = next

pub all_put : (P : Entry → Type 0) (e : Entry) (xs : List Entry) → P e → AllByRecursion P xs → AllByRecursion P (put_entry e xs)
all_put P e [] one h = (one, tt)
all_put P e (x ∷ xs) one h = by (nat_le e.row x.row) (all_put P e xs one h.1)
  where
    by : (b : Bool) → AllByRecursion P (put_entry e xs) → AllByRecursion P (if b then e ∷ x ∷ xs else x ∷ put_entry e xs)
    by true next = (one, h)
    by false next = (h.0, next)

pub all_ordered : (P : Entry → Type 0) (xs : List Entry) → AllByRecursion P xs → AllByRecursion P (in_row_order xs)
all_ordered P [] h = tt
all_ordered P (x ∷ xs) h = all_put P x (in_row_order xs) h.0 (all_ordered P xs h.1)

not_zero : (z : ℤ) → not (is_zero z) ≡ true → z ≢ pos 0
not_zero z h e = let f : not (is_zero z) ≡ false = ap (λ (x : ℤ). not (is_zero x)) e in absurd (cc)

entries_keep : (n : ℕ) (entries : List Entry) → AllByRecursion (IsGiven n) entries → AllByRecursion (IsEntry n) (filled entries)
entries_keep n [] h = tt
entries_keep n (e ∷ entries) h = by (not (is_zero e.value)) refl (entries_keep n entries h.1)
  where
    by : (b : Bool) → not (is_zero e.value) ≡ b → AllByRecursion (IsEntry n) (filled entries) → AllByRecursion (IsEntry n) (cond b (e ∷ filled entries) (filled entries))
    by true s next = let g = h.0 in (record { row = (g.0, g.1); filled = not_zero e.value s; value = g.2 }, next)
    by false s next = next

pub apart_filled : (entries : List Entry) → Apart entries → Apart (filled entries)
apart_filled [] h = tt
apart_filled (e ∷ entries) h = by (not (is_zero e.value)) (apart_filled entries h.1)
  where
    by : (b : Bool) → Apart (filled entries) → Apart (cond b (e ∷ filled entries) (filled entries))
    by true next = (all_filtered (λ d. d.row ≢ e.row) (λ d. not (is_zero d.value)) entries h.0, next)
    by false next = next

-- rows rise strictly
abbrev Strict : List Entry → Type 0
Strict [] = Unit {0}
Strict (x ∷ xs) = AllByRecursion (λ y. x.row < y.row) xs × Strict xs

above : (a b : ℕ) (xs : List Entry) → a < b → AllByRecursion (λ y. b < y.row) xs → AllByRecursion (λ y. a < y.row) xs
above a b xs lt h = all_on (λ y. b < y.row) (λ y. a < y.row) xs (λ y le. omega arith) h

put_strict : (e : Entry) (xs : List Entry) → Strict xs → AllByRecursion (λ d. d.row ≢ e.row) xs → Strict (put_entry e xs)
put_strict e [] h other = (tt, tt)
put_strict e (x ∷ xs) h other = by (nat_le e.row x.row) refl (put_strict e xs h.1 other.1)
  where
    by : (b : Bool) → nat_le e.row x.row ≡ b → Strict (put_entry e xs) → Strict (if b then e ∷ x ∷ xs else x ∷ put_entry e xs)
    by true t next =
        let differ : x.row ≢ e.row = other.0 in
        let le : e.row ≤ x.row = grind (arith, nat_tests) in
        let lt : e.row < x.row = omega arith in
        ((lt, above e.row x.row xs lt h.0), h)
    by false t next =
        let lt : x.row < e.row = grind (arith, nat_tests) in
        (all_put (λ y. x.row < y.row) e xs lt h.0, next)

ordered_strict : (xs : List Entry) → Apart xs → Strict (in_row_order xs)
ordered_strict [] h = tt
ordered_strict (x ∷ xs) h = put_strict x (in_row_order xs) (ordered_strict xs h.1) (all_ordered (λ d. d.row ≢ x.row) xs h.0)

strict_pairs : (xs : List Entry) → Strict xs → AllPairs (λ d e. d.row < e.row) xs
strict_pairs [] h = rise_none
strict_pairs (x ∷ xs) h = rise_cons x xs h.0 (strict_pairs xs h.1)

-- bounds

bounds_hold : (c : ReadColumn) → is_bounded c ≡ true → unwrap_or c.fixed (unwrap_or c.lower 0) ≤ unwrap_or c.fixed (unwrap_or c.upper 0)
bounds_hold c h = by c.fixed c.upper h
  where
    by : (fixed upper : Option ℕ) → (is_some fixed || is_below upper (unwrap_or c.lower 0)) ≡ true → unwrap_or fixed (unwrap_or c.lower 0) ≤ unwrap_or fixed (unwrap_or upper 0)
    by (Some value) upper h = omega arith
    by None None h = absurd (cc)
    by None (Some upper) h = grind (arith, nat_tests)

small_or : (o : Option ℕ) (n : ℕ) → IsSmallBound o → n ≤ 2 ^ 62 → unwrap_or o n ≤ 2 ^ 62
small_or None n h small = small
small_or (Some m) n h small = h

column_keeps : (n : ℕ) (c : ReadColumn) → IsSoundColumn n c → is_bounded c ≡ true → IsColumn n (column_of c)
column_keeps n c h bounded = record {
  name = h.name;
  cost = number_or_zero c.cost h.cost;
  entries = All-from_recursion (IsEntry n) (in_row_order (filled c.entries)) (all_ordered (IsEntry n) (filled c.entries) (entries_keep n c.entries h.entries));
  order = strict_pairs (in_row_order (filled c.entries)) (ordered_strict (filled c.entries) (apart_filled c.entries h.apart));
  bounds = bounds_hold c bounded;
  upper = small_or c.fixed (unwrap_or c.upper 0) h.fixed (small_or c.upper 0 h.upper (omega arith));
}

columns_keep : (n : ℕ) (columns : List ReadColumn) → AllByRecursion (IsSoundColumn n) columns → list_all is_bounded columns ≡ true → AllByRecursion (IsColumn n) (map column_of columns)
columns_keep n [] h bounded = tt
columns_keep n (c ∷ columns) h bounded =
    let parts = both (is_bounded c) (list_all is_bounded columns) bounded in
    (column_keeps n c h.0 parts.0, columns_keep n columns h.1 parts.1)

pub lawful : (r : Reading) → is_ended r.stage ≡ true → IsSound r → IsProgram (program_of r)
lawful r e h =
    let names = subst (λ (z : List (List ℕ)). AllByRecursion IsName z) (names_are r e h) h.names in
    let size : length (map row_of r.rows) ≡ length r.rows = length-map r.rows row_of in
    let columns = subst (λ (n : ℕ). AllByRecursion (IsColumn n) (map column_of r.columns)) (sym size) (columns_keep (length r.rows) r.columns h.columns (h.ended e)) in
    record {
      objective = names.0;
      rows = All-from_recursion IsRow (map row_of r.rows) (rows_keep r.rows (all_behind IsName (option_to_list r.objective) (row_names r.rows) h.names) h.rights);
      columns = All-from_recursion (IsColumn (length (map row_of r.rows))) (map column_of r.columns) columns;
      rows_apart = subst AreDistinct (names_are r e h) h.apart;
      columns_apart = subst AreDistinct (sym (column_names_are r.columns)) h.columns_apart;
    }

pub meanings_lawful : MeaningsKeepTheRules
meanings_lawful text p h =
    let read = text_read text p h in
    subst IsProgram read.same (lawful read.reading read.ended read.sound)

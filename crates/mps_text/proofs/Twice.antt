-- Lines that give two values.
use Rattle.std.proofs.Common.{suc, zero, ◌≡◌, ℕ, ◌-◌, true, List, [], ◌∷◌, length, Option, Some, None, Result, Ok, Err, ℤ, refl, sym, ap, ◌∙◌, subst}
use Rattle.std.specs.Prelude.{set, slice_get, option_map, option_and_then}
use Rattle.std.proofs.lemmas.List.{set-set}
use Rattle.mps_text.specs.declared.faults.MpsCause.{MpsCause}
use Rattle.mps_text.specs.declared.faults.MpsCause.TheVariants as cause
use Rattle.mps_text.specs.declared.reader.LineFault.{LineFault}
use Rattle.mps_text.specs.declared.reader.LineFault.TheVariants.{Bad, Memory}
use Rattle.mps_text.specs.declared.parts.ReadRow.{ReadRow}
use Rattle.mps_text.specs.declared.parts.ReadColumn.{ReadColumn}
use Rattle.mps_text.specs.Meaning.{Reading, row_names, place_of, is_name, with_right, right_line, gives, value_in, each_in, change_at, change_each, with_value, with_values, target_in, columns_with, column_line}
use Rattle.mps_text.specs.declared.state.Reader.{Reader}
use Rattle.mps_text.specs.inner.Readers.{reading_of, KeepsAll, KeepsColumns, Judges, Finds, opened}

set_there : {A : Type 0} (xs : List A) (i : ℕ) (x y : A) → slice_get xs i ≡ Some x → slice_get (set xs i y) i ≡ Some y
set_there [] i x y h = absurd (cc)
set_there (z ∷ xs) zero x y h = refl
set_there (z ∷ xs) (suc i) x y h = set_there xs i x y h

-- one change behind another at the same place is the change of both
pub change_both : {A : Type 0} (f g : A → Option A) (i : ℕ) (xs ys : List A) → change_at i f xs ≡ Some ys → change_at i (λ x. option_and_then g (f x)) xs ≡ change_at i g ys
change_both {A} f g i xs ys h = by (slice_get xs i) refl h
  where
    two : (x : A) (o : Option A) → slice_get xs i ≡ Some x → f x ≡ o → option_map (λ (v : A). set xs i v) o ≡ Some ys → option_map (λ (v : A). set xs i v) (option_and_then g o) ≡ change_at i g ys
    two x None at e h = absurd (cc)
    two x (Some y) at e h =
        let same : set xs i y ≡ ys = cc in
        let there : slice_get ys i ≡ Some y = subst (λ (z : List A). slice_get z i ≡ Some y) same (set_there xs i x y at) in
        let twice : (v : A) → set ys i v ≡ set xs i v = (λ v. ap (λ (z : List A). set z i v) (sym same) ∙ set-set xs i y v) in
        sym (ap (λ (o : Option A). option_map (λ (v : A). set ys i v) (option_and_then g o)) there ∙ again (g y) twice)
      where
        again : (o : Option A) → ((v : A) → set ys i v ≡ set xs i v) → option_map (λ (v : A). set ys i v) o ≡ option_map (λ (v : A). set xs i v) o
        again None twice = refl
        again (Some v) twice = ap (λ (z : List A). Some z) (twice v)

    by : (o : Option A) → slice_get xs i ≡ o → option_map (λ (v : A). set xs i v) (option_and_then f o) ≡ Some ys → change_at i (λ x. option_and_then g (f x)) xs ≡ change_at i g ys
    by None at h = absurd (cc)
    by (Some x) at h = ap (λ (o : Option A). option_map (λ (v : A). set xs i v) (option_and_then (λ (x : A). option_and_then g (f x)) o)) at ∙ two x (f x) at refl h

no_more : (o : Option ReadColumn) → option_and_then (with_values [] []) o ≡ o
no_more None = refl
no_more (Some c) = refl

-- two values are one after the other
pub values_both : (i : ℕ) (columns one : List ReadColumn) (t u : ℕ) (v w : ℤ) → change_at i (with_value t v) columns ≡ Some one → change_at i (with_values (t ∷ u ∷ []) (v ∷ w ∷ [])) columns ≡ change_at i (with_value u w) one
values_both i columns one t u v w h =
    let second : with_values (u ∷ []) (w ∷ []) ≡ with_value u w = (λ j c. no_more (with_value u w c) j) in
    change_both (with_value t v) (with_values (u ∷ []) (w ∷ [])) i columns one h ∙ ap (λ (f : ReadColumn → Option ReadColumn). change_at i f one) second

column_reads : (r : Reading) (name : List ℕ) (rows values : List (List ℕ)) (columns : List ReadColumn) (targets : List ℕ) (numbers : List ℤ)
    → columns_with name r.columns ≡ Some columns → r.integers_open ≡ true → each_in (target_in r) rows ≡ Some targets → each_in value_in values ≡ Some numbers
    → column_line r name rows values ≡ gives (change_at (length columns - 1) (with_values targets numbers) columns) cause.Twice (λ changed. Ok (record r { columns = changed }))
column_reads r name rows values columns targets numbers with integers target number = rw (with, integers, target, number) refl

pub two_judged : (r after : Reading) (name : List ℕ) (rows values : List (List ℕ)) (columns one two : List ReadColumn) (t u : ℕ) (v w : ℤ) (result : Result (Unit {0}) LineFault)
    → columns_with name r.columns ≡ Some columns → r.integers_open ≡ true → each_in (target_in r) rows ≡ Some (t ∷ u ∷ []) → each_in value_in values ≡ Some (v ∷ w ∷ [])
    → change_at (length columns - 1) (with_value t v) columns ≡ Some one → length one ≡ length columns
    → Finds (opened result two) (change_at (length one - 1) (with_value u w) one) cause.Twice → after ≡ record r { columns = two } → Judges result (column_line r name rows values) after
two_judged r after name rows values columns one two t u v w result with integers target number first size second same =
    let reads = column_reads r name rows values columns (t ∷ u ∷ []) (v ∷ w ∷ []) with integers target number in
    let steps : change_at (length columns - 1) (with_values (t ∷ u ∷ []) (v ∷ w ∷ [])) columns ≡ change_at (length one - 1) (with_value u w) one =
    values_both (length columns - 1) columns one t u v w first ∙ ap (λ (n : ℕ). change_at (n - 1) (with_value u w) one) (sym size) in
    by result second (reads ∙ ap (λ (o : Option (List ReadColumn)). gives o cause.Twice (λ changed. Ok (record r { columns = changed }))) steps)
  where
    last : Option (List ReadColumn)
    last = change_at (length one - 1) (with_value u w) one

    by : (result : Result (Unit {0}) LineFault) → Finds (opened result two) last cause.Twice → column_line r name rows values ≡ gives last cause.Twice (λ changed. Ok (record r { columns = changed })) → Judges result (column_line r name rows values) after
    by (Ok x) found reads = reads ∙ (ap (λ (o : Option (List ReadColumn)). gives o cause.Twice (λ changed. Ok (record r { columns = changed }))) found ∙ ap (λ (z : Reading). Ok z) (sym same))
    by (Err (Bad e)) found reads = reads ∙ (ap (λ (o : Option (List ReadColumn)). gives o cause.Twice (λ changed. Ok (record r { columns = changed }))) found.0 ∙ ap (λ (z : MpsCause). Err z) (sym found.1))
    by (Err Memory) found reads = tt

-- what is read, where all but the columns is kept
pub keeps_reading : (old new : Reader) → KeepsAll old new → reading_of new ≡ record (reading_of old) { columns = new.columns.items }
keeps_reading old new h = (λ i. record { stage = h.stage i; integers_open = h.integers_open i; objective = h.objective i; rows = h.rows i; columns = new.columns.items })

no_more_rows : (o : Option (List ReadRow)) → option_and_then (change_each with_right [] []) o ≡ o
no_more_rows None = refl
no_more_rows (Some c) = refl

right_reads : (r : Reading) (name : List ℕ) (rows values : List (List ℕ)) (places : List ℕ) (numbers : List ℤ)
    → is_name name ≡ true → each_in (λ row. place_of row (row_names r.rows)) rows ≡ Some places → each_in value_in values ≡ Some numbers
    → right_line r name rows values ≡ gives (change_each with_right places numbers r.rows) cause.Twice (λ changed. Ok (record r { rows = changed }))
right_reads r name rows values places numbers named place number = rw (named, place, number) refl

pub two_rights_judged : (r after : Reading) (name : List ℕ) (rows values : List (List ℕ)) (one two : List ReadRow) (p q : ℕ) (v w : ℤ) (result : Result (Unit {0}) LineFault)
    → is_name name ≡ true → each_in (λ row. place_of row (row_names r.rows)) rows ≡ Some (p ∷ q ∷ []) → each_in value_in values ≡ Some (v ∷ w ∷ [])
    → change_at p (with_right v) r.rows ≡ Some one → Finds (opened result two) (change_at q (with_right w) one) cause.Twice → after ≡ record r { rows = two } → Judges result (right_line r name rows values) after
two_rights_judged r after name rows values one two p q v w result named place number first second same =
    let reads = right_reads r name rows values (p ∷ q ∷ []) (v ∷ w ∷ []) named place number in
    let steps : change_each with_right (p ∷ q ∷ []) (v ∷ w ∷ []) r.rows ≡ change_at q (with_right w) one =
    ap (λ (o : Option (List ReadRow)). option_and_then (change_each with_right (q ∷ []) (w ∷ [])) o) first ∙ no_more_rows (change_at q (with_right w) one) in
    by result second (reads ∙ ap (λ (o : Option (List ReadRow)). gives o cause.Twice (λ changed. Ok (record r { rows = changed }))) steps)
  where
    last : Option (List ReadRow)
    last = change_at q (with_right w) one

    by : (result : Result (Unit {0}) LineFault) → Finds (opened result two) last cause.Twice → right_line r name rows values ≡ gives last cause.Twice (λ changed. Ok (record r { rows = changed })) → Judges result (right_line r name rows values) after
    by (Ok x) found reads = reads ∙ (ap (λ (o : Option (List ReadRow)). gives o cause.Twice (λ changed. Ok (record r { rows = changed }))) found ∙ ap (λ (z : Reading). Ok z) (sym same))
    by (Err (Bad e)) found reads = reads ∙ (ap (λ (o : Option (List ReadRow)). gives o cause.Twice (λ changed. Ok (record r { rows = changed }))) found.0 ∙ ap (λ (z : MpsCause). Err z) (sym found.1))
    by (Err Memory) found reads = tt

-- what is read, where all but the rows is kept
pub keeps_columns_reading : (old new : Reader) → KeepsColumns old new → reading_of new ≡ record (reading_of old) { rows = new.rows.items }
keeps_columns_reading old new h = (λ i. record { stage = h.stage i; integers_open = h.integers_open i; objective = h.objective i; rows = new.rows.items; columns = h.columns i })

-- Changes of an element in the middle of a list, and lines that take what they give.
use Rattle.std.proofs.Common.{◌≡◌, ℕ, ◌-◌, true, false, List, [], ◌∷◌, ◌++◌, length, Option, Some, ℤ, refl, ap, ◌∙◌, Ok, arith, length-append}
use Rattle.std.specs.Prelude.{bytes_eq, slice_get, option_map, option_and_then, set}
use Rattle.std.proofs.Math.Seq.{set-append_seam}
use Rattle.mps_text.specs.declared.stages.BoundKind.{BoundKind}
use Rattle.flow_model.specs.Programs.{marker_word}
use Rattle.mps_text.specs.declared.parts.ReadRow.{ReadRow}
use Rattle.mps_text.specs.declared.parts.ReadColumn.{ReadColumn}
use Rattle.mps_text.specs.Meaning.{Reading, onto_some, each_in, change_at, change_each, place_of, row_names, column_names, is_name, value_in, bound_in, target_in, with_values, with_right, with_bound, bound_kind_in, columns_with, column_line, columns_line, right_line, rights_line, bounds_line}

get_seam : {A : Type 0} (xs : List A) (y : A) (ys : List A) → slice_get (xs ++ y ∷ ys) (length xs) ≡ Some y
get_seam [] y ys = refl
get_seam (x ∷ xs) y ys = get_seam xs y ys

pub change_seam : {A : Type 0} (f : A → Option A) (xs : List A) (y z : A) (ys : List A) → f y ≡ Some z → change_at (length xs) f (xs ++ y ∷ ys) ≡ Some (xs ++ z ∷ ys)
change_seam {A} f xs y z ys h =
    ap (λ (o : Option A). option_map (λ (v : A). set (xs ++ y ∷ ys) (length xs) v) (option_and_then f o)) (get_seam xs y ys)
    ∙ (ap (λ (o : Option A). option_map (λ (v : A). set (xs ++ y ∷ ys) (length xs) v) o) h ∙ ap (λ (l : List A). Some l) (set-append_seam xs y ys z))

pub change_last : {A : Type 0} (f : A → Option A) (xs : List A) (y z : A) → f y ≡ Some z → change_at (length (xs ++ y ∷ []) - 1) f (xs ++ y ∷ []) ≡ Some (xs ++ z ∷ [])
change_last {A} f xs y z h =
    let place : length (xs ++ y ∷ []) - 1 ≡ length xs = omega (arith, length-append xs (y ∷ [])) in
    ap (λ (i : ℕ). change_at i f (xs ++ y ∷ [])) place ∙ change_seam f xs y z [] h

pub each_one : {A : Type 0} (f : List ℕ → Option A) (x : List ℕ) (y : A) → f x ≡ Some y → each_in f (x ∷ []) ≡ Some (y ∷ [])
each_one {A} f x y h = ap (λ (o : Option A). onto_some o (Some [])) h

column_line_gives : (r : Reading) (name : List ℕ) (rows values : List (List ℕ)) (columns changed : List ReadColumn) (targets : List ℕ) (numbers : List ℤ)
    → columns_with name r.columns ≡ Some columns → r.integers_open ≡ true → each_in (target_in r) rows ≡ Some targets → each_in value_in values ≡ Some numbers
    → change_at (length columns - 1) (with_values targets numbers) columns ≡ Some changed → column_line r name rows values ≡ Ok (record r { columns = changed })
column_line_gives r name rows values columns changed targets numbers with integers target value change = rw (with, integers, target, value, change) refl

pub columns_line_gives : (r : Reading) (name row value : List ℕ) (columns changed : List ReadColumn) (target : ℕ) (number : ℤ)
    → bytes_eq row marker_word ≡ false → columns_with name r.columns ≡ Some columns → r.integers_open ≡ true → target_in r row ≡ Some target → value_in value ≡ Some number
    → change_at (length columns - 1) (with_values (target ∷ []) (number ∷ [])) columns ≡ Some changed → columns_line r (name ∷ row ∷ value ∷ []) ≡ Ok (record r { columns = changed })
columns_line_gives r name row value columns changed target number other with integers place number_is change =
    rw other (column_line_gives r name (row ∷ []) (value ∷ []) columns changed (target ∷ []) (number ∷ []) with integers (each_one (target_in r) row target place) (each_one value_in value number number_is) change)

right_line_gives : (r : Reading) (name : List ℕ) (rows values : List (List ℕ)) (changed : List ReadRow) (places : List ℕ) (numbers : List ℤ)
    → is_name name ≡ true → each_in (λ row. place_of row (row_names r.rows)) rows ≡ Some places → each_in value_in values ≡ Some numbers
    → change_each with_right places numbers r.rows ≡ Some changed → right_line r name rows values ≡ Ok (record r { rows = changed })
right_line_gives r name rows values changed places numbers named place value change = rw (named, place, value, change) refl

pub rights_line_gives : (r : Reading) (name row value : List ℕ) (changed : List ReadRow) (place : ℕ) (number : ℤ)
    → is_name name ≡ true → place_of row (row_names r.rows) ≡ Some place → value_in value ≡ Some number
    → change_at place (with_right number) r.rows ≡ Some changed → rights_line r (name ∷ row ∷ value ∷ []) ≡ Ok (record r { rows = changed })
rights_line_gives r name row value changed place number named place_is number_is change =
    right_line_gives r name (row ∷ []) (value ∷ []) changed (place ∷ []) (number ∷ []) named
    (each_one (λ (x : List ℕ). place_of x (row_names r.rows)) row place place_is) (each_one value_in value number number_is)
    (ap (λ (o : Option (List ReadRow)). option_and_then (change_each with_right [] []) o) change)

pub bounds_line_gives : (r : Reading) (kind name column value : List ℕ) (changed : List ReadColumn) (k : BoundKind) (place number : ℕ)
    → bound_kind_in kind ≡ Some k → is_name name ≡ true → place_of column (column_names r.columns) ≡ Some place → bound_in value ≡ Some number
    → change_at place (with_bound k number) r.columns ≡ Some changed → bounds_line r (kind ∷ name ∷ column ∷ value ∷ []) ≡ Ok (record r { columns = changed })
bounds_line_gives r kind name column value changed k place number kind_is named place_is number_is change = rw (kind_is, named, place_is, number_is, change) refl

-- What the reader keeps besides what is read.
use Rattle.std.specs.Prelude.{◌≡◌, ℕ, suc, ◌-◌, ◌<◌, ◌≤◌, Bool, true, false, ◌==◌, List, length, get_or}
use Rattle.mps_text.specs.declared.stages.Stage.{Stage}
use Rattle.mps_text.specs.declared.stages.Stage.TheVariants.{Start, Named, Rows, Rights, Limits, Ended}
use Rattle.mps_text.specs.declared.parts.ReadRow.{ReadRow}
use Rattle.mps_text.specs.declared.parts.ReadColumn.{ReadColumn}
use Rattle.mps_text.specs.Meaning.{row_names, column_names, has_entry}

-- whether columns may still come, and whether none has come
abbrev pub takes_columns : Stage → Bool
takes_columns Rights = false
takes_columns Limits = false
takes_columns Ended = false
takes_columns stage = true

abbrev pub precedes_columns : Stage → Bool
precedes_columns Start = true
precedes_columns Named = true
precedes_columns Rows = true
precedes_columns stage = false

-- each row has the number of the last column with a value in it, where this is the last column
pub record AreLastColumns (last_columns : List ℕ) (rows : List ReadRow) (columns : List ReadColumn) : Type 0 where
  pub size : length last_columns ≡ length rows
  pub bound : (k : ℕ) → k < length last_columns → get_or last_columns k 0 ≤ length columns
  pub last : (k : ℕ) (c : ReadColumn) → k < length last_columns → 0 < length columns → (get_or last_columns k 0 == length columns) ≡ has_entry (suc k) (get_or columns (length columns - 1) c)

-- the names are those of the rows and columns, and the last columns are kept while columns may come
pub record IsKept (stage : Stage) (names : List (List ℕ)) (rows : List ReadRow) (last_columns : List ℕ) (names_of_columns : List (List ℕ)) (columns : List ReadColumn) : Type 0 where
  pub row_names_are : names ≡ row_names rows
  pub column_names_are : names_of_columns ≡ column_names columns
  pub last_columns_are : takes_columns stage ≡ true → AreLastColumns last_columns rows columns
  pub none_yet : precedes_columns stage ≡ true → length columns ≡ 0

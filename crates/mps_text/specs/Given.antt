-- What the lines of a text give, section by section.
use Rattle.std.specs.Prelude.{◌≡◌, ℕ, suc, Bool, false, not, ◌&&◌, if◌then◌else◌, ℤ, pos, List, [], ◌∷◌, map, flat_map, filter, All, slice_get, Option, Some, None, unwrap_or, codes, bytes_eq}
use Rattle.std.specs.Option.{option_or}
use Rattle.flow_model.specs.declared.programs.Row.{Row}
use Rattle.flow_model.specs.declared.programs.Column.{Column}
use Rattle.flow_model.specs.declared.programs.Program.{Program}
use Rattle.flow_model.specs.Programs.{marker_word, entry_in, column_names}
use Rattle.text_lines.specs.Lines.{lines_of, fields_of, is_indented}
use Rattle.mps_text.specs.Skipped.{is_skipped}
use Rattle.mps_text.specs.Written.{kind_letter}
use Rattle.mps_text.specs.Meaning.{value_in, bound_in}

abbrev pub first_word : List (List ℕ) → List ℕ
first_word [] = []
first_word (word ∷ fields) = word

-- the fields of each line below the heading of this word, up to the next heading; the first lines stand below it, or not
abbrev pub lines_below : List ℕ → Bool → List (List ℕ) → List (List (List ℕ))
lines_below word here [] = []
lines_below word here (line ∷ lines) =
    if is_skipped line then lines_below word here lines
    else (if is_indented line then (if here then fields_of line ∷ lines_below word here lines else lines_below word here lines)
    else lines_below word (bytes_eq (first_word (fields_of line)) word) lines)

abbrev pub section : List ℕ → List ℕ → List (List (List ℕ))
section word text = lines_below word false (lines_of text)

-- what the first element that gives something gives
abbrev pub first_given : {A B : Type 0} → (A → Option B) → List A → Option B
first_given f [] = None
first_given f (x ∷ xs) = option_or (f x) (first_given f xs)

-- each name once, in the order in which they come first
abbrev pub each_once : List (List ℕ) → List (List ℕ)
each_once [] = []
each_once (name ∷ names) = name ∷ filter (λ other. not (bytes_eq other name)) (each_once names)

-- a line below ROWS that names the objective
abbrev pub names_objective : List (List ℕ) → Bool
names_objective fields = bytes_eq (first_word fields) (codes "N")

-- a line below COLUMNS that is a mark
abbrev pub is_mark : List (List ℕ) → Bool
is_mark (name ∷ word ∷ turn ∷ []) = bytes_eq word marker_word
is_mark fields = false

-- a value that a line gives: for a column, or by the name of a right side, and for a row
pub record Cell : Type 0 where
  pub column : List ℕ
  pub row : List ℕ
  pub value : List ℕ

-- a line has a name and one or two pairs of row and value
abbrev pub cells_of : List (List ℕ) → List Cell
cells_of (name ∷ row ∷ value ∷ []) = record { column = name; row = row; value = value } ∷ []
cells_of (name ∷ row ∷ value ∷ other ∷ next ∷ []) = record { column = name; row = row; value = value } ∷ record { column = name; row = other; value = next } ∷ []
cells_of fields = []

-- all that the lines below COLUMNS give, and those below RHS
abbrev pub column_cells : List ℕ → List Cell
column_cells text = flat_map cells_of (filter (λ fields. not (is_mark fields)) (section (codes "COLUMNS") text))

abbrev pub right_cells : List ℕ → List Cell
right_cells text = flat_map cells_of (section (codes "RHS") text)

-- the value of a cell, where it is of this column and row
abbrev pub cell_at : List ℕ → List ℕ → Cell → Option ℤ
cell_at column row cell = if bytes_eq cell.column column && bytes_eq cell.row row then value_in cell.value else None

-- the value of a cell, where it is of this row
abbrev pub right_at : List ℕ → Cell → Option ℤ
right_at row cell = if bytes_eq cell.row row then value_in cell.value else None

-- the bound of this kind that a line below BOUNDS gives for a column
abbrev pub bound_at : List ℕ → List ℕ → List (List ℕ) → Option ℕ
bound_at kind column (word ∷ set ∷ name ∷ value ∷ []) = if bytes_eq word kind && bytes_eq name column then bound_in value else None
bound_at kind column fields = None

-- what the lines give for a column and a row, for the right side of a row, and for a bound of a column
abbrev pub value_given : List ℕ → List ℕ → List ℕ → Option ℤ
value_given text column row = first_given (cell_at column row) (column_cells text)

abbrev pub right_given : List ℕ → List ℕ → Option ℤ
right_given text row = first_given (right_at row) (right_cells text)

abbrev pub bound_given : List ℕ → List ℕ → List ℕ → Option ℕ
bound_given text kind column = first_given (bound_at kind column) (section (codes "BOUNDS") text)

-- a column has the bounds that the lines give: a fixed value, or an upper bound, and a lower bound that is 0 where none gives it
pub record HasBoundsOf (text : List ℕ) (c : Column) : Type 0 where
  pub fixed : (value : ℕ) → bound_given text (codes "FX") c.name ≡ Some value → (c.lower ≡ value) × (c.upper ≡ value)
  pub upper : bound_given text (codes "FX") c.name ≡ None → bound_given text (codes "UP") c.name ≡ Some c.upper
  pub lower : bound_given text (codes "FX") c.name ≡ None → unwrap_or (bound_given text (codes "LO") c.name) 0 ≡ c.lower

-- a program has what the lines of a text name and give; what they do not give is 0
pub record IsProgramOf (text : List ℕ) (p : Program) : Type 0 where
  pub objective : filter names_objective (section (codes "ROWS") text) ≡ (codes "N" ∷ p.objective ∷ []) ∷ []
  pub rows : filter (λ fields. not (names_objective fields)) (section (codes "ROWS") text) ≡ map (λ row. kind_letter row.kind ∷ row.name ∷ []) p.rows
  pub columns : each_once (map (λ cell. cell.column) (column_cells text)) ≡ column_names p
  pub costs : All (λ c. c.cost ≡ unwrap_or (value_given text c.name p.objective) (pos 0)) p.columns
  pub entries : All (λ c. (k : ℕ) (row : Row) → slice_get p.rows k ≡ Some row → entry_in (suc k) c.entries ≡ unwrap_or (value_given text c.name row.name) (pos 0)) p.columns
  pub rights : All (λ row. row.right ≡ unwrap_or (right_given text row.name) (pos 0)) p.rows
  pub bounds : All (HasBoundsOf text) p.columns

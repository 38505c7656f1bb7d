-- The text that is written for a program.
use Rattle.std.specs.Prelude.{ℕ, ◌-◌, Bool, ◌&&◌, not, ◌==◌, if◌then◌else◌, ℤ, nat_abs, List, [], ◌∷◌, ◌++◌, length, map, flat_map, slice_index_or, codes, decimal}
use Rattle.arc_num.specs.Decimals.{signed_decimal}
use Rattle.flow_model.specs.declared.programs.RowKind.{RowKind}
use Rattle.flow_model.specs.declared.programs.RowKind.TheVariants.{Equal, Least, Most}
use Rattle.flow_model.specs.declared.programs.Row.{Row}
use Rattle.flow_model.specs.declared.programs.Entry.{Entry}
use Rattle.flow_model.specs.declared.programs.Column.{Column}
use Rattle.flow_model.specs.declared.programs.Program.{Program}
use Rattle.flow_model.specs.Programs.{marker_word}

-- each line and its line feed
abbrev pub joined : List (List ℕ) → List ℕ
joined lines = flat_map (λ line. line ++ (10 ∷ [])) lines

-- a line that is no heading: a space before each field
abbrev pub spaced : List (List ℕ) → List ℕ
spaced fields = flat_map (λ field. 32 ∷ field) fields

abbrev pub is_zero : ℤ → Bool
is_zero z = nat_abs z == 0

abbrev pub kind_letter : RowKind → List ℕ
kind_letter Equal = codes "E"
kind_letter Least = codes "G"
kind_letter Most = codes "L"

abbrev pub row_line : Row → List ℕ
row_line row = spaced (kind_letter row.kind ∷ row.name ∷ [])

-- the name of row r
abbrev pub row_name : List Row → ℕ → List ℕ
row_name rows r = slice_index_or (map (λ row. row.name) rows) (r - 1) []

-- the line of a column that gives its cost
abbrev pub cost_line : List ℕ → Column → List ℕ
cost_line objective column = spaced (column.name ∷ objective ∷ signed_decimal column.cost ∷ [])

-- the line of a column that gives one of its entries
abbrev pub entry_line : List Row → Column → Entry → List ℕ
entry_line rows column entry = spaced (column.name ∷ row_name rows entry.row ∷ signed_decimal entry.value ∷ [])

-- whether the cost of a column is written: it is not 0, or the column has no entry
abbrev pub writes_cost : Column → Bool
writes_cost column = not (is_zero column.cost && not (length column.entries == 0))

-- all lines of a column
abbrev pub column_lines : Program → Column → List (List ℕ)
column_lines p column = (if writes_cost column then cost_line p.objective column ∷ [] else []) ++ map (entry_line p.rows column) column.entries

-- the right side of a row, where it is not 0
abbrev pub right_lines : Row → List (List ℕ)
right_lines row = if is_zero row.right then [] else spaced (codes "RHS" ∷ row.name ∷ signed_decimal row.right ∷ []) ∷ []

-- one bound of a column
abbrev pub bound_line : List ℕ → Column → ℕ → List ℕ
bound_line kind column value = spaced (kind ∷ codes "BND" ∷ column.name ∷ decimal value ∷ [])

-- the bounds of a column
abbrev pub bound_lines : Column → List (List ℕ)
bound_lines column =
    if column.lower == column.upper then bound_line (codes "FX") column column.upper ∷ []
    else (if column.lower == 0 then [] else bound_line (codes "LO") column column.lower ∷ []) ++ bound_line (codes "UP") column column.upper ∷ []

-- the mark before the columns and that behind them
abbrev pub first_mark : List ℕ
first_mark = spaced (codes "MARK1" ∷ marker_word ∷ codes "'INTORG'" ∷ [])

abbrev pub last_mark : List ℕ
last_mark = spaced (codes "MARK2" ∷ marker_word ∷ codes "'INTEND'" ∷ [])

-- the lines of each section, with its heading
abbrev pub rows_section : Program → List (List ℕ)
rows_section p = codes "ROWS" ∷ spaced (codes "N" ∷ p.objective ∷ []) ∷ map row_line p.rows

abbrev pub columns_section : Program → List (List ℕ)
columns_section p = codes "COLUMNS" ∷ first_mark ∷ (flat_map (column_lines p) p.columns ++ last_mark ∷ [])

abbrev pub rights_section : Program → List (List ℕ)
rights_section p = codes "RHS" ∷ flat_map right_lines p.rows

abbrev pub bounds_section : Program → List (List ℕ)
bounds_section p = codes "BOUNDS" ∷ flat_map bound_lines p.columns

-- the lines of the text
abbrev pub mps_lines_of : Program → List (List ℕ)
mps_lines_of p = codes "NAME vpack" ∷ (rows_section p ++ (columns_section p ++ (rights_section p ++ (bounds_section p ++ codes "ENDATA" ∷ []))))

abbrev pub mps_text_of : Program → List ℕ
mps_text_of p = joined (mps_lines_of p)

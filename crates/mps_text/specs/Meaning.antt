-- What a text means: the program that it spells, or the first line at fault with its first cause.
use Rattle.std.specs.Prelude.{ℕ, zero, suc, ◌+◌, ◌-◌, ◌^◌, Bool, true, false, ◌&&◌, ◌||◌, not, ◌==◌, nat_le, if◌then◌else◌, ℤ, pos, negsuc, neg_ℤ, List, [], ◌∷◌, ◌++◌, length, map, filter, take, drop, set, slice_get, position, Option, Some, None, is_some, is_none, option_map, unwrap_or, option_to_list, option_and_then, Result, Ok, Err, codes, bytes_eq}
use Rattle.std.specs.List.{list_all, list_any}
use Rattle.arc_num.specs.Decimals.{are_digits, value_of}
use Rattle.flow_model.specs.declared.programs.RowKind.{RowKind}
use Rattle.flow_model.specs.declared.programs.RowKind.TheVariants.{Equal, Least, Most}
use Rattle.flow_model.specs.declared.programs.Row.{Row}
use Rattle.flow_model.specs.declared.programs.Entry.{Entry}
use Rattle.flow_model.specs.declared.programs.Column.{Column}
use Rattle.flow_model.specs.declared.programs.Program.{Program}
use Rattle.flow_model.specs.Programs.{marker_word}
use Rattle.mps_text.specs.declared.faults.MpsCause.{MpsCause}
use Rattle.mps_text.specs.declared.faults.MpsCause.TheVariants as cause
use Rattle.mps_text.specs.declared.faults.MpsFault.{MpsFault}
use Rattle.mps_text.specs.declared.faults.MpsFault.TheVariants.{Bad}
use Rattle.mps_text.specs.declared.stages.Stage.{Stage}
use Rattle.mps_text.specs.declared.stages.Stage.TheVariants.{Start, Named, Rows, Columns, Rights, Limits, Ended}
use Rattle.mps_text.specs.declared.stages.BoundKind.{BoundKind}
use Rattle.mps_text.specs.declared.stages.BoundKind.TheVariants.{Upper, Lower, Fixed}
use Rattle.mps_text.specs.declared.parts.ReadRow.{ReadRow}
use Rattle.mps_text.specs.declared.parts.ReadColumn.{ReadColumn}
use Rattle.mps_text.specs.Written.{is_zero}
use Rattle.text_lines.specs.Lines.{lines_of, fields_of, is_indented}
use Rattle.mps_text.specs.Skipped.{is_skipped}

-- what is read so far: the heading that was read last, whether columns of whole numbers may stand here, the name of the objective, the
-- rows and the columns
pub record Reading : Type 0 where
  pub stage : Stage
  pub integers_open : Bool
  pub objective : Option (List ℕ)
  pub rows : List ReadRow
  pub columns : List ReadColumn

-- before the first line
abbrev pub first_reading : Reading
first_reading = record { stage = Start; integers_open = false; objective = None; rows = []; columns = [] }

-- what a line leaves: what is read up to its end, or the cause that it is at fault with
abbrev pub Judged : Type 0
Judged = Result Reading MpsCause

-- a line for which this does not hold is at fault with this cause, if with none that stands before it
abbrev pub owes : Bool → MpsCause → Judged → Judged
owes holds e next = if holds then next else Err e

-- the same of what a line names or gives
abbrev pub gives : {A : Type 0} → Option A → MpsCause → (A → Judged) → Judged
gives None e next = Err e
gives (Some x) e next = next x

-- a byte from `!` to `~`
abbrev pub is_visible : ℕ → Bool
is_visible b = nat_le 33 b && nat_le b 126

-- a name keeps the rules: 1 to 255 bytes, each visible, and it is not the word for marks
abbrev pub is_name : List ℕ → Bool
is_name name = (nat_le 1 (length name) && nat_le (length name) 255) && (list_all is_visible name && not (bytes_eq name marker_word))

-- the place of a name in a list, from 0
abbrev pub place_of : List ℕ → List (List ℕ) → Option ℕ
place_of name names = position (bytes_eq name) names

abbrev pub row_names : List ReadRow → List (List ℕ)
row_names rows = map (λ row. row.name) rows

abbrev pub column_names : List ReadColumn → List (List ℕ)
column_names columns = map (λ column. column.name) columns

-- a size: digits, of value at most 2^62
abbrev pub size_in : List ℕ → Option ℕ
size_in field = if are_digits field && nat_le (value_of field) (2 ^ 62) then Some (value_of field) else None

-- a value: a size, or a minus sign and a size
abbrev pub value_in : List ℕ → Option ℤ
value_in field = if bytes_eq (take 1 field) (codes "-") then option_map (λ n. neg_ℤ (pos n)) (size_in (drop 1 field)) else option_map pos (size_in field)

-- the size of a value of at least 0
abbrev pub size_of : ℤ → Option ℕ
size_of (pos n) = Some n
size_of (negsuc n) = None

-- a value of at least 0
abbrev pub bound_in : List ℕ → Option ℕ
bound_in field = option_and_then size_of (value_in field)

-- what each field gives, where each gives something
abbrev pub onto_some : {A : Type 0} → Option A → Option (List A) → Option (List A)
onto_some None xs = None
onto_some (Some x) None = None
onto_some (Some x) (Some xs) = Some (x ∷ xs)

abbrev pub each_in : {A : Type 0} → (List ℕ → Option A) → List (List ℕ) → Option (List A)
each_in f [] = Some []
each_in f (field ∷ fields) = onto_some (f field) (each_in f fields)

-- the list with a change of its element at place i, from 0; none where there is none or it can't be changed so
abbrev pub change_at : {A : Type 0} → ℕ → (A → Option A) → List A → Option (List A)
change_at i f xs = option_map (λ y. set xs i y) (option_and_then f (slice_get xs i))

-- the same for changes at some places, one after the other
abbrev pub change_each : {A B : Type 0} → (B → A → Option A) → List ℕ → List B → List A → Option (List A)
change_each f [] ys xs = Some xs
change_each f (i ∷ is) [] xs = Some xs
change_each f (i ∷ is) (y ∷ ys) xs = option_and_then (change_each f is ys) (change_at i (f y) xs)

-- Headings.

-- the heading that a word alone is
abbrev pub word_alone : List ℕ → Option Stage
word_alone word =
    if bytes_eq word (codes "ROWS") then Some Rows
    else (if bytes_eq word (codes "COLUMNS") then Some Columns
    else (if bytes_eq word (codes "RHS") then Some Rights
    else (if bytes_eq word (codes "BOUNDS") then Some Limits
    else (if bytes_eq word (codes "ENDATA") then Some Ended else None))))

-- the heading that these fields are: the name may have more behind it, the others stand alone
abbrev pub stage_in : List (List ℕ) → Option Stage
stage_in [] = None
stage_in (word ∷ fields) = if bytes_eq word (codes "NAME") then Some Named else (if length fields == 0 then word_alone word else None)

-- whether a heading may follow another
abbrev pub follows : Stage → Stage → Bool
follows Start Named = true
follows Named Rows = true
follows Rows Columns = true
follows Columns Rights = true
follows Columns Limits = true
follows Columns Ended = true
follows Rights Limits = true
follows Rights Ended = true
follows Limits Ended = true
follows old new = false

abbrev pub is_columns : Stage → Bool
is_columns Columns = true
is_columns stage = false

abbrev pub is_ended : Stage → Bool
is_ended Ended = true
is_ended stage = false

-- a value is at most this upper bound, where there is one
abbrev pub is_below : Option ℕ → ℕ → Bool
is_below None value = false
is_below (Some upper) value = nat_le value upper

-- a column has bounds: it is fixed, or has an upper bound that its lower bound does not pass
abbrev pub is_bounded : ReadColumn → Bool
is_bounded column = is_some column.fixed || is_below column.upper (unwrap_or column.lower 0)

-- the heading follows the one before, the objective is there before the columns, columns of whole numbers are closed, and at the end all
-- columns have bounds
abbrev pub begins : Reading → Stage → Judged
begins r stage =
    owes (follows r.stage stage && not (is_columns stage && is_none r.objective)) cause.Section
    (owes (not r.integers_open) cause.Kind
    (owes (not (is_ended stage) || list_all is_bounded r.columns) cause.Bound
    (Ok (record r { stage = stage }))))

abbrev pub heading : Reading → List (List ℕ) → Judged
heading r fields = gives (stage_in fields) cause.Section (begins r)

-- Lines of the rows.

abbrev pub kind_in : List ℕ → Option RowKind
kind_in field =
    if bytes_eq field (codes "E") then Some Equal
    else (if bytes_eq field (codes "G") then Some Least
    else (if bytes_eq field (codes "L") then Some Most else None))

-- the name of a row or of the objective keeps the rules and is new
abbrev pub is_new_name : Reading → List ℕ → Bool
is_new_name r name = is_name name && is_none (place_of name (option_to_list r.objective ++ row_names r.rows))

abbrev pub with_objective : Reading → List ℕ → Reading
with_objective r name = record r { objective = Some name }

abbrev pub with_row : Reading → RowKind → List ℕ → Reading
with_row r kind name = record r { rows = r.rows ++ record { name = name; kind = kind; right = None } ∷ [] }

abbrev pub objective_line : Reading → List ℕ → Judged
objective_line r name = owes (is_none r.objective) cause.Kind (owes (is_new_name r name) cause.Name (Ok (with_objective r name)))

abbrev pub row_named : Reading → List ℕ → RowKind → Judged
row_named r name kind = owes (is_new_name r name) cause.Name (Ok (with_row r kind name))

abbrev pub row_line : Reading → List ℕ → List ℕ → Judged
row_line r kind name = gives (kind_in kind) cause.Kind (row_named r name)

abbrev pub rows_line : Reading → List (List ℕ) → Judged
rows_line r (kind ∷ name ∷ []) = if bytes_eq kind (codes "N") then objective_line r name else row_line r kind name
rows_line r fields = Err cause.Fields

-- Lines of the columns.

-- a mark opens columns of whole numbers or closes them, in turn
abbrev pub turn : Reading → List ℕ → Bool → Judged
turn r name opens = owes (if opens then not r.integers_open else r.integers_open) cause.Kind (owes (is_name name) cause.Name (Ok (record r { integers_open = opens })))

abbrev pub mark_line : Reading → List ℕ → List ℕ → Judged
mark_line r name word =
    if bytes_eq word (codes "'INTORG'") then turn r name true
    else (if bytes_eq word (codes "'INTEND'") then turn r name false else Err cause.Fields)

-- the place of a row that a line of a column names, from 0: first the objective, then the rows
abbrev pub target_in : Reading → List ℕ → Option ℕ
target_in r name = place_of name (option_to_list r.objective ++ row_names r.rows)

-- whether a column has a value in this row
abbrev pub has_entry : ℕ → ReadColumn → Bool
has_entry row column = list_any (λ e. e.row == row) column.entries

-- a column with one more value, in the objective or in a row; none where it has one there
abbrev pub with_cost : ℤ → ReadColumn → Option ReadColumn
with_cost value column = if is_some column.cost then None else Some (record column { cost = Some value })

abbrev pub with_entry : ℕ → ℤ → ReadColumn → Option ReadColumn
with_entry row value column = if has_entry row column then None else Some (record column { entries = column.entries ++ record { row = row; value = value } ∷ [] })

abbrev pub with_value : ℕ → ℤ → ReadColumn → Option ReadColumn
with_value zero value column = with_cost value column
with_value (suc row) value column = with_entry (suc row) value column

abbrev pub with_values : List ℕ → List ℤ → ReadColumn → Option ReadColumn
with_values [] values column = Some column
with_values (t ∷ targets) [] column = Some column
with_values (t ∷ targets) (v ∷ values) column = option_and_then (with_values targets values) (with_value t v column)

abbrev pub new_column : List ℕ → ReadColumn
new_column name = record { name = name; cost = None; entries = []; fixed = None; lower = None; upper = None }

-- the columns with the one that a line names at their end: it stands there, or it is new and its name keeps the rules
abbrev pub columns_ending : List ℕ → List ReadColumn → Option ℕ → Option (List ReadColumn)
columns_ending name columns None = if is_name name then Some (columns ++ new_column name ∷ []) else None
columns_ending name columns (Some place) = if place + 1 == length columns then Some columns else None

abbrev pub columns_with : List ℕ → List ReadColumn → Option (List ReadColumn)
columns_with name columns = columns_ending name columns (place_of name (column_names columns))

-- the last column takes what a line gives
abbrev pub column_line : Reading → List ℕ → List (List ℕ) → List (List ℕ) → Judged
column_line r name rows values =
    gives (columns_with name r.columns) cause.Name (λ columns.
    owes r.integers_open cause.Real
    (gives (each_in (target_in r) rows) cause.Row (λ targets.
    gives (each_in value_in values) cause.Value (λ numbers.
    gives (change_at (length columns - 1) (with_values targets numbers) columns) cause.Twice (λ changed.
    Ok (record r { columns = changed }))))))

abbrev pub columns_line : Reading → List (List ℕ) → Judged
columns_line r (a ∷ b ∷ c ∷ []) = if bytes_eq b marker_word then mark_line r a c else column_line r a (b ∷ []) (c ∷ [])
columns_line r (a ∷ b ∷ c ∷ d ∷ e ∷ []) = column_line r a (b ∷ d ∷ []) (c ∷ e ∷ [])
columns_line r fields = Err cause.Fields

-- Lines of the right sides.

-- a row with its right side; none where it has one
abbrev pub with_right : ℤ → ReadRow → Option ReadRow
with_right value row = if is_some row.right then None else Some (record row { right = Some value })

abbrev pub right_line : Reading → List ℕ → List (List ℕ) → List (List ℕ) → Judged
right_line r set rows values =
    owes (is_name set) cause.Name
    (gives (each_in (λ name. place_of name (row_names r.rows)) rows) cause.Row (λ places.
    gives (each_in value_in values) cause.Value (λ numbers.
    gives (change_each with_right places numbers r.rows) cause.Twice (λ changed.
    Ok (record r { rows = changed })))))

abbrev pub rights_line : Reading → List (List ℕ) → Judged
rights_line r (a ∷ b ∷ c ∷ []) = right_line r a (b ∷ []) (c ∷ [])
rights_line r (a ∷ b ∷ c ∷ d ∷ e ∷ []) = right_line r a (b ∷ d ∷ []) (c ∷ e ∷ [])
rights_line r fields = Err cause.Fields

-- Lines of the bounds.

abbrev pub bound_kind_in : List ℕ → Option BoundKind
bound_kind_in field =
    if bytes_eq field (codes "UP") then Some Upper
    else (if bytes_eq field (codes "LO") then Some Lower
    else (if bytes_eq field (codes "FX") then Some Fixed else None))

-- a column with one more bound; none where it has one of this kind, or is fixed beside another
abbrev pub with_bound : BoundKind → ℕ → ReadColumn → Option ReadColumn
with_bound Upper value column = if is_some column.upper || is_some column.fixed then None else Some (record column { upper = Some value })
with_bound Lower value column = if is_some column.lower || is_some column.fixed then None else Some (record column { lower = Some value })
with_bound Fixed value column =
    if (is_some column.lower || is_some column.upper) || is_some column.fixed then None else Some (record column { fixed = Some value })

abbrev pub bound_line : Reading → List ℕ → List ℕ → List ℕ → List ℕ → Judged
bound_line r kind set column value =
    gives (bound_kind_in kind) cause.Kind (λ k.
    owes (is_name set) cause.Name
    (gives (place_of column (column_names r.columns)) cause.Column (λ place.
    gives (bound_in value) cause.Value (λ number.
    gives (change_at place (with_bound k number) r.columns) cause.Twice (λ changed.
    Ok (record r { columns = changed }))))))

abbrev pub bounds_line : Reading → List (List ℕ) → Judged
bounds_line r (kind ∷ set ∷ column ∷ value ∷ []) = bound_line r kind set column value
bounds_line r fields = Err cause.Fields

-- Whole texts.

-- a line of the section that stands
abbrev pub section_line : Stage → Reading → List (List ℕ) → Judged
section_line Start r fields = Err cause.Section
section_line Named r fields = Err cause.Section
section_line Rows r fields = rows_line r fields
section_line Columns r fields = columns_line r fields
section_line Rights r fields = rights_line r fields
section_line Limits r fields = bounds_line r fields
section_line Ended r fields = Err cause.Section

-- any line
abbrev pub line_of : Reading → List ℕ → Judged
line_of r line =
    if is_skipped line then Ok r
    else (if is_indented line then section_line r.stage r (fields_of line) else heading r (fields_of line))

-- what follows a line with this number
abbrev pub goes_on : {A : Type 0} → ℕ → Judged → (Reading → Result A MpsFault) → Result A MpsFault
goes_on n (Ok r) next = next r
goes_on n (Err e) next = Err (Bad n e)

-- the lines, the first of which has this number; after the last one the end must have come
abbrev pub lines_read : ℕ → Reading → List (List ℕ) → Result Reading MpsFault
lines_read n r [] = if is_ended r.stage then Ok r else Err (Bad n cause.Section)
lines_read n r (line ∷ lines) = goes_on n (line_of r line) (λ next. lines_read (n + 1) next lines)

-- the entries in order of row
abbrev pub put_entry : Entry → List Entry → List Entry
put_entry e [] = e ∷ []
put_entry e (d ∷ entries) = if nat_le e.row d.row then e ∷ d ∷ entries else d ∷ put_entry e entries

abbrev pub in_row_order : List Entry → List Entry
in_row_order [] = []
in_row_order (e ∷ entries) = put_entry e (in_row_order entries)

-- a row and a column as the lines leave them: what is not given is 0, and an entry of 0 is none
abbrev pub row_of : ReadRow → Row
row_of row = record { name = row.name; kind = row.kind; right = unwrap_or row.right (pos 0) }

abbrev pub column_of : ReadColumn → Column
column_of column = record {
  name = column.name;
  cost = unwrap_or column.cost (pos 0);
  entries = in_row_order (filter (λ e. not (is_zero e.value)) column.entries);
  lower = unwrap_or column.fixed (unwrap_or column.lower 0);
  upper = unwrap_or column.fixed (unwrap_or column.upper 0);
}

abbrev pub program_of : Reading → Program
program_of r = record { objective = unwrap_or r.objective []; rows = map row_of r.rows; columns = map column_of r.columns }

abbrev pub ends_with : Result Reading MpsFault → Result Program MpsFault
ends_with (Ok r) = Ok (program_of r)
ends_with (Err fault) = Err fault

-- what a text means
abbrev pub mps_meaning : List ℕ → Result Program MpsFault
mps_meaning text = ends_with (lines_read 1 first_reading (lines_of text))

-- Linear programs in whole numbers, and what solves them. Rows and columns are numbered from 1.
use Rattle.std.specs.Prelude.{◌≡◌, ◌≢◌, ℕ, ◌^◌, ◌-◌, ◌<◌, ◌≤◌, ◌==◌, if◌then◌else◌, ℤ, pos, ◌+ℤ◌, ◌*ℤ◌, ◌≤ℤ◌, nat_abs, List, [], ◌∷◌, length, map, All, AllPairs, slice_get, Some, codes}
use Rattle.packing_laws.specs.Instances.{IsAmong}
use Rattle.flow_model.specs.declared.programs.RowKind.{RowKind}
use Rattle.flow_model.specs.declared.programs.RowKind.TheVariants.{Equal, Least, Most}
use Rattle.flow_model.specs.declared.programs.Row.{Row}
use Rattle.flow_model.specs.declared.programs.Entry.{Entry}
use Rattle.flow_model.specs.declared.programs.Column.{Column}
use Rattle.flow_model.specs.declared.programs.Program.{Program}

-- the word that stands for marks between columns, and so names nothing
abbrev pub marker_word : List ℕ
marker_word = codes "'MARKER'"

-- a name: 1 to 255 bytes from `!` to `~`, and not the word for marks
pub record IsName (name : List ℕ) : Type 0 where
  pub size : IsAmong (length name) 255
  pub bytes : All (λ b. (33 ≤ b) × (b ≤ 126)) name
  pub other : name ≢ marker_word

-- a signed number within the limit, without its sign
abbrev pub IsNumber : ℤ → Type 0
IsNumber z = nat_abs z ≤ 2 ^ 62

-- no two names are the same
abbrev pub AreDistinct : List (List ℕ) → Type 0
AreDistinct names = AllPairs (λ x y. x ≢ y) names

-- a row of a program
pub record IsRow (row : Row) : Type 0 where
  pub name : IsName row.name
  pub right : IsNumber row.right

-- an entry in one of n rows
pub record IsEntry (n : ℕ) (entry : Entry) : Type 0 where
  pub row : IsAmong entry.row n
  pub filled : entry.value ≢ pos 0
  pub value : IsNumber entry.value

-- a column of a program of n rows: its entries stand by row, each row at most once
pub record IsColumn (n : ℕ) (column : Column) : Type 0 where
  pub name : IsName column.name
  pub cost : IsNumber column.cost
  pub entries : All (IsEntry n) column.entries
  pub order : AllPairs (λ d e. d.row < e.row) column.entries
  pub bounds : column.lower ≤ column.upper
  pub upper : column.upper ≤ 2 ^ 62

-- the names of the objective and of the rows
abbrev pub row_names : Program → List (List ℕ)
row_names p = p.objective ∷ map (λ row. row.name) p.rows

-- the names of the columns
abbrev pub column_names : Program → List (List ℕ)
column_names p = map (λ column. column.name) p.columns

-- the rules that a program keeps
pub record IsProgram (p : Program) : Type 0 where
  pub objective : IsName p.objective
  pub rows : All IsRow p.rows
  pub columns : All (IsColumn (length p.rows)) p.columns
  pub rows_apart : AreDistinct (row_names p)
  pub columns_apart : AreDistinct (column_names p)

-- what one unit of a column adds in row r
abbrev pub entry_in : ℕ → List Entry → ℤ
entry_in r [] = pos 0
entry_in r (e ∷ entries) = (if e.row == r then e.value else pos 0) +ℤ entry_in r entries

-- a number of each column, times the value of the column, added up; a column without a value counts nothing
abbrev pub weigh : (Column → ℤ) → List Column → List ℕ → ℤ
weigh f [] values = pos 0
weigh f (c ∷ columns) [] = pos 0
weigh f (c ∷ columns) (x ∷ values) = (f c *ℤ pos x) +ℤ weigh f columns values

-- what the columns at these values add up to in row r
abbrev pub row_sum : Program → List ℕ → ℕ → ℤ
row_sum p values r = weigh (λ c. entry_in r c.entries) p.columns values

-- what the columns at these values cost
abbrev pub objective_of : Program → List ℕ → ℤ
objective_of p values = weigh (λ c. c.cost) p.columns values

-- the sum stands to the right side as the row wants it
abbrev pub Meets : RowKind → ℤ → ℤ → Type 0
Meets Equal sum right = sum ≡ right
Meets Least sum right = right ≤ℤ sum
Meets Most sum right = sum ≤ℤ right

-- each value is a whole number within the bounds of its column
abbrev pub AreWithin : List Column → List ℕ → Type 0
AreWithin [] [] = Unit {0}
AreWithin [] (x ∷ values) = ⊥
AreWithin (c ∷ columns) [] = ⊥
AreWithin (c ∷ columns) (x ∷ values) = (c.lower ≤ x) × (x ≤ c.upper) × AreWithin columns values

-- a whole number for each column, within its bounds, such that each row is met
pub record IsSolution (p : Program) (values : List ℕ) : Type 0 where
  pub bounds : AreWithin p.columns values
  pub rows : (r : ℕ) (row : Row) → IsAmong r (length p.rows) → slice_get p.rows (r - 1) ≡ Some row → Meets row.kind (row_sum p values r) row.right

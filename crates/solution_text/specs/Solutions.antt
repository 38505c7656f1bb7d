-- What the text of an outside solver means: a value for each arc of a graph, or the first line at fault with its first cause.
use Rattle.std.specs.Prelude.{ℕ, Bool, false, ◌&&◌, ◌||◌, not, ◌==◌, nat_lt, if◌then◌else◌, List, [], ◌∷◌, length, map, find, position, slice_get, slice_index_or, Option, Some, None, is_none, unwrap_or, option_and_then, Result, Ok, Err, bytes_eq}
use Rattle.std.specs.List.{list_any, enumerate_from, filter_map}
use Rattle.flow_graph.specs.Arcs.{TypeValue}
use Rattle.text_lines.specs.Lines.{lines_of, fields_of}
use Rattle.solution_text.specs.declared.faults.SolutionFault.{SolutionFault}
use Rattle.solution_text.specs.declared.faults.SolutionFault.TheVariants.{Fields, NoColumn, Value, Twice}
use Rattle.solution_text.specs.Fields.{column_names, value_in}

-- whether the first byte of a line is `#`
abbrev pub is_comment : List ℕ → Bool
is_comment [] = false
is_comment (b ∷ bs) = b == 35

-- whether a line counts for nothing: it has no fields, or is a comment
abbrev pub is_skipped : List ℕ → Bool
is_skipped line = (length (fields_of line) == 0) || is_comment line

-- a line that counts: its number in the text, from 1, and its fields
pub record KeptLine : Type 0 where
  pub number : ℕ
  pub fields : List (List ℕ)

abbrev pub kept_line : ℕ × List ℕ → Option KeptLine
kept_line line = if is_skipped line.1 then None else Some (record { number = line.0; fields = fields_of line.1 })

-- the lines of a text that count
abbrev pub kept_lines : List ℕ → List KeptLine
kept_lines text = filter_map kept_line (enumerate_from 1 (lines_of text))

-- the column that a line names, and the value that it gives: its first field and its second one
abbrev pub column_of : KeptLine → List ℕ
column_of line = slice_index_or line.fields 0 []

abbrev pub value_given : KeptLine → Option ℕ
value_given line = value_in (slice_index_or line.fields 1 [])

-- whether a line names a column that a line before it names
abbrev pub repeats : List KeptLine → KeptLine → Bool
repeats lines line = list_any (λ other. nat_lt other.number line.number && bytes_eq (column_of other) (column_of line)) lines

-- the first cause that a line among these lines is at fault with, if there is one
abbrev pub fault_in : List TypeValue → List KeptLine → KeptLine → Option SolutionFault
fault_in g lines line =
    if not (length line.fields == 2) then Some (Fields line.number)
    else (if is_none (position (bytes_eq (column_of line)) (column_names g)) then Some (NoColumn line.number)
    else (if is_none (value_given line) then Some (Value line.number)
    else (if repeats lines line then Some (Twice line.number) else None)))

-- the value of a column: that of the line that names it, and 0 where none does
abbrev pub value_at : List KeptLine → List ℕ → ℕ
value_at lines name = unwrap_or (option_and_then value_given (find (λ line. bytes_eq (column_of line) name) lines)) 0

-- the fault where there is one, and else the values
abbrev pub unless_fault : Option SolutionFault → List ℕ → Result (List ℕ) SolutionFault
unless_fault None values = Ok values
unless_fault (Some fault) values = Err fault

-- what a text means: the first fault of its lines, and else the values of the columns, by number of their arcs
abbrev pub solution_meaning : List TypeValue → List ℕ → Result (List ℕ) SolutionFault
solution_meaning g text =
    let lines = kept_lines text in
    unless_fault (slice_get (filter_map (fault_in g lines) lines) 0) (map (value_at lines) (column_names g))

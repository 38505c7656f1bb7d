-- What lines leave, one after the other: for each column the value that a line gave it, if one did.
use Rattle.std.specs.Prelude.{◌≡◌, ℕ, ◌+◌, if◌then◌else◌, List, [], ◌∷◌, set, position, slice_index_or, Option, Some, None, is_some, Result, Ok, Err, bytes_eq}
use Rattle.flow_graph.specs.Arcs.{TypeValue}
use Rattle.text_lines.specs.Lines.{fields_of}
use Rattle.solution_text.specs.declared.faults.SolutionFault.{SolutionFault}
use Rattle.solution_text.specs.declared.faults.SolutionFault.TheVariants.{Fields, NoColumn, Value, Twice}
use Rattle.solution_text.specs.Fields.{column_names, value_in}
use Rattle.solution_text.specs.Solutions.{is_skipped}

abbrev pub Found : Type 0
Found = List (Option ℕ)

-- a column without a value gets this one
abbrev pub put : ℕ → Found → ℕ → ℕ → Result Found SolutionFault
put number found place value = if is_some (slice_index_or found place None) then Err (Twice number) else Ok (set found place (Some value))

abbrev pub put_value : ℕ → Found → ℕ → Option ℕ → Result Found SolutionFault
put_value number found place None = Err (Value number)
put_value number found place (Some value) = put number found place value

abbrev pub put_at : ℕ → Found → Option ℕ → Option ℕ → Result Found SolutionFault
put_at number found None value = Err (NoColumn number)
put_at number found (Some place) value = put_value number found place value

-- what a line with these fields leaves
abbrev pub fields_taken : List TypeValue → ℕ → Found → List (List ℕ) → Result Found SolutionFault
fields_taken g number found (column ∷ value ∷ []) = put_at number found (position (bytes_eq column) (column_names g)) (value_in value)
fields_taken g number found fields = Err (Fields number)

abbrev pub line_taken : List TypeValue → ℕ → Found → List ℕ → Result Found SolutionFault
line_taken g number found line = if is_skipped line then Ok found else fields_taken g number found (fields_of line)

abbrev pub and_on : Result Found SolutionFault → (Found → Result Found SolutionFault) → Result Found SolutionFault
and_on (Ok found) next = next found
and_on (Err fault) next = Err fault

-- what these lines leave, the first of which has this number
abbrev pub lines_taken : List TypeValue → ℕ → Found → List (List ℕ) → Result Found SolutionFault
lines_taken g number found [] = Ok found
lines_taken g number found (line ∷ lines) = and_on (line_taken g number found line) (λ next. lines_taken g (number + 1) next lines)

-- the answer is what was to be left, or the fault
abbrev pub Leaves : {A : Type 0} → Result A SolutionFault → Result Found SolutionFault → Found → Type 0
Leaves (Ok x) taken after = taken ≡ Ok after
Leaves (Err fault) taken after = taken ≡ Err fault

-- A text that is worked by hand, and texts with one fault.
use Rattle.std.specs.Prelude.{◌≡◌, ℕ, List, [], ◌∷◌, ◌++◌, ℤ, pos, negsuc, Result, Ok, Err, codes}
use Rattle.flow_model.specs.declared.programs.RowKind.TheVariants.{Equal, Least}
use Rattle.flow_model.specs.declared.programs.Row.{Row}
use Rattle.flow_model.specs.declared.programs.Column.{Column}
use Rattle.flow_model.specs.declared.programs.Entry.{Entry}
use Rattle.flow_model.specs.declared.programs.Program.{Program}
use Rattle.mps_text.specs.declared.faults.MpsCause.TheVariants as cause
use Rattle.mps_text.specs.declared.faults.MpsFault.{MpsFault}
use Rattle.mps_text.specs.declared.faults.MpsFault.TheVariants.{Bad}
use Rattle.mps_text.specs.Written.{mps_text_of}
use Rattle.mps_text.specs.Meaning.{mps_meaning}

abbrev pub node_row : List ℕ → Row
node_row name = record { name = name; kind = Equal; right = pos 0 }

abbrev pub entry : ℕ → ℤ → Entry
entry row value = record { row = row; value = value }

abbrev pub arc_column : List ℕ → ℤ → List Entry → Column
arc_column name cost entries = record { name = name; cost = cost; entries = entries; lower = 0; upper = 3 }

-- bins of cost 3 that take one or two of three units
abbrev pub three_units : Program
three_units = record {
  objective = codes "COST";
  rows = node_row (codes "N1_1") ∷ node_row (codes "N1_2") ∷ node_row (codes "N1_3") ∷ record { name = codes "D1"; kind = Least; right = pos 3 } ∷ [];
  columns =
      arc_column (codes "Z1") (pos 3) (entry 1 (pos 1) ∷ entry 3 (negsuc 0) ∷ [])
      ∷ arc_column (codes "F2") (pos 0) (entry 1 (negsuc 0) ∷ entry 2 (pos 1) ∷ entry 4 (pos 1) ∷ [])
      ∷ arc_column (codes "F3") (pos 0) (entry 1 (negsuc 0) ∷ entry 3 (pos 1) ∷ [])
      ∷ arc_column (codes "F4") (pos 0) (entry 2 (negsuc 0) ∷ entry 3 (pos 1) ∷ [])
      ∷ arc_column (codes "F5") (pos 0) (entry 2 (negsuc 0) ∷ entry 3 (pos 1) ∷ entry 4 (pos 1) ∷ [])
      ∷ [];
}

-- its text
abbrev pub three_units_text : List ℕ
three_units_text =
    codes "NAME vpack\nROWS\n N COST\n E N1_1\n E N1_2\n E N1_3\n G D1\n" ++
    (codes "COLUMNS\n MARK1 'MARKER' 'INTORG'\n Z1 COST 3\n Z1 N1_1 1\n Z1 N1_3 -1\n F2 N1_1 -1\n F2 N1_2 1\n F2 D1 1\n" ++
    (codes " F3 N1_1 -1\n F3 N1_3 1\n F4 N1_2 -1\n F4 N1_3 1\n F5 N1_2 -1\n F5 N1_3 1\n F5 D1 1\n MARK2 'MARKER' 'INTEND'\n" ++
    (codes "RHS\n RHS D1 3\nBOUNDS\n UP BND Z1 3\n UP BND F2 3\n UP BND F3 3\n UP BND F4 3\n UP BND F5 3\nENDATA\n")))

-- a text with one row and one column, up to its columns, and the mark that ends these
abbrev pub rows_text : List ℕ
rows_text = codes "NAME\nROWS\n N C\n E R\nCOLUMNS\n M 'MARKER' 'INTORG'\n"

abbrev pub mark_text : List ℕ
mark_text = codes " M 'MARKER' 'INTEND'\n"

-- the meaning of what follows the first mark, and of what follows the columns
abbrev pub columns_mean : List ℕ → Result Program MpsFault
columns_mean text = mps_meaning (rows_text ++ text)

abbrev pub rights_mean : List ℕ → Result Program MpsFault
rights_mean text = columns_mean (codes " X R 1\n" ++ (mark_text ++ text))

-- one row and one column
abbrev pub one_of_each : ℤ → ℕ → Program
one_of_each value lower = record {
  objective = codes "C";
  rows = record { name = codes "R"; kind = Equal; right = pos 0 } ∷ [];
  columns = record { name = codes "X"; cost = pos 0; entries = entry 1 value ∷ []; lower = lower; upper = 7 } ∷ [];
}

pub record Examples : Type 0 where
  -- the worked text, both ways
  pub written : mps_text_of three_units ≡ three_units_text
  pub read : mps_meaning three_units_text ≡ Ok three_units
  -- lawful texts
  pub fixed : rights_mean (codes "BOUNDS\n FX B X 007\nENDATA\n\r\n*") ≡ Ok (one_of_each (pos 1) 7)
  pub bounded : columns_mean (codes " X\tR -1 C 0\n*\n" ++ (mark_text ++ codes "RHS\r\nBOUNDS\r\n\tLO B X 2\r\n UP b X 7\r\nENDATA")) ≡ Ok (one_of_each (negsuc 0) 2)
  pub no_column : mps_meaning (codes "NAME a b\r\n\n* note\nROWS\n \t\r\n\tG\tD1\n N COST\nCOLUMNS\nENDATA") ≡ Ok (record { objective = codes "COST"; rows = record { name = codes "D1"; kind = Least; right = pos 0 } ∷ []; columns = [] })
  -- texts with a fault
  pub empty : mps_meaning [] ≡ Err (Bad 1 cause.Section)
  pub end_missing : mps_meaning (codes "NAME\n\n") ≡ Err (Bad 3 cause.Section)
  pub name_missing : mps_meaning (codes "ROWS\n") ≡ Err (Bad 1 cause.Section)
  pub name_twice : mps_meaning (codes "NAME\nNAME\n") ≡ Err (Bad 2 cause.Section)
  pub unknown_heading : mps_meaning (codes "NAME\nRANGES\n") ≡ Err (Bad 2 cause.Section)
  pub heading_not_alone : mps_meaning (codes "NAME\nROWS x\n") ≡ Err (Bad 2 cause.Section)
  pub before_rows : mps_meaning (codes "NAME\n N C\n") ≡ Err (Bad 2 cause.Section)
  pub no_objective : mps_meaning (codes "NAME\nROWS\n E R\nCOLUMNS\n") ≡ Err (Bad 4 cause.Section)
  pub behind_the_end : rights_mean (codes "BOUNDS\n FX B X 7\nENDATA\n\n x\n") ≡ Err (Bad 13 cause.Section)
  pub row_fields : mps_meaning (codes "NAME\nROWS\n N C 1\n") ≡ Err (Bad 3 cause.Fields)
  pub column_fields : columns_mean (codes " X R\n") ≡ Err (Bad 7 cause.Fields)
  pub mark_word : columns_mean (codes " M 'MARKER' 'INT'\n") ≡ Err (Bad 7 cause.Fields)
  pub right_fields : rights_mean (codes "RHS\n S R 1 R\n") ≡ Err (Bad 10 cause.Fields)
  pub bound_fields : rights_mean (codes "BOUNDS\n UP B X\n") ≡ Err (Bad 10 cause.Fields)
  pub row_kind : mps_meaning (codes "NAME\nROWS\n X R\n") ≡ Err (Bad 3 cause.Kind)
  pub second_objective : mps_meaning (codes "NAME\nROWS\n N C\n N D\n") ≡ Err (Bad 4 cause.Kind)
  pub opened_twice : columns_mean (codes " M 'MARKER' 'INTORG'\n") ≡ Err (Bad 7 cause.Kind)
  pub still_open : columns_mean (codes " X R 1\nRHS\n") ≡ Err (Bad 8 cause.Kind)
  pub bound_kind : rights_mean (codes "BOUNDS\n MI B X 1\n") ≡ Err (Bad 10 cause.Kind)
  pub row_twice : mps_meaning (codes "NAME\nROWS\n E R\n N R\n") ≡ Err (Bad 4 cause.Name)
  pub name_of_mark : mps_meaning (codes "NAME\nROWS\n E 'MARKER'\n") ≡ Err (Bad 3 cause.Name)
  pub byte_above_tilde : mps_meaning (codes "NAME\nROWS\n E R" ++ (127 ∷ [])) ≡ Err (Bad 3 cause.Name)
  pub column_parted : columns_mean (codes " X R 1\n Y R 1\n X C 1\n") ≡ Err (Bad 9 cause.Name)
  pub outside_the_marks : columns_mean (codes " X R 1\n M 'MARKER' 'INTEND'\n X C x\n") ≡ Err (Bad 9 cause.Real)
  pub no_such_row : columns_mean (codes " X R x S 1\n") ≡ Err (Bad 7 cause.Row)
  pub objective_right : rights_mean (codes "RHS\n S C 1\n") ≡ Err (Bad 10 cause.Row)
  pub no_such_column : rights_mean (codes "BOUNDS\n UP B Y 1\n") ≡ Err (Bad 10 cause.Column)
  pub no_value : columns_mean (codes " X R 1 R -\n") ≡ Err (Bad 7 cause.Value)
  pub plus_sign : columns_mean (codes " X R +1\n") ≡ Err (Bad 7 cause.Value)
  pub value_too_great : columns_mean (codes " X R -4611686018427387905\n") ≡ Err (Bad 7 cause.Value)
  pub negative_bound : rights_mean (codes "BOUNDS\n UP B X -1\n") ≡ Err (Bad 10 cause.Value)
  pub entry_twice : columns_mean (codes " X R 0\n X C 1 R 1\n") ≡ Err (Bad 8 cause.Twice)
  pub entry_twice_in_line : columns_mean (codes " X R 1 R 1\n") ≡ Err (Bad 7 cause.Twice)
  pub right_twice : rights_mean (codes "RHS\n S R 0\n T R 1\n") ≡ Err (Bad 11 cause.Twice)
  pub bound_twice : rights_mean (codes "BOUNDS\n UP B X 1\n UP B X 1\n") ≡ Err (Bad 11 cause.Twice)
  pub fixed_beside_upper : rights_mean (codes "BOUNDS\n UP B X 1\n FX B X 1\n") ≡ Err (Bad 11 cause.Twice)
  pub lower_beside_fixed : rights_mean (codes "BOUNDS\n FX B X 1\n LO B X 1\n") ≡ Err (Bad 11 cause.Twice)
  pub no_upper_bound : rights_mean (codes "BOUNDS\n LO B X 1\nENDATA") ≡ Err (Bad 11 cause.Bound)
  pub lower_above_upper : rights_mean (codes "BOUNDS\n UP B X 1\n LO B X 2\nENDATA") ≡ Err (Bad 12 cause.Bound)
  pub no_bounds : rights_mean (codes "ENDATA") ≡ Err (Bad 9 cause.Bound)

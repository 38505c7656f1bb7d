-- How the reader stands to what is read.
use Rattle.std.specs.Prelude.{◌≡◌, ℕ, List, [], ◌∷◌, Option, Some, None, Result, Ok, Err}
use Rattle.mps_text.specs.declared.faults.MpsCause.{MpsCause}
use Rattle.mps_text.specs.declared.faults.MpsFault.{MpsFault}
use Rattle.mps_text.specs.declared.faults.MpsFault.TheVariants as fault
use Rattle.mps_text.specs.declared.reader.LineFault.{LineFault}
use Rattle.mps_text.specs.declared.reader.LineFault.TheVariants.{Bad, Memory}
use Rattle.mps_text.specs.declared.state.Reader.{Reader}
use Rattle.mps_text.specs.Meaning.{Reading, Judged}

-- what a reader has read
abbrev pub reading_of : Reader → Reading
reading_of r = record { stage = r.stage; integers_open = r.integers_open; objective = r.objective; rows = r.rows.items; columns = r.columns.items }

-- the answer to a line is what it leaves, or its cause, or want of memory
abbrev pub Judges : {A : Type 0} → Result A LineFault → Judged → Reading → Type 0
Judges (Ok x) judged after = judged ≡ Ok after
Judges (Err (Bad e)) judged after = judged ≡ Err e
Judges (Err Memory) judged after = Unit {0}

-- the same of what a line names or gives
abbrev pub Finds : {A : Type 0} → Result A LineFault → Option A → MpsCause → Type 0
Finds (Ok x) found e = found ≡ Some x
Finds (Err (Bad d)) found e = (found ≡ None) × (d ≡ e)
Finds (Err Memory) found e = Unit {0}

-- the answer with what is left in the place of nothing
abbrev pub opened : {A : Type 0} → Result (Unit {0}) LineFault → A → Result A LineFault
opened (Ok x) after = Ok after
opened (Err fault) after = Err fault

-- the answer with a list in the place of a pair
abbrev pub both_of : {A : Type 0} → Result (A × A) LineFault → Result (List A) LineFault
both_of (Ok pair) = Ok (pair.0 ∷ pair.1 ∷ [])
both_of (Err fault) = Err fault

-- all but the columns and the last columns of rows is as before
pub record KeepsAll (old new : Reader) : Type 0 where
  pub stage : new.stage ≡ old.stage
  pub integers_open : new.integers_open ≡ old.integers_open
  pub objective : new.objective ≡ old.objective
  pub rows : new.rows.items ≡ old.rows.items

-- all but the rows is as before
pub record KeepsColumns (old new : Reader) : Type 0 where
  pub stage : new.stage ≡ old.stage
  pub integers_open : new.integers_open ≡ old.integers_open
  pub objective : new.objective ≡ old.objective
  pub columns : new.columns.items ≡ old.columns.items

-- the answer to a text is what its lines leave, or the fault, or want of memory
abbrev pub Reads : {A : Type 0} → Result A MpsFault → Result Reading MpsFault → Reading → Type 0
Reads (Ok x) read after = read ≡ Ok after
Reads (Err (fault.Bad n e)) read after = read ≡ Err (fault.Bad n e)
Reads (Err fault.Memory) read after = Unit {0}

-- the fault of a text whose line with this number is at fault so
abbrev pub at_line : LineFault → ℕ → MpsFault
at_line (Bad e) line = fault.Bad line e
at_line Memory line = fault.Memory

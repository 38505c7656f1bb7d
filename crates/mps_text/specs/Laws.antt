-- What holds of the texts of programs.
use Rattle.std.specs.Prelude.{◌≡◌, ℕ, List, Ok}
use Rattle.flow_model.specs.declared.programs.Program.{Program}
use Rattle.flow_model.specs.Programs.{IsProgram}
use Rattle.mps_text.specs.Written.{mps_text_of}
use Rattle.mps_text.specs.Meaning.{mps_meaning}
use Rattle.mps_text.specs.Given.{IsProgramOf}

-- the text of a program that keeps the rules means this program
abbrev pub WrittenIsRead : Type 0
WrittenIsRead = (p : Program) → IsProgram p → mps_meaning (mps_text_of p) ≡ Ok p

-- each program that a text means keeps the rules
abbrev pub MeaningsKeepTheRules : Type 0
MeaningsKeepTheRules = (text : List ℕ) (p : Program) → mps_meaning text ≡ Ok p → IsProgram p

-- each program that a text means has what the lines of the text name and give
abbrev pub MeaningsAreGiven : Type 0
MeaningsAreGiven = (text : List ℕ) (p : Program) → mps_meaning text ≡ Ok p → IsProgramOf text p

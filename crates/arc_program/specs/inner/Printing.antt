-- Putting a text on a sink, a line at a time.
use Rattle.std.specs.Prelude.{◌≡◌, ℕ, Bool, ◌==◌, List, ◌++◌, take, drop, Result, Ok, Err}
use Rattle.arc_io.specs.declared.IoFault.{IoFault}
use Rattle.arc_program.specs.World.{SinkSeen}
use Rattle.arc_program.specs.Printing.{Line, lines_of, TakesAll, PutsLines, PutsText, CutsOff}

abbrev pub is_line_feed : ℕ → Bool
is_line_feed byte = byte == 10

-- the whole text was taken, or where a put was refused, some lines of it
abbrev pub Prints : {T : Type 0} → Result T IoFault → List ℕ → SinkSeen → SinkSeen → Type 0
Prints (Ok x) text before after = PutsText text before after
Prints (Err fault) text before after = CutsOff fault text before after

-- the lines up to this place were put and taken
pub record HasPut (text : List ℕ) (at : ℕ) (before between : SinkSeen) : Type 0 where
  pub whole : List Line
  pub lines : lines_of text ≡ whole ++ lines_of (drop at text)
  pub taken : TakesAll (take at text) before.taken between.taken
  pub put : PutsLines whole before between

-- What a sink has taken: a line at a time, each in one put.
use Rattle.std.specs.Prelude.{◌≡◌, ℕ, ◌==◌, if◌then◌else◌, List, [], ◌∷◌, ◌++◌, take, Some, IfSome, Result, Err}
use Rattle.arc_io.specs.Bytes.{Told, Appends}
use Rattle.arc_io.specs.Faults.{CountsFault, CountsCall, CountsMemory, raised}
use Rattle.arc_io.specs.declared.IoFault.{IoFault}
use Rattle.arc_program.specs.World.{SinkSeen}

abbrev pub Line : Type 0
Line = List ℕ

-- a byte in front of some lines: in front of the first of them, or a line by itself
abbrev pub begun : ℕ → List Line → List Line
begun byte [] = (byte ∷ []) ∷ []
begun byte (line ∷ lines) = (byte ∷ line) ∷ lines

-- the lines of a text: each ends behind its line feed, the last one with the text
abbrev pub lines_of : List ℕ → List Line
lines_of [] = []
lines_of (byte ∷ text) = if byte == 10 then (byte ∷ []) ∷ lines_of text else begun byte (lines_of text)

-- lines, one behind the other
abbrev pub bytes_of : List Line → List ℕ
bytes_of [] = []
bytes_of (line ∷ lines) = line ++ bytes_of lines

-- a count after one call for each of these lines
abbrev pub raised_for : List Line → ℕ → ℕ
raised_for [] count = count
raised_for (line ∷ lines) count = raised_for lines (raised count)

-- one put with these bytes, which was answered so
pub record Puts (answer : Result (Unit {0}) IoFault) (bytes : List ℕ) (before after : SinkSeen) : Type 0 where
  pub taken : Appends answer bytes before.taken after.taken
  pub puts : CountsCall before.puts after.puts
  pub faults : CountsFault answer before.faults after.faults
  pub starved : CountsMemory answer before.starved after.starved

-- one put with this line, whatever it answered
abbrev pub PutsOnce : Line → SinkSeen → SinkSeen → Type 0
PutsOnce line before after = (answer : Result (Unit {0}) IoFault) × Puts answer line before after

-- what is taken has this text at its end
abbrev pub TakesAll : List ℕ → Told → Told → Type 0
TakesAll text before after = IfSome before (λ old. after ≡ Some (old ++ text))

-- what is taken has some first bytes of this text at its end, maybe none
abbrev pub TakesPrefix : List ℕ → Told → Told → Type 0
TakesPrefix text before after = IfSome before (λ old. (k : ℕ) × (after ≡ Some (old ++ take k text)))

-- one put for each of these lines, and each was taken
pub record PutsLines (lines : List Line) (before after : SinkSeen) : Type 0 where
  pub taken : TakesAll (bytes_of lines) before.taken after.taken
  pub puts : after.puts ≡ raised_for lines before.puts
  pub faults : after.faults ≡ before.faults
  pub starved : after.starved ≡ before.starved

-- the text was taken whole, in one put for each of its lines
pub record PutsText (text : List ℕ) (before after : SinkSeen) : Type 0 where
  pub taken : TakesAll text before.taken after.taken
  pub lines : PutsLines (lines_of text) before after

-- some lines of the text were taken, maybe none, in one put for each; the put of the next one was refused, and it was the last
pub record CutsOff (fault : IoFault) (text : List ℕ) (before after : SinkSeen) : Type 0 where
  pub whole : List Line
  pub cut : Line
  pub others : List Line
  pub lines : lines_of text ≡ whole ++ cut ∷ others
  pub between : SinkSeen
  pub taken : PutsLines whole before between
  pub refused : Puts (Err fault) cut between after
  pub prefix : TakesPrefix text before.taken after.taken

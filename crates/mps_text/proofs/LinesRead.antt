-- Reading lines up to a place of the text.
use Rattle.std.proofs.Common.{◌≡◌, ℕ, ◌+◌, ◌≤◌, List, length}
use Rattle.mps_text.specs.declared.state.Reader.{Reader}
use Rattle.text_lines.specs.Lines.{lines_of}
use Rattle.mps_text.specs.Meaning.{first_reading, lines_read}
use Rattle.mps_text.specs.inner.Readers.{reading_of}

-- the reader stands before the line with this number, with this rest of the text before it
pub record IsReadUpTo (text : List ℕ) (r : Reader) (number : ℕ) (rest : List ℕ) : Type 0 where
  pub read : lines_read 1 first_reading (lines_of text) ≡ lines_read number (reading_of r) (lines_of rest)
  pub count : number + length rest ≤ length text + 1
  pub rows : length r.rows.items + 1 ≤ number

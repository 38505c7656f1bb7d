-- How far a text is read.
use Rattle.std.specs.Prelude.{ℕ, Bool, false, List, []}

-- how many lines were read, the version that they tell (1 before the head is read), whether the end line was read, whether the text
-- was found bad, and the bytes that are not read yet
pub record ReaderValue : Type 0 where
  pub read : ℕ
  pub version : ℕ
  pub ended : Bool
  pub bad : Bool
  pub unread : List ℕ

-- nothing is read and nothing has come
abbrev pub beginning : ReaderValue
beginning = record { read = 0; version = 1; ended = false; bad = false; unread = [] }

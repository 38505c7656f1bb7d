-- Names and the bytes under them.
use Rattle.std.specs.Prelude.{ℕ, List, [], ◌∷◌, ◌++◌, Option, Some, None, unwrap_or, if◌then◌else◌}
use Rattle.std.specs.Str.{bytes_eq}

-- a name and the bytes under it
pub record Entry : Type 0 where
  pub name : List ℕ
  pub bytes : List ℕ

-- the bytes of the first entry of a name; none where no entry has the name
abbrev pub entry_of : List Entry → List ℕ → Option (List ℕ)
entry_of [] name = None
entry_of (e ∷ es) name = if bytes_eq e.name name then Some e.bytes else entry_of es name

-- the bytes of the first entry of a name; no bytes where no entry has the name
abbrev pub bytes_of : List Entry → List ℕ → List ℕ
bytes_of es name = unwrap_or (entry_of es name) []

-- the name of the first entry
abbrev pub first_name : List Entry → List ℕ
first_name [] = []
first_name (e ∷ es) = e.name

-- the first entry has more bytes at its end
abbrev pub appended : List ℕ → List Entry → List Entry
appended more [] = []
appended more (e ∷ es) = record e { bytes = e.bytes ++ more } ∷ es

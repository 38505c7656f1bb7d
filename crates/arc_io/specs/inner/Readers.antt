-- Readers of entries, which stand at a place.
use Rattle.std.specs.Prelude.{zero, suc, ℕ, ◌<◌, ◌≤◌, length, drop, List, [], ◌∷◌, Option, Some, None}
use Rattle.arc_io.specs.Entries.{Entry}

-- the bytes of the entry at a place; no bytes past the last
abbrev pub bytes_at : List Entry → ℕ → List ℕ
bytes_at [] i = []
bytes_at (e ∷ es) zero = e.bytes
bytes_at (e ∷ es) (suc i) = bytes_at es i

-- what a reader at a place has still to give, after so many bytes of it; no reader gives nothing
abbrev pub left_at : List Entry → Option ℕ → ℕ → List ℕ
left_at es None given = []
left_at es (Some i) given = drop given (bytes_at es i)

-- the reader stands at an entry, and not past its end
abbrev pub IsReader : List Entry → Option ℕ → ℕ → Type 0
IsReader es None given = Unit {0}
IsReader es (Some i) given = (i < length es) × (given ≤ length (bytes_at es i))

-- The lines of a text, and the fields of a line.
use Rattle.std.specs.Prelude.{◌≡◌, ℕ, Bool, true, false, ◌&&◌, ◌||◌, ◌==◌, if◌then◌else◌, List, [], ◌∷◌, length}
use Rattle.arc_num.specs.Words.{onto_first}

-- whether the text begins with a line feed
abbrev pub is_at_feed : List ℕ → Bool
is_at_feed [] = false
is_at_feed (b ∷ bs) = b == 10

-- the lines of a text, each without its line feed and without a carriage return directly before it; the last may lack its
-- line feed
abbrev pub lines_of : List ℕ → List (List ℕ)
lines_of [] = []
lines_of (b ∷ bs) =
    if b == 10 then [] ∷ lines_of bs
    else (if (b == 13) && is_at_feed bs then lines_of bs else onto_first b (lines_of bs))

-- a line without a carriage return at its end
abbrev pub without_return : List ℕ → List ℕ
without_return [] = []
without_return (b ∷ []) = if b == 13 then [] else b ∷ []
without_return (b ∷ c ∷ bs) = b ∷ without_return (c ∷ bs)

-- the bytes between fields: space and tab
abbrev pub parts_fields : ℕ → Bool
parts_fields b = (b == 32) || (b == 9)

-- whether a field that stands in front of this text ends there
abbrev pub ends_field : List ℕ → Bool
ends_field [] = true
ends_field (b ∷ bs) = parts_fields b

-- the fields of a line: its longest runs of bytes that are neither space nor tab
abbrev pub fields_of : List ℕ → List (List ℕ)
fields_of [] = []
fields_of (b ∷ bs) = if parts_fields b then fields_of bs else (if ends_field bs then (b ∷ []) ∷ fields_of bs else onto_first b (fields_of bs))

-- whether a line begins with a space or a tab
abbrev pub is_indented : List ℕ → Bool
is_indented [] = false
is_indented (b ∷ bs) = parts_fields b

-- the first field of a line and what stands behind it; the field is empty where the line has none
abbrev pub IsFirstField : List ℕ → List ℕ → List ℕ → Type 0
IsFirstField line field rest = fields_of line ≡ (if length field == 0 then [] else field ∷ fields_of rest)

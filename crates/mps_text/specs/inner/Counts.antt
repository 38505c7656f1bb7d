-- The fields of lines with a known number of them.
use Rattle.std.specs.Prelude.{◌≡◌, ℕ, ◌==◌, if◌then◌else◌, List, [], ◌∷◌, length, Option, Some, None}
use Rattle.mps_text.specs.declared.counts.Pair.{Pair}
use Rattle.mps_text.specs.declared.counts.Pairs.{Pairs}
use Rattle.text_lines.specs.Lines.{fields_of}

-- the fields of a second pair
abbrev pub second_fields : Option Pair → List (List ℕ)
second_fields None = []
second_fields (Some pair) = pair.row.now ∷ pair.value.now ∷ []

-- the fields of a name and one or two pairs
abbrev pub fields_in : Pairs → List (List ℕ)
fields_in pairs = pairs.name.now ∷ pairs.first.row.now ∷ pairs.first.value.now ∷ second_fields pairs.second

-- the first two fields of a line and what stands behind them; they are empty where they are missing
abbrev pub IsFirstPair : List ℕ → List ℕ → List ℕ → List ℕ → Type 0
IsFirstPair line row value rest =
    fields_of line ≡ (if length row == 0 then [] else row ∷ (if length value == 0 then [] else value ∷ fields_of rest))

-- Lines that count for nothing.
use Rattle.std.specs.Prelude.{ℕ, Bool, false, ◌||◌, ◌==◌, List, [], ◌∷◌}
use Rattle.std.specs.List.{list_all}
use Rattle.arc_num.specs.Words.{is_white}

-- whether a line is a comment: it begins with an asterisk
abbrev pub is_comment : List ℕ → Bool
is_comment [] = false
is_comment (b ∷ bs) = b == 42

-- whether a line counts for nothing: it is empty or white space, or a comment
abbrev pub is_skipped : List ℕ → Bool
is_skipped line = list_all is_white line || is_comment line

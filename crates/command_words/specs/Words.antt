-- The words of the command line, by their bytes alone.
use Rattle.std.specs.Prelude.{ℕ, Bool, ◌&&◌, ◌==◌, nat_lt, nat_eq, List, length, codes}
use Rattle.std.specs.List.{list_any, starts_with, before_first, after_first}
use Rattle.std.specs.Str.{bytes_eq}

abbrev pub Word : Type 0
Word = List ℕ

-- the word that ends the options
abbrev pub is_end : Word → Bool
is_end w = bytes_eq w (codes "--")

-- a word that is an option, as long as options are read
abbrev pub is_option : Word → Bool
is_option w = starts_with nat_eq w (codes "--") && nat_lt 2 (length w)

-- whether an equals sign stands in the word
abbrev pub has_value : Word → Bool
has_value w = list_any (λ b. b == 61) w

-- the name of an option: what stands before its first equals sign, or the whole word
abbrev pub option_name : Word → Word
option_name w = before_first (λ b. b == 61) w

-- what stands behind the first equals sign
abbrev pub value_in : Word → Word
value_in w = after_first (λ b. b == 61) w

-- the name of the standard streams
abbrev pub is_dash : Word → Bool
is_dash w = bytes_eq w (codes "-")

-- The parts of a command line: what its words are, behind the command.
use Rattle.std.specs.Prelude.{ℕ, ◌+◌, Bool, true, false, if◌then◌else◌, List, [], ◌∷◌, Option, Some, None, string_bytes}
use Rattle.command_words.specs.declared.table.Setting.{Setting}
use Rattle.command_words.specs.declared.parts.Part.{Part}
use Rattle.command_words.specs.declared.parts.Part.TheVariants as code
use Rattle.command_words.specs.Words.{Word, is_end, is_option, has_value, option_name, value_in}
use Rattle.command_words.specs.Table.{setting_named, taken_by, takes_value}

-- one or two words that stand together; each part has the number of its first word
pub data PartValue : Type 0 where
  -- a plain word
  Plain : (text : Word) (word : ℕ) → PartValue
  -- an option of a name that no option has
  Unknown : (word : ℕ) → PartValue
  -- an option with no value
  Bare : (setting : Setting) (word : ℕ) → PartValue
  -- an option with the value behind its equals sign
  Joined : (setting : Setting) (value : Word) (word : ℕ) → PartValue
  -- an option with the next word as its value, and the number of that word
  Next : (setting : Setting) (value : Word) (word holder : ℕ) → PartValue

abbrev pub part_value : Part → PartValue
part_value (code.Plain text word) = Plain (string_bytes text) word
part_value (code.Unknown word) = Unknown word
part_value (code.Bare setting word) = Bare setting word
part_value (code.Joined setting value word) = Joined setting (string_bytes value) word
part_value (code.Next setting value word holder) = Next setting (string_bytes value) word holder

-- an option of word k without an equals sign, before these words; b says that it takes a value
abbrev pub lone_part : Bool → Setting → List Word → ℕ → PartValue
lone_part false s ws k = Bare s k
lone_part true s [] k = Bare s k
lone_part true s (w ∷ ws) k = Next s w k (k + 1)

-- an option at word k, before these words; b says that it has an equals sign
abbrev pub option_part : Option Setting → Bool → Word → List Word → ℕ → PartValue
option_part None b w ws k = Unknown k
option_part (Some s) true w ws k = Joined s (value_in w) k
option_part (Some s) false w ws k = lone_part (takes_value (taken_by s)) s ws k

-- the part that begins with word k, before these words
abbrev pub part_at : ℕ → Word → List Word → PartValue
part_at k w ws = if is_option w then option_part (setting_named (option_name w)) (has_value w) w ws k else Plain w k

-- whether the next word belongs to the part
abbrev pub takes_next : PartValue → Bool
takes_next (Plain text word) = false
takes_next (Unknown word) = false
takes_next (Bare setting word) = false
takes_next (Joined setting value word) = false
takes_next (Next setting value word holder) = true

-- plain words from word k on
abbrev pub plain_parts : ℕ → List Word → List PartValue
plain_parts k [] = []
plain_parts k (w ∷ ws) = Plain w k ∷ plain_parts (k + 1) ws

-- the parts of the words from word k on, where the first belongs to the part before or does not: the first `--` that is
-- no option's value ends the options, and is no part
abbrev pub parts_from : Bool → ℕ → List Word → List PartValue
parts_from belongs k [] = []
parts_from true k (w ∷ ws) = parts_from false (k + 1) ws
parts_from false k (w ∷ ws) =
    if is_end w then plain_parts (k + 1) ws
    else part_at k w ws ∷ parts_from (takes_next (part_at k w ws)) (k + 1) ws

-- the parts of the words behind the command, which is word 1
abbrev pub parts_of : List Word → List PartValue
parts_of ws = parts_from false 2 ws

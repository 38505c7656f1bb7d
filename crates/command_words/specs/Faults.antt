-- The first faulty word of a command line, and what its words say where there is none.
use Rattle.std.specs.Prelude.{◌≡◌, ℕ, ◌≤◌, Bool, true, false, not, ◌&&◌, ◌||◌, ◌==◌, nat_lt, nat_le, if◌then◌else◌, List, [], ◌∷◌, ◌++◌, length, Option, Some, None, Result, Ok, Err, slice_get, option_and_then}
use Rattle.std.specs.List.{list_any, filter_map}
use Rattle.std.specs.Option.{option_or, option_map_or}
use Rattle.arc_num.specs.Decimals.{number_of}
use Rattle.command_words.specs.declared.table.PlainWord.{PlainWord}
use Rattle.command_words.specs.declared.table.PlainWord.TheVariants.{Instance, Certificate, Solution, Number}
use Rattle.command_words.specs.declared.table.Setting.{Setting}
use Rattle.command_words.specs.declared.table.Setting.TheVariants.{Mvp, Joint, Nodes, Cert, Workers}
use Rattle.command_words.specs.declared.table.Takes.{Takes}
use Rattle.command_words.specs.declared.table.Takes.TheVariants as takes
use Rattle.command_words.specs.declared.table.Shape.{Shape}
use Rattle.command_words.specs.declared.faults.WordFault.{WordFault}
use Rattle.command_words.specs.declared.faults.WordFault.TheVariants.{NoSuchOption, Repeated, NoValue, TooManyWords, BadValue, BadName, TooFewWords, Memory}
use Rattle.command_words.specs.Words.{Word, is_dash}
use Rattle.command_words.specs.Table.{taken_by, takes_value, allows, plain_at, plain_count}
use Rattle.command_words.specs.Parts.{PartValue, Plain, Unknown, Bare, Joined, Next, parts_of}

-- whether two options are the same
abbrev pub same : Setting → Setting → Bool
same Mvp Mvp = true
same Joint Joint = true
same Nodes Nodes = true
same Cert Cert = true
same Workers Workers = true
same _ _ = false

-- whether a part gives this option
abbrev pub gives : Setting → PartValue → Bool
gives s (Plain text k) = false
gives s (Unknown k) = false
gives s (Bare t k) = same s t
gives s (Joined t value k) = same s t
gives s (Next t value k holder) = same s t

-- whether the option is given
abbrev pub is_given : Setting → List PartValue → Bool
is_given s parts = list_any (gives s) parts

-- the plain word that a part is
abbrev pub plain_text : PartValue → Option Word
plain_text (Plain text k) = Some text
plain_text (Unknown k) = None
plain_text (Bare s k) = None
plain_text (Joined s value k) = None
plain_text (Next s value k holder) = None

-- the plain words, in order
abbrev pub plains_in : List PartValue → List Word
plains_in parts = filter_map plain_text parts

-- 1 to 20 digits whose value is in the range
abbrev pub is_number : ℕ → ℕ → Word → Bool
is_number least most w = nat_le (length w) 20 && option_map_or (λ n. nat_le least n && nat_le n most) (number_of w) false

-- whether the value may stand with an option
abbrev pub is_value : Takes → Word → Bool
is_value takes.Nothing w = false
is_value (takes.Number least most) w = is_number least most w
is_value takes.Name w = not (length w == 0) && not (is_dash w)

-- the fault of a name at word k, behind these plain words
abbrev pub name_fault : List Word → Word → ℕ → Option WordFault
name_fault before w k = if (length w == 0) || (is_dash w && list_any is_dash before) then Some (BadName k) else None

-- the fault of a plain word at word k that stands for this, behind these plain words
abbrev pub plain_fault : Option PlainWord → List Word → Word → ℕ → Option WordFault
plain_fault None before w k = Some (TooManyWords k)
plain_fault (Some (Number least most)) before w k = if is_number least most w then None else Some (BadValue k)
plain_fault (Some Instance) before w k = name_fault before w k
plain_fault (Some Certificate) before w k = name_fault before w k
plain_fault (Some Solution) before w k = name_fault before w k

-- the fault of an option at word k, whatever its value, behind these parts
abbrev pub option_fault : Shape → List PartValue → Setting → ℕ → Option WordFault
option_fault shape before s k =
    if not (allows shape s) then Some (NoSuchOption k)
    else (if is_given s before then Some (Repeated k) else None)

-- the fault of a value, which stands in word k
abbrev pub value_fault : Setting → Word → ℕ → Option WordFault
value_fault s value k = if is_value (taken_by s) value then None else Some (BadValue k)

-- the fault of no value
abbrev pub lack_fault : Setting → ℕ → Option WordFault
lack_fault s k = if takes_value (taken_by s) then Some (NoValue k) else None

-- the fault of a part, behind these parts
abbrev pub part_fault : Shape → List PartValue → PartValue → Option WordFault
part_fault shape before (Plain text k) = plain_fault (plain_at shape (length (plains_in before))) (plains_in before) text k
part_fault shape before (Unknown k) = Some (NoSuchOption k)
part_fault shape before (Bare s k) = option_or (option_fault shape before s k) (lack_fault s k)
part_fault shape before (Joined s value k) = option_or (option_fault shape before s k) (value_fault s value k)
part_fault shape before (Next s value k holder) = option_or (option_fault shape before s k) (value_fault s value holder)

-- the fault of the first of these parts that has one, behind these parts
abbrev pub first_fault : Shape → List PartValue → List PartValue → Option WordFault
first_fault shape before [] = None
first_fault shape before (p ∷ ps) = option_or (part_fault shape before p) (first_fault shape (before ++ p ∷ []) ps)

-- the fault of too few plain words
abbrev pub few_fault : Shape → List PartValue → Option WordFault
few_fault shape parts = if nat_lt (length (plains_in parts)) (plain_count shape) then Some TooFewWords else None

-- the fault of the whole: that of the first faulty word, or else one without a word
abbrev pub fault_in : Shape → List PartValue → Option WordFault
fault_in shape parts = option_or (first_fault shape [] parts) (few_fault shape parts)

abbrev pub unless : {A : Type 0} → Option WordFault → A → Result A WordFault
unless (Some fault) said = Err fault
unless None said = Ok said

-- what the words behind a command of this shape say, or their first fault
abbrev pub said_by : Shape → List Word → Result (List PartValue) WordFault
said_by shape ws = unless (fault_in shape (parts_of ws)) (parts_of ws)

-- the fault is what is meant, unless it is want of memory
abbrev pub FaultIs : {T : Type 0} → Result T WordFault → WordFault → Type 0
FaultIs meant Memory = Unit {0}
FaultIs meant fault = meant ≡ Err fault

-- the value that a part gives to this option
abbrev pub value_for : Setting → PartValue → Option Word
value_for s (Plain text k) = None
value_for s (Unknown k) = None
value_for s (Bare t k) = None
value_for s (Joined t value k) = if same s t then Some value else None
value_for s (Next t value k holder) = if same s t then Some value else None

-- the value of an option, where it is given
abbrev pub value_of_setting : Setting → List PartValue → Option Word
value_of_setting s parts = slice_get (filter_map (value_for s) parts) 0

-- the number that an option gives
abbrev pub number_of_setting : Setting → List PartValue → Option ℕ
number_of_setting s parts = option_and_then number_of (value_of_setting s parts)

-- the plain word at place n, from 0
abbrev pub plain_of : ℕ → List PartValue → Option Word
plain_of n parts = slice_get (plains_in parts) n

-- each value that stands with an option may stand there
abbrev pub HasValues : List PartValue → Type 0
HasValues parts = (s : Setting) (value : Word) → value_of_setting s parts ≡ Some value → is_value (taken_by s) value ≡ true

-- as many plain words stand there as the command has, and each that stands for a number is one in its range
pub record HasPlains (shape : Shape) (parts : List PartValue) : Type 0 where
  pub count : plain_count shape ≤ length (plains_in parts)
  pub numbers : (n least most : ℕ) (w : Word) → plain_at shape n ≡ Some (Number least most) → plain_of n parts ≡ Some w → is_number least most w ≡ true

-- The lines that are said of faulty words.
use Rattle.std.specs.Prelude.{ℕ, List, ◌++◌, codes, decimal}
use Rattle.command_words.specs.declared.faults.WordFault.{WordFault}
use Rattle.command_words.specs.declared.faults.WordFault.TheVariants.{NoCommand, NoSuchCommand, NoSuchOption, Repeated, NoValue, TooManyWords, BadValue, BadName, TooFewWords, Memory}

-- what a line about a word begins with
abbrev pub word_head : ℕ → List ℕ
word_head k = codes "vpack: word " ++ decimal k ++ codes ": "

-- a line about a word, by its number
abbrev pub word_line : ℕ → List ℕ → List ℕ
word_line k said = word_head k ++ said ++ codes "\n"

-- the line on a fault of the command line
abbrev pub word_fault_line : WordFault → List ℕ
word_fault_line NoCommand = codes "vpack: no command\n"
word_fault_line (NoSuchCommand k) = word_line k (codes "no such command")
word_fault_line (NoSuchOption k) = word_line k (codes "no such option")
word_fault_line (Repeated k) = word_line k (codes "option repeated")
word_fault_line (NoValue k) = word_line k (codes "value missing")
word_fault_line (TooManyWords k) = word_line k (codes "one word too many")
word_fault_line (BadValue k) = word_line k (codes "bad value")
word_fault_line (BadName k) = word_line k (codes "bad name")
word_fault_line TooFewWords = codes "vpack: too few words\n"
word_fault_line Memory = codes "vpack: out of memory\n"

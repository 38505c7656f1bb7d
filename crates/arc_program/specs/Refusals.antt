-- What the program refuses, and the line that it says of it.
use Rattle.std.specs.Prelude.{ℕ, List, ◌++◌, codes, decimal, string_bytes}
use Rattle.packing_laws.specs.declared.fault.ReadFault.{ReadFault}
use Rattle.packing_laws.specs.declared.fault.ReadFault.TheVariants as read
use Rattle.command_words.specs.Lines.{word_fault_line}
use Rattle.arc_program.specs.declared.refusals.Refusal.{Refusal}
use Rattle.arc_program.specs.declared.refusals.Refusal.TheVariants.{Words, Unread, Long, BadPlace, Large, LargeJoint, Rejected, Unstored, Unwritten, Memory}
use Rattle.arc_program.specs.declared.status.Status.{Status}
use Rattle.arc_program.specs.declared.status.Status.TheVariants.{Usage, BadInstance, ReadFault as ReadFaults, WriteFault, NoMemory, TooLarge}

-- a line about something that has a name
abbrev pub named_line : List ℕ → List ℕ → List ℕ
named_line name said = codes "vpack: " ++ name ++ codes ": " ++ said ++ codes "\n"

-- a line about a token of an instance, by its number
abbrev pub token_line : List ℕ → ℕ → List ℕ → List ℕ
token_line name k said = codes "vpack: " ++ name ++ codes ": token " ++ decimal k ++ codes ": " ++ said ++ codes "\n"

abbrev pub no_weight : ℕ → ℕ → List ℕ
no_weight i f = codes "item " ++ decimal i ++ codes " form " ++ decimal f ++ codes " has no weight"

-- the line on the first bad place of an instance
abbrev pub place_line : List ℕ → ReadFault → List ℕ
place_line name (read.Short k) = token_line name k (codes "missing")
place_line name (read.NotNumber k) = token_line name k (codes "not a number")
place_line name (read.Range k) = token_line name k (codes "out of range")
place_line name (read.Total k) = token_line name k (codes "too many forms")
place_line name (read.ZeroWeight k i f) = token_line name k (no_weight i f)
place_line name (read.Extra k) = token_line name k (codes "one token too many")
place_line name read.Memory = codes "vpack: out of memory\n"

-- the lines on want of memory, and on a report that could not be written
abbrev pub memory_line : List ℕ
memory_line = codes "vpack: out of memory\n"

abbrev pub output_line : List ℕ
output_line = codes "vpack: cannot write output\n"

-- the line on a text that could not be read
abbrev pub unread_line : List ℕ → List ℕ
unread_line name = codes "vpack: cannot read " ++ name ++ codes "\n"

-- the line on a certificate that could not be written
abbrev pub unstored_line : List ℕ → List ℕ
unstored_line name = codes "vpack: cannot write " ++ name ++ codes "\n"

-- the line on an instance that is too long
abbrev pub long_line : List ℕ → List ℕ
long_line name = named_line name (codes "too long")

-- the line on graphs that have too many arcs from type t on
abbrev pub large_line : List ℕ → ℕ → List ℕ
large_line name t = codes "vpack: " ++ name ++ codes ": type " ++ decimal t ++ codes ": too many arcs\n"

-- the line on a graph for all types that has too many arcs
abbrev pub large_joint_line : List ℕ → List ℕ
large_joint_line name = named_line name (codes "joint graph: too many arcs")

-- the line on a refusal
abbrev pub refusal_line : Refusal → List ℕ
refusal_line (Words fault) = word_fault_line fault
refusal_line (Unread name) = unread_line (string_bytes name)
refusal_line (Long name) = long_line (string_bytes name)
refusal_line (BadPlace name fault) = place_line (string_bytes name) fault
refusal_line (Large name t) = large_line (string_bytes name) t
refusal_line (LargeJoint name) = large_joint_line (string_bytes name)
refusal_line (Rejected line status) = line
refusal_line (Unstored name) = unstored_line (string_bytes name)
refusal_line Unwritten = output_line
refusal_line Memory = memory_line

-- the status on a refusal
abbrev pub refusal_status : Refusal → Status
refusal_status (Words fault) = Usage
refusal_status (Unread name) = ReadFaults
refusal_status (Long name) = BadInstance
refusal_status (BadPlace name fault) = BadInstance
refusal_status (Large name t) = TooLarge
refusal_status (LargeJoint name) = TooLarge
refusal_status (Rejected line status) = status
refusal_status (Unstored name) = WriteFault
refusal_status Unwritten = WriteFault
refusal_status Memory = NoMemory

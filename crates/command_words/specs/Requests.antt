-- What the words of a command line ask for.
use Rattle.std.specs.Prelude.{◌≡◌, ℕ, ◌<◌, ◌≤◌, ◌^◌, Bool, false, not, ◌&&◌, ◌||◌, nat_eq, List, [], ◌∷◌, Option, Some, None, option_map, Result, Ok, Err, IsTrue, codes, string_bytes, unwrap_or, option_and_then}
use Rattle.std.specs.List.{ends_with}
use Rattle.arc_num.specs.Decimals.{number_of}
use Rattle.arc_num.specs.declared.TheConstants.{MAX_ITEMS, MAX_SPLITS, MAX_WORKERS}
use Rattle.command_words.specs.declared.table.Verb.{Verb}
use Rattle.command_words.specs.declared.table.Verb.TheVariants as verb
use Rattle.command_words.specs.declared.table.Setting.TheVariants.{Mvp, Joint, Nodes, Cert, Workers}
use Rattle.command_words.specs.declared.commands.Command.{Command}
use Rattle.command_words.specs.declared.commands.Command.TheVariants.{Compile, Solve, Check, Export, Extract, Bound, Make}
use Rattle.command_words.specs.declared.commands.Source.{Source}
use Rattle.command_words.specs.declared.commands.Source.TheVariants as code
use Rattle.command_words.specs.declared.commands.TheConstants.{DEFAULT_SPLITS}
use Rattle.command_words.specs.declared.faults.WordFault.{WordFault}
use Rattle.command_words.specs.declared.faults.WordFault.TheVariants.{NoCommand, NoSuchCommand}
use Rattle.command_words.specs.Words.{Word}
use Rattle.command_words.specs.Table.{verb_named, row_of}
use Rattle.command_words.specs.Parts.{PartValue}
use Rattle.command_words.specs.Faults.{is_given, plain_of, value_of_setting, number_of_setting, said_by, FaultIs}

-- what is asked for: a command, with the name of an instance and whether it is read as `.mvp`, or with the seed and the size
-- of one that is generated; and for some how many threads may work at once, how many splits are granted, the name of a second
-- text that is read, the name under which a certificate is written, or whether one graph is made for all types
pub data Request : Type 0 where
  Compiles : (name : List ℕ) (mvp : Bool) (workers : ℕ) → Request
  Solves : (name : List ℕ) (mvp : Bool) (nodes : ℕ) (certificate : Option (List ℕ)) (workers : ℕ) → Request
  Checks : (name certificate : List ℕ) (mvp : Bool) (workers : ℕ) → Request
  Exports : (name : List ℕ) (mvp joint : Bool) → Request
  Extracts : (name solution : List ℕ) (mvp : Bool) → Request
  Bounds : (name : List ℕ) (mvp : Bool) (certificate : Option (List ℕ)) → Request
  Makes : (seed size nodes workers : ℕ) → Request

-- what a command asks for
abbrev pub request_of : Command → Request
request_of (Compile name mvp workers) = Compiles (string_bytes name) mvp workers
request_of (Solve name mvp nodes certificate workers) = Solves (string_bytes name) mvp nodes (option_map string_bytes certificate) workers
request_of (Check name certificate mvp workers) = Checks (string_bytes name) (string_bytes certificate) mvp workers
request_of (Export name mvp joint) = Exports (string_bytes name) mvp joint
request_of (Extract name solution mvp) = Extracts (string_bytes name) (string_bytes solution) mvp
request_of (Bound name mvp certificate) = Bounds (string_bytes name) mvp (option_map string_bytes certificate)
request_of (Make seed size nodes workers) = Makes seed size nodes workers

-- where an instance comes from
pub data SourceValue : Type 0 where
  -- it is read under this name, and as `.mvp` or not
  Named : (name : List ℕ) (mvp : Bool) → SourceValue
  -- it is generated from this seed, with so many items
  Generated : (seed size : ℕ) → SourceValue

abbrev pub source_value : Source → SourceValue
source_value (code.Named name mvp) = Named name.now mvp
source_value (code.Generated seed size) = Generated seed size

-- where the instance that is asked about comes from
abbrev pub source_of : Request → SourceValue
source_of (Compiles name mvp workers) = Named name mvp
source_of (Solves name mvp nodes certificate workers) = Named name mvp
source_of (Checks name certificate mvp workers) = Named name mvp
source_of (Exports name mvp joint) = Named name mvp
source_of (Extracts name solution mvp) = Named name mvp
source_of (Bounds name mvp certificate) = Named name mvp
source_of (Makes seed size nodes workers) = Generated seed size

-- the name of an instance: of one that is generated, the word for that
abbrev pub name_in : SourceValue → List ℕ
name_in (Named name mvp) = name
name_in (Generated seed size) = codes "make"

-- the name of the instance
abbrev pub name_of : Request → List ℕ
name_of request = name_in (source_of request)

abbrev pub is_mvp_in : SourceValue → Bool
is_mvp_in (Named name mvp) = mvp
is_mvp_in (Generated seed size) = false

-- whether it is read as `.mvp`
abbrev pub is_mvp_of : Request → Bool
is_mvp_of request = is_mvp_in (source_of request)

-- the command of a request
abbrev pub verb_of : Request → Verb
verb_of (Compiles name mvp workers) = verb.Compile
verb_of (Solves name mvp nodes certificate workers) = verb.Solve
verb_of (Checks name certificate mvp workers) = verb.Check
verb_of (Exports name mvp joint) = verb.Export
verb_of (Extracts name solution mvp) = verb.Extract
verb_of (Bounds name mvp certificate) = verb.Bound
verb_of (Makes seed size nodes workers) = verb.Make

-- whether the request asks for one graph for all types
abbrev pub is_joint : Request → Bool
is_joint (Compiles name mvp workers) = false
is_joint (Solves name mvp nodes certificate workers) = false
is_joint (Checks name certificate mvp workers) = false
is_joint (Exports name mvp joint) = joint
is_joint (Extracts name solution mvp) = false
is_joint (Bounds name mvp certificate) = false
is_joint (Makes seed size nodes workers) = false

-- that graph is made for the request
abbrev pub MakesJoint : Request → Type 0
MakesJoint request = IsTrue (is_joint request)

-- a graph for each type is made for the request
abbrev pub MakesGraphs : Request → Type 0
MakesGraphs request = IsTrue ((row_of (verb_of request)).makes_graphs && not (is_joint request))

-- the name under which the request asks for a certificate to be written
abbrev pub certificate_of : Request → Option Word
certificate_of (Compiles name mvp workers) = None
certificate_of (Solves name mvp nodes certificate workers) = certificate
certificate_of (Checks name certificate mvp workers) = None
certificate_of (Exports name mvp joint) = None
certificate_of (Extracts name solution mvp) = None
certificate_of (Bounds name mvp certificate) = certificate
certificate_of (Makes seed size nodes workers) = None

-- how many threads may work at once for the request: 1 where it says nothing of that
abbrev pub workers_of : Request → ℕ
workers_of (Compiles name mvp workers) = workers
workers_of (Solves name mvp nodes certificate workers) = workers
workers_of (Checks name certificate mvp workers) = workers
workers_of (Exports name mvp joint) = 1
workers_of (Extracts name solution mvp) = 1
workers_of (Bounds name mvp certificate) = 1
workers_of (Makes seed size nodes workers) = workers

-- how many splits are granted to the request
abbrev pub nodes_of : Request → ℕ
nodes_of (Compiles name mvp workers) = 0
nodes_of (Solves name mvp nodes certificate workers) = nodes
nodes_of (Checks name certificate mvp workers) = 0
nodes_of (Exports name mvp joint) = 0
nodes_of (Extracts name solution mvp) = 0
nodes_of (Bounds name mvp certificate) = 0
nodes_of (Makes seed size nodes workers) = nodes

-- a number of threads that may work at once
abbrev pub IsCount : ℕ → Type 0
IsCount workers = (1 ≤ workers) × (workers ≤ MAX_WORKERS)

-- a number of items that may be generated
abbrev pub IsSize : ℕ → Type 0
IsSize size = (1 ≤ size) × (size ≤ MAX_ITEMS)

-- an instance may come from there: it is read, or generated from a seed of 64 bits, with 1 to 1,000 items
abbrev pub IsSource : SourceValue → Type 0
IsSource (Named name mvp) = Unit {0}
IsSource (Generated seed size) = (seed < 2 ^ 64) × IsSize size

-- the numbers of a request are in their ranges
pub record IsInRanges (request : Request) : Type 0 where
  pub source : IsSource (source_of request)
  pub nodes : nodes_of request ≤ MAX_SPLITS
  pub workers : IsCount (workers_of request)

-- the plain word at place n, from 0
abbrev pub name_at : ℕ → List PartValue → Word
name_at n parts = unwrap_or (plain_of n parts) []

-- the number of the plain word at place n, from 0: 0 where it is none
abbrev pub number_at : ℕ → List PartValue → ℕ
number_at n parts = unwrap_or (option_and_then number_of (plain_of n parts)) 0

abbrev pub first_name : List PartValue → Word
first_name parts = name_at 0 parts

-- whether the parts ask for the `.mvp` layout
abbrev pub wants_mvp : List PartValue → Bool
wants_mvp parts = is_given Mvp parts || ends_with nat_eq (first_name parts) (codes ".mvp")

-- how many threads the parts ask for: 1 where they say nothing of that
abbrev pub wanted_workers : List PartValue → ℕ
wanted_workers parts = unwrap_or (number_of_setting Workers parts) 1

-- how many splits the parts grant: 1,000 where they say nothing of that
abbrev pub wanted_nodes : List PartValue → ℕ
wanted_nodes parts = unwrap_or (number_of_setting Nodes parts) DEFAULT_SPLITS

-- what a command asks for by these parts
abbrev pub request_from : Verb → List PartValue → Request
request_from verb.Compile parts = Compiles (first_name parts) (wants_mvp parts) (wanted_workers parts)
request_from verb.Solve parts = Solves (first_name parts) (wants_mvp parts) (wanted_nodes parts) (value_of_setting Cert parts) (wanted_workers parts)
request_from verb.Check parts = Checks (first_name parts) (name_at 1 parts) (wants_mvp parts) (wanted_workers parts)
request_from verb.Export parts = Exports (first_name parts) (wants_mvp parts) (is_given Joint parts)
request_from verb.Extract parts = Extracts (first_name parts) (name_at 1 parts) (wants_mvp parts)
request_from verb.Bound parts = Bounds (first_name parts) (wants_mvp parts) (value_of_setting Cert parts)
request_from verb.Make parts = Makes (number_at 0 parts) (number_at 1 parts) (wanted_nodes parts) (wanted_workers parts)

abbrev pub asked : Verb → Result (List PartValue) WordFault → Result Request WordFault
asked command (Ok parts) = Ok (request_from command parts)
asked command (Err fault) = Err fault

abbrev pub asked_of : Option Verb → List Word → Result Request WordFault
asked_of None ws = Err (NoSuchCommand 1)
asked_of (Some command) ws = asked command (said_by (row_of command).shape ws)

-- what the words ask for, or their first fault
abbrev pub words_of : List Word → Result Request WordFault
words_of [] = Err NoCommand
words_of (w ∷ ws) = asked_of (verb_named w) ws

-- what is answered is what the words ask for or their first fault, unless memory is wanting
abbrev pub Answers : List Word → Result Command WordFault → Type 0
Answers ws (Ok command) = words_of ws ≡ Ok (request_of command)
Answers ws (Err fault) = FaultIs (words_of ws) fault

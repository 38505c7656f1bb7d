-- The texts that a request reads: its instance, and for some requests a second one behind it.
use Rattle.std.specs.Prelude.{◌≡◌, ℕ, Option, Some, None, List}
use Rattle.arc_num.specs.declared.TheConstants.{MAX_CERT, MAX_INSTANCE}
use Rattle.arc_io.specs.Bytes.{Told, Files}
use Rattle.command_words.specs.Requests.{Request, Compiles, Solves, Checks, Exports, Extracts, Bounds, Makes}
use Rattle.arc_program.specs.declared.status.Status.{Status}
use Rattle.arc_program.specs.declared.status.Status.TheVariants.{BadCertificate, BadSolution}
use Rattle.arc_program.specs.World.{ShelfSeen}
use Rattle.arc_program.specs.Reading.{HasRead, HasTaken, KeepsWritten}
use Rattle.arc_program.specs.Sources.{HasReadInstance}

-- a second text: its name, how many bytes it may have, and the status of a run that refuses it
pub record TextValue : Type 0 where
  pub name : List ℕ
  pub most : ℕ
  pub refused : Status

-- the second text that a request reads
abbrev pub second_text : Request → Option TextValue
second_text (Compiles name mvp workers) = None
second_text (Solves name mvp nodes certificate workers) = None
second_text (Checks name certificate mvp workers) = Some (record { name = certificate; most = MAX_CERT; refused = BadCertificate })
second_text (Exports name mvp joint) = None
second_text (Extracts name solution mvp) = Some (record { name = solution; most = MAX_INSTANCE; refused = BadSolution })
second_text (Bounds name mvp certificate) = None
second_text (Makes seed size nodes workers) = None

-- what is held under the name of a text, where it is told
abbrev pub held_at : Files → Option TextValue → Told
held_at held None = None
held_at held (Some text) = held text.name

-- what is held under the name of the second text
abbrev pub second_held : Request → Files → Told
second_held request held = held_at held (second_text request)

-- the instance was read, and then the second text in this way
pub record ThenReads (request : Request) (text : TextValue) (how : List ℕ → ℕ → ShelfSeen → ShelfSeen → Type 0) (before after : ShelfSeen) : Type 0 where
  pub second : second_text request ≡ Some text
  pub between : ShelfSeen
  pub read : HasReadInstance request before between
  pub keeps : KeepsWritten before between
  pub goes : how text.name text.most between after

-- how a second text was read that is refused: no read failed, but that of a certificate one may have, behind the line at fault
abbrev pub ReadsRefused : Request → List ℕ → ℕ → ShelfSeen → ShelfSeen → Type 0
ReadsRefused (Compiles name mvp workers) text most before after = HasRead text most before after
ReadsRefused (Solves name mvp nodes certificate workers) text most before after = HasRead text most before after
ReadsRefused (Checks name certificate mvp workers) text most before after = HasTaken text most before after
ReadsRefused (Exports name mvp joint) text most before after = HasRead text most before after
ReadsRefused (Extracts name solution mvp) text most before after = HasRead text most before after
ReadsRefused (Bounds name mvp certificate) text most before after = HasRead text most before after
ReadsRefused (Makes seed size nodes workers) text most before after = HasRead text most before after

abbrev pub HasReadTo : Request → Option TextValue → ShelfSeen → ShelfSeen → Type 0
HasReadTo request None before after = HasReadInstance request before after
HasReadTo request (Some text) before after = ThenReads request text HasRead before after

-- the instance was read, where the request reads one, and behind it the second text, where the request has one
abbrev pub HasReadAll : Request → ShelfSeen → ShelfSeen → Type 0
HasReadAll request before after = HasReadTo request (second_text request) before after

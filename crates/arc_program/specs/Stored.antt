-- The certificate that a request asks to be written, behind the texts that it reads.
use Rattle.std.specs.Prelude.{◌≡◌, Option, Some, None, List, ℕ}
use Rattle.command_words.specs.Requests.{Request, certificate_of}
use Rattle.arc_program.specs.World.{ShelfSeen}
use Rattle.arc_program.specs.Reading.{KeepsWritten}
use Rattle.arc_program.specs.Writing.{HasWritten}
use Rattle.arc_program.specs.Texts.{HasReadAll}

-- all texts were read, and then the certificate was written in this way under the name that is asked for
pub record ThenWrites (request : Request) (certificate : Option (List ℕ)) (how : List ℕ → List ℕ → ShelfSeen → ShelfSeen → Type 0) (before after : ShelfSeen) : Type 0 where
  pub name : List ℕ
  pub named : certificate_of request ≡ Some name
  pub bytes : List ℕ
  pub given : certificate ≡ Some bytes
  pub between : ShelfSeen
  pub read : HasReadAll request before between
  pub keeps : KeepsWritten before between
  pub goes : how name bytes between after

abbrev pub HasDoneTo : Option (List ℕ) → Request → Option (List ℕ) → ShelfSeen → ShelfSeen → Type 0
HasDoneTo None request certificate before after = HasReadAll request before after
HasDoneTo (Some name) request certificate before after = ThenWrites request certificate HasWritten before after

-- all texts were read, and behind them the certificate was written, where one is asked for
abbrev pub HasDoneAll : Request → Option (List ℕ) → ShelfSeen → ShelfSeen → Type 0
HasDoneAll request certificate before after = HasDoneTo (certificate_of request) request certificate before after

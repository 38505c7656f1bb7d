-- Writing a text on a shelf, a line at a time, and with it the certificate of a report.
use Rattle.std.specs.Prelude.{◌≡◌, ◌≢◌, ℕ, true, false, List, [], Option, Some, None, IfSome, Result, Ok, Err, string_bytes}
use Rattle.arc_io.specs.Bytes.{Appends}
use Rattle.arc_io.specs.Faults.{CountsFault}
use Rattle.arc_io.specs.declared.IoFault.{IoFault}
use Rattle.arc_io.specs.declared.IoFault.TheVariants as io
use Rattle.arc_program.specs.declared.writing.StoreFault.{StoreFault}
use Rattle.arc_program.specs.declared.writing.StoreFault.TheVariants as store
use Rattle.arc_program.specs.declared.refusals.Refusal.{Refusal}
use Rattle.arc_program.specs.declared.refusals.Refusal.TheVariants.{Unstored, Memory}
use Rattle.arc_program.specs.World.{ShelfSeen}
use Rattle.arc_program.specs.Printing.{TakesAll, TakesPrefix}
use Rattle.arc_program.specs.Writing.{HasWritten, HasFailedToWrite, MayHaveWritten}

-- a name is being written, and all but what is written under the created name, and the count of failed writes, is as before
pub record KeepsCreated (before after : ShelfSeen) : Type 0 where
  pub held : after.held ≡ before.held
  pub left : after.left ≡ before.left
  pub asked : after.asked ≡ before.asked
  pub created : after.created ≡ before.created
  pub writing : after.writing ≡ true
  pub reads : after.read_faults ≡ before.read_faults
  pub others : (other : List ℕ) → before.created ≢ Some other → after.written other ≡ before.written other

-- one put under the created name, which was answered so
pub record PutsUnder (answer : Result (Unit {0}) IoFault) (bytes : List ℕ) (before after : ShelfSeen) : Type 0 where
  pub keeps : KeepsCreated before after
  pub appends : IfSome before.created (λ name. Appends answer bytes (before.written name) (after.written name))
  pub faults : CountsFault answer before.write_faults after.write_faults

-- this text was put under the created name
pub record HasPutAll (text : List ℕ) (before after : ShelfSeen) : Type 0 where
  pub keeps : KeepsCreated before after
  pub taken : IfSome before.created (λ name. TakesAll text (before.written name) (after.written name))
  pub faults : after.write_faults ≡ before.write_faults

-- some of this text was put under the created name, maybe none, and a put was refused
pub record HasPutSome (fault : IoFault) (text : List ℕ) (before after : ShelfSeen) : Type 0 where
  pub keeps : KeepsCreated before after
  pub taken : IfSome before.created (λ name. TakesPrefix text (before.written name) (after.written name))
  pub faults : CountsFault {T = Unit {0}} (Err fault) before.write_faults after.write_faults

abbrev pub PutsAll : {T : Type 0} → Result T IoFault → List ℕ → ShelfSeen → ShelfSeen → Type 0
PutsAll (Ok x) text before after = HasPutAll text before after
PutsAll (Err fault) text before after = HasPutSome fault text before after

-- the name was created, with no bytes under it, and is being written
pub record Creates (name : List ℕ) (before after : ShelfSeen) : Type 0 where
  pub held : after.held ≡ before.held
  pub left : after.left ≡ before.left
  pub asked : IfSome before.asked (λ _. after.asked ≡ Some name)
  pub created : IfSome before.created (λ _. after.created ≡ Some name)
  pub empty : IfSome (before.written name) (λ _. after.written name ≡ Some [])
  pub others : (other : List ℕ) → other ≢ name → after.written other ≡ before.written other
  pub writing : after.writing ≡ true
  pub reads : after.read_faults ≡ before.read_faults
  pub faults : after.write_faults ≡ before.write_faults

-- the name was closed, and this was answered
pub record Closes (answer : Result (Unit {0}) IoFault) (before after : ShelfSeen) : Type 0 where
  pub held : after.held ≡ before.held
  pub left : after.left ≡ before.left
  pub asked : after.asked ≡ before.asked
  pub created : after.created ≡ before.created
  pub written : after.written ≡ before.written
  pub closed : after.writing ≡ false
  pub reads : after.read_faults ≡ before.read_faults
  pub faults : CountsFault answer before.write_faults after.write_faults

-- the text was written under the name, or that failed, or memory was wanting
abbrev pub WritesFile : {T : Type 0} → Result T IoFault → List ℕ → List ℕ → ShelfSeen → ShelfSeen → Type 0
WritesFile (Ok x) name text before after = HasWritten name text before after
WritesFile (Err io.Failed) name text before after = HasFailedToWrite name text before after
WritesFile (Err io.Memory) name text before after = MayHaveWritten name text before after

-- the name was created, or nothing can be written under it
abbrev pub Makes : {T : Type 0} → Result T IoFault → List ℕ → ShelfSeen → ShelfSeen → Type 0
Makes (Ok x) name before after = Creates name before after
Makes (Err fault) name before after = (text : List ℕ) → WritesFile {T = Unit {0}} (Err fault) name text before after

-- a certificate was written under its name, where there are both, or that failed, or memory was wanting
abbrev pub Stores : {T : Type 0} → Result T StoreFault → Option (List ℕ) → Option (List ℕ) → ShelfSeen → ShelfSeen → Type 0
Stores (Ok x) None certificate before after = after ≡ before
Stores (Ok x) (Some name) None before after = after ≡ before
Stores (Ok x) (Some name) (Some bytes) before after = HasWritten name bytes before after
Stores (Err fault) None certificate before after = ⊥
Stores (Err fault) (Some name) None before after = ⊥
Stores (Err (store.Failed failed)) (Some name) (Some bytes) before after = (string_bytes failed ≡ name) × HasFailedToWrite name bytes before after
Stores (Err store.Memory) (Some name) (Some bytes) before after = MayHaveWritten name bytes before after

-- the refusal that a fault of writing a certificate is
abbrev pub refusal_of : StoreFault → Refusal
refusal_of (store.Failed name) = Unstored name
refusal_of store.Memory = Memory

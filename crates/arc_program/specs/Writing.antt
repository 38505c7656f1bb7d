-- What a run does to the shelf while it writes bytes under one name.
use Rattle.std.specs.Prelude.{◌≡◌, ◌≢◌, ℕ, ◌⊎◌, false, List, take, Option, Some, None, IfSome}
use Rattle.arc_io.specs.Faults.{Rose}
use Rattle.arc_program.specs.World.{ShelfSeen}
use Rattle.arc_program.specs.Reading.{KeepsWritten}

-- what is held, and what is written under other names, is as before; no other name was created, and none is being written
pub record WritesAlone (name : List ℕ) (before after : ShelfSeen) : Type 0 where
  pub held : after.held ≡ before.held
  pub others : (other : List ℕ) → other ≢ name → IfSome (before.written other) (λ bytes. after.written other ≡ Some bytes)
  pub created : IfSome before.created (λ old. (after.created ≡ Some old) ⊎ (after.created ≡ Some name))
  pub closed : after.writing ≡ false

-- nothing is read
pub record KeepsReading (before after : ShelfSeen) : Type 0 where
  pub left : after.left ≡ before.left
  pub faults : after.read_faults ≡ before.read_faults

-- what is written under the name is as before, or some first ones of these bytes
abbrev pub WritesFirst : List ℕ → List ℕ → ShelfSeen → ShelfSeen → Type 0
WritesFirst name bytes before after = IfSome (before.written name) (λ old. (after.written name ≡ Some old) ⊎ ((k : ℕ) × (after.written name ≡ Some (take k bytes))))

-- the bytes were written under the name, which was asked for last, and no write failed
pub record HasWritten (name bytes : List ℕ) (before after : ShelfSeen) : Type 0 where
  pub asked : IfSome before.asked (λ _. after.asked ≡ Some name)
  pub created : IfSome before.created (λ _. after.created ≡ Some name)
  pub written : IfSome (before.written name) (λ _. after.written name ≡ Some bytes)
  pub alone : WritesAlone name before after
  pub reads : KeepsReading before after
  pub faults : after.write_faults ≡ before.write_faults

-- the name was asked for last, and a write failed
pub record HasFailedToWrite (name bytes : List ℕ) (before after : ShelfSeen) : Type 0 where
  pub asked : IfSome before.asked (λ _. after.asked ≡ Some name)
  pub written : WritesFirst name bytes before after
  pub alone : WritesAlone name before after
  pub reads : KeepsReading before after
  pub faults : Rose before.write_faults after.write_faults

-- the name was asked for last, or none was
pub record MayHaveWritten (name bytes : List ℕ) (before after : ShelfSeen) : Type 0 where
  pub asked : IfSome before.asked (λ old. (after.asked ≡ Some old) ⊎ (after.asked ≡ Some name))
  pub written : WritesFirst name bytes before after
  pub alone : WritesAlone name before after
  pub reads : KeepsReading before after
  pub faults : (after.write_faults ≡ before.write_faults) ⊎ Rose before.write_faults after.write_faults

-- nothing is written, but under this name, where there is one
abbrev pub WritesUnder : Option (List ℕ) → ShelfSeen → ShelfSeen → Type 0
WritesUnder None before after = KeepsWritten before after
WritesUnder (Some name) before after = KeepsWritten before after ⊎ WritesAlone name before after

-- a write of a name failed, where there is one
abbrev pub WriteRose : Option (List ℕ) → ShelfSeen → ShelfSeen → Type 0
WriteRose None before after = ⊥
WriteRose (Some name) before after = Rose before.write_faults after.write_faults

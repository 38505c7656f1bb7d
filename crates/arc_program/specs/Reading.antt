-- What a run does to the shelf while it reads the bytes of one name.
use Rattle.std.specs.Prelude.{◌≡◌, ℕ, ◌+◌, ◌≤◌, ◌⊎◌, List, [], drop, Some, IfSome}
use Rattle.arc_io.specs.Faults.{Rose}
use Rattle.arc_program.specs.World.{ShelfSeen}

-- of the bytes of the name some first ones were taken: no more than there may be, and one more
abbrev pub TakesFirst : List ℕ → ℕ → ShelfSeen → ShelfSeen → Type 0
TakesFirst name most before after = IfSome (before.held name) (λ bytes. (n : ℕ) × (n ≤ most + 1) × (after.left ≡ Some (drop n bytes)))

-- nothing is left, since a start was refused
abbrev pub LeavesNothing : ShelfSeen → ShelfSeen → Type 0
LeavesNothing before after = IfSome before.left (λ _. after.left ≡ Some [])

-- the name was asked for last, no read failed, and not too many bytes were taken
pub record HasRead (name : List ℕ) (most : ℕ) (before after : ShelfSeen) : Type 0 where
  pub asked : IfSome before.asked (λ _. after.asked ≡ Some name)
  pub taken : TakesFirst name most before after
  pub faults : after.read_faults ≡ before.read_faults

-- the name was asked for last, and not too many bytes were taken; a read behind them may have failed
pub record HasTaken (name : List ℕ) (most : ℕ) (before after : ShelfSeen) : Type 0 where
  pub asked : IfSome before.asked (λ _. after.asked ≡ Some name)
  pub taken : TakesFirst name most before after
  pub faults : (after.read_faults ≡ before.read_faults) ⊎ Rose before.read_faults after.read_faults

-- the name was asked for last, and a read failed
pub record HasFailed (name : List ℕ) (most : ℕ) (before after : ShelfSeen) : Type 0 where
  pub asked : IfSome before.asked (λ _. after.asked ≡ Some name)
  pub taken : LeavesNothing before after ⊎ TakesFirst name most before after
  pub faults : Rose before.read_faults after.read_faults

-- the name was asked for last, or none was
pub record MayHaveRead (name : List ℕ) (most : ℕ) (before after : ShelfSeen) : Type 0 where
  pub asked : IfSome before.asked (λ old. (after.asked ≡ Some old) ⊎ (after.asked ≡ Some name))
  pub taken : (after.left ≡ before.left) ⊎ (LeavesNothing before after ⊎ TakesFirst name most before after)
  pub faults : (after.read_faults ≡ before.read_faults) ⊎ Rose before.read_faults after.read_faults

-- what is held and what is written is as before, and no write failed
pub record KeepsWritten (before after : ShelfSeen) : Type 0 where
  pub held : after.held ≡ before.held
  pub written : after.written ≡ before.written
  pub created : after.created ≡ before.created
  pub writing : after.writing ≡ before.writing
  pub faults : after.write_faults ≡ before.write_faults

-- Reading a whole text from a shelf, piece by piece.
use Rattle.std.specs.Prelude.{◌≡◌, ℕ, ◌+◌, ◌≤◌, ◌<◌, List, [], ◌++◌, length, take, drop, Some, IfSome, Result, Ok, Err}
use Rattle.arc_num.specs.declared.TheConstants.{MAX_INSTANCE}
use Rattle.arc_io.specs.Faults.{Rose}
use Rattle.arc_io.specs.Bytes.{Told}
use Rattle.arc_program.specs.declared.loading.LoadFault.{LoadFault}
use Rattle.arc_program.specs.declared.loading.LoadFault.TheVariants.{Failed, Long, Memory}
use Rattle.arc_program.specs.World.{ShelfSeen}
use Rattle.arc_program.specs.Reading.{HasRead, HasFailed, MayHaveRead}

-- of what a name holds, this text has been read, and the rest is left, where these are told
abbrev pub IsReadUpTo : Told → Told → List ℕ → Type 0
IsReadUpTo held left text = IfSome held (λ all. (rest : List ℕ) × (left ≡ Some rest) × (all ≡ text ++ rest))

-- at most so many bytes were taken of what was left
abbrev pub TakesAtMost : ℕ → Told → Told → Type 0
TakesAtMost most before after = IfSome before (λ rest. (n : ℕ) × (n ≤ most) × (after ≡ Some (drop n rest)))

-- n more bytes of what is left were read onto the text; none exactly at the end
abbrev pub ReadsOn : ℕ → List ℕ → List ℕ → Told → Told → Type 0
ReadsOn n old new left after =
    (length new ≡ length old + n) × IfSome left (λ rest. (new ≡ old ++ take n rest) × (after ≡ Some (drop n rest)) × (n ≡ 0 → rest ≡ []))

abbrev pub ReadsPiece : Result ℕ LoadFault → List ℕ → List ℕ → Told → Told → Type 0
ReadsPiece (Ok n) old new left after = ReadsOn n old new left after
ReadsPiece (Err e) old new left after = Unit {0}

-- reads failed where the answer says so, and the count of failed reads is as before in every other case
abbrev pub CountsLoad : {T : Type 0} → Result T LoadFault → ℕ → ℕ → Type 0
CountsLoad (Ok x) before after = after ≡ before
CountsLoad (Err Failed) before after = Rose before after
CountsLoad (Err Long) before after = after ≡ before
CountsLoad (Err Memory) before after = after ≡ before

-- the text is all that the name holds and is not too long, or what it holds is too long, or it could not be read
abbrev pub Loads : List ℕ → Result (List ℕ) LoadFault → ShelfSeen → ShelfSeen → Type 0
Loads name (Ok text) before after = (length text ≤ MAX_INSTANCE) × IfSome (before.held name) (λ bytes. text ≡ bytes) × HasRead name MAX_INSTANCE before after
Loads name (Err Failed) before after = HasFailed name MAX_INSTANCE before after
Loads name (Err Long) before after = IfSome (before.held name) (λ bytes. MAX_INSTANCE < length bytes) × HasRead name MAX_INSTANCE before after
Loads name (Err Memory) before after = MayHaveRead name MAX_INSTANCE before after

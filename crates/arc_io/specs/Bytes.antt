-- Bytes that are told or not, and what a call does to them.
use Rattle.std.specs.Prelude.{◌≡◌, ℕ, ◌≤◌, List, [], ◌++◌, length, take, drop, Option, Some, IfSome, Result, Ok, Err}
use Rattle.arc_io.specs.declared.IoFault.{IoFault}
use Rattle.arc_io.specs.declared.IoFault.TheVariants.{Failed, Memory}

-- bytes, where they are told
abbrev pub Told : Type 0
Told = Option (List ℕ)

-- the bytes of each name, where they are told
abbrev pub Files : Type 0
Files = List ℕ → Told

-- the bytes are put at the end; of a failed call a prefix of them; without memory none
abbrev pub Appends : {T : Type 0} → Result T IoFault → List ℕ → Told → Told → Type 0
Appends (Ok x) bytes before after = IfSome before (λ old. after ≡ Some (old ++ bytes))
Appends (Err Failed) bytes before after = IfSome before (λ old. (k : ℕ) × (after ≡ Some (old ++ take k bytes)))
Appends (Err Memory) bytes before after = after ≡ before

-- the first n bytes of the buffer are the first n of what was left, and the rest is left; none exactly at the end
pub record Gives (n : ℕ) (buffer : List ℕ) (rest : List ℕ) (after : Told) : Type 0 where
  pub within : n ≤ length rest
  pub bytes : take n buffer ≡ take n rest
  pub left : after ≡ Some (drop n rest)
  pub end : n ≡ 0 → rest ≡ []

-- what a read that answers a number gives and leaves; a refused one leaves all
abbrev pub Takes : Result ℕ IoFault → List ℕ → Told → Told → Type 0
Takes (Ok n) buffer before after = IfSome before (λ rest. Gives n buffer rest after)
Takes (Err e) buffer before after = after ≡ before

-- what is left after a start: all that is held, or nothing
abbrev pub Starts : {T : Type 0} → Result T IoFault → Told → Told → Told → Type 0
Starts (Ok x) held before after = after ≡ held
Starts (Err e) held before after = IfSome before (λ _. after ≡ Some [])

-- the name asked for last, but for calls that found no memory
abbrev pub Asks : {T : Type 0} → Result T IoFault → List ℕ → Told → Told → Type 0
Asks (Ok x) name before after = IfSome before (λ _. after ≡ Some name)
Asks (Err Failed) name before after = IfSome before (λ _. after ≡ Some name)
Asks (Err Memory) name before after = after ≡ before

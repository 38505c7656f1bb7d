-- What a call of the outside says of the counts of calls and of faults.
use Rattle.std.specs.Prelude.{◌≡◌, ℕ, ◌+◌, ◌-◌, ◌^◌, ◌<◌, ◌≤◌, min, ◌⊎◌, Result, Ok, Err}
use Rattle.arc_io.specs.declared.IoFault.{IoFault}
use Rattle.arc_io.specs.declared.IoFault.TheVariants.{Failed, Memory}

-- the count has not fallen, and is greater than before or stands at its end
abbrev pub Rose : ℕ → ℕ → Type 0
Rose before after = (before < after) ⊎ ((before ≤ after) × (after ≡ 2 ^ 64 - 1))

-- the count rose where the call failed, and is as before in every other case
abbrev pub CountsFault : {T : Type 0} → Result T IoFault → ℕ → ℕ → Type 0
CountsFault (Ok x) before after = after ≡ before
CountsFault (Err Failed) before after = Rose before after
CountsFault (Err Memory) before after = after ≡ before

-- the next number of a count that stops at its end
abbrev pub raised : ℕ → ℕ
raised n = min (n + 1) (2 ^ 64 - 1)

-- one call more was counted
abbrev pub CountsCall : ℕ → ℕ → Type 0
CountsCall before after = after ≡ raised before

-- one call more was counted where it found no memory, and none in every other case
abbrev pub CountsMemory : {T : Type 0} → Result T IoFault → ℕ → ℕ → Type 0
CountsMemory (Ok x) before after = after ≡ before
CountsMemory (Err Failed) before after = after ≡ before
CountsMemory (Err Memory) before after = after ≡ raised before

-- the count after a call: one more where the call failed
abbrev pub counted : {T : Type 0} → Result T IoFault → ℕ → ℕ
counted (Ok x) n = n
counted (Err Failed) n = raised n
counted (Err Memory) n = n

-- the call failed exactly where P holds, but for want of memory
abbrev pub FailsWhere : {T : Type 0} → Result T IoFault → Type 0 → Type 0
FailsWhere (Ok x) P = ¬ P
FailsWhere (Err Failed) P = P
FailsWhere (Err Memory) P = Unit {0}

-- the call did not fail
abbrev pub NeverFails : {T : Type 0} → Result T IoFault → Type 0
NeverFails (Ok x) = Unit {0}
NeverFails (Err Failed) = ⊥
NeverFails (Err Memory) = Unit {0}

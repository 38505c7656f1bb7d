-- Calls that are counted, and those of them that fail.
use Rattle.std.specs.Prelude.{ℕ, List, Contains}
use Rattle.arc_io.specs.Faults.{raised}

-- how many calls were made, and the numbers of those that fail
pub record CallsValue : Type 0 where
  pub failing : List ℕ
  pub made : ℕ

-- no call was made
abbrev pub new_calls : List ℕ → CallsValue
new_calls failing = record { failing = failing; made = 0 }

-- the next call is one of those that fail
abbrev pub IsListed : CallsValue → Type 0
IsListed c = Contains c.failing (raised c.made)

-- one call more was made
abbrev pub next_call : CallsValue → CallsValue
next_call c = record c { made = raised c.made }

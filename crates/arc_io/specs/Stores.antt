-- A shelf in memory, and what each call leaves of it.
use Rattle.std.specs.Prelude.{ℕ, Bool, true, false, List, [], ◌∷◌, drop, Result, Ok, Err}
use Rattle.arc_io.specs.declared.IoFault.{IoFault}
use Rattle.arc_io.specs.declared.IoFault.TheVariants.{Failed, Memory}
use Rattle.arc_io.specs.Calls.{CallsValue, new_calls}
use Rattle.arc_io.specs.Entries.{Entry, bytes_of, appended}

-- what is held, what the started name has still to give, the most bytes of one read, what was written (the last
-- created name first), whether a name is being written, and the name asked for last
pub record StoreValue : Type 0 where
  pub held : List Entry
  pub left : List ℕ
  pub most : ℕ
  pub written : List Entry
  pub writing : Bool
  pub asked : List ℕ

-- a shelf whose calls are counted, and its counts of faults
pub record MemShelfValue : Type 0 where
  pub store : StoreValue
  pub calls : CallsValue
  pub read_faults : ℕ
  pub write_faults : ℕ

-- a sink whose calls are counted, what it took, its count of faults, and its count of calls that found no memory
pub record MemSinkValue : Type 0 where
  pub taken : List ℕ
  pub calls : CallsValue
  pub faults : ℕ
  pub starved : ℕ

-- what a sink took, and how many calls it had and how many of these found no memory
pub record SureSinkValue : Type 0 where
  pub taken : List ℕ
  pub puts : ℕ
  pub starved : ℕ

-- nothing is started, asked for or written
abbrev pub new_store : List Entry → ℕ → StoreValue
new_store held most = record { held = held; left = []; most = most; written = []; writing = false; asked = [] }

-- a shelf of which no call was made and no call failed
abbrev pub new_mem_shelf : List Entry → List ℕ → ℕ → MemShelfValue
new_mem_shelf held failing most = record { store = new_store held most; calls = new_calls failing; read_faults = 0; write_faults = 0 }

-- a sink of which no call was made and no call failed
abbrev pub new_mem_sink : List ℕ → MemSinkValue
new_mem_sink failing = record { taken = []; calls = new_calls failing; faults = 0; starved = 0 }

-- a sink that never fails, of which no call was made
abbrev pub new_sure_sink : SureSinkValue
new_sure_sink = record { taken = []; puts = 0; starved = 0 }

-- a start gives the held bytes, from the first on
abbrev pub after_start : {T : Type 0} → Result T IoFault → List ℕ → StoreValue → StoreValue
after_start (Ok x) name s = record s { left = bytes_of s.held name; asked = name }
after_start (Err Failed) name s = record s { left = []; asked = name }
after_start (Err Memory) name s = record s { left = [] }

-- a read takes its bytes away
abbrev pub after_more : Result ℕ IoFault → StoreValue → StoreValue
after_more (Ok n) s = record s { left = drop n s.left }
after_more (Err e) s = s

-- a create begins a new entry, without bytes
abbrev pub after_create : {T : Type 0} → Result T IoFault → List ℕ → StoreValue → StoreValue
after_create (Ok x) name s = record s { written = record { name = name; bytes = [] } ∷ s.written; writing = true; asked = name }
after_create (Err Failed) name s = record s { writing = false; asked = name }
after_create (Err Memory) name s = record s { writing = false }

-- a put appends all of its bytes, or none
abbrev pub after_put : {T : Type 0} → Result T IoFault → List ℕ → StoreValue → StoreValue
after_put (Ok x) bytes s = record s { written = appended bytes s.written }
after_put (Err e) bytes s = s

-- a close ends the writing
abbrev pub after_close : StoreValue → StoreValue
after_close s = record s { writing = false }

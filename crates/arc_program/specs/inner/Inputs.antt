-- The instance that a command asks about: it is read, or generated.
use Rattle.std.specs.Prelude.{ℕ, List, Bool, IfSome, Result, Ok, Err}
use Rattle.arc_num.specs.declared.TheConstants.{MAX_INSTANCE}
use Rattle.packing_laws.specs.Instances.{InstanceValue}
use Rattle.command_words.specs.Requests.{Request, SourceValue, Named, Generated, source_of}
use Rattle.arc_program.specs.declared.inputs.InputFault.{InputFault}
use Rattle.arc_program.specs.declared.inputs.InputFault.TheVariants.{Failed, Long, Misread, Memory}
use Rattle.arc_program.specs.Requests.{ReadsInstance, IsGiven, IsLong, IsBadAt}
use Rattle.arc_program.specs.World.{ShelfSeen}
use Rattle.command_words.specs.Requests.{name_of}
use Rattle.arc_program.specs.Sources.{HasReadInstance, HasFailedInstance, MayHaveReadInstance}

-- the instance is the one that is asked about, or the fault is that of its bytes, or they could not be read
abbrev pub IsInput : Request → Result InstanceValue InputFault → ShelfSeen → ShelfSeen → Type 0
IsInput request (Ok I) before after = IsGiven request before.held I × HasReadInstance request before after
IsInput request (Err Failed) before after = HasFailedInstance request before after
IsInput request (Err Long) before after = ReadsInstance request × IfSome (before.held (name_of request)) IsLong × HasReadInstance request before after
IsInput request (Err (Misread fault)) before after = ReadsInstance request × IfSome (before.held (name_of request)) (λ bytes. IsBadAt request bytes fault) × HasReadInstance request before after
IsInput request (Err Memory) before after = MayHaveReadInstance request before after

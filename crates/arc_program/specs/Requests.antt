-- What a request says of the instance that it asks about, and what it may write.
use Rattle.std.specs.Prelude.{◌≡◌, ℕ, ◌<◌, ◌≤◌, ◌⊎◌, Bool, true, false, List, length, IfSome}
use Rattle.std.specs.Option.{IsSomeAnd}
use Rattle.arc_num.specs.declared.TheConstants.{MAX_INSTANCE}
use Rattle.arc_io.specs.Bytes.{Files}
use Rattle.arc_compile.specs.Graphs.{IsSmall}
use Rattle.joint_compile.specs.JointCompiled.{IsJointSmall}
use Rattle.packing_laws.specs.declared.fault.ReadFault.{ReadFault}
use Rattle.packing_laws.specs.Instances.{InstanceValue, IsInstance}
use Rattle.packing_laws.specs.Layouts as layouts
use Rattle.packing_laws.specs.Layouts.{Layout, Vbp, Mvp}
use Rattle.workload.specs.Generated.{generated_value}
use Rattle.command_words.specs.Requests.{Request, SourceValue, Named, Generated, source_of, is_mvp_of, MakesGraphs, MakesJoint, certificate_of}
use Rattle.arc_program.specs.World.{ShelfSeen}
use Rattle.arc_program.specs.Writing.{WritesUnder}

abbrev pub layout_for : Bool → Layout
layout_for true = Mvp
layout_for false = Vbp

-- the layout in which the instance is read
abbrev pub layout_of : Request → Layout
layout_of request = layout_for (is_mvp_of request)

-- what is written on the shelf: nothing, but under the name of the certificate, where one is asked for
abbrev pub Writes : Request → ShelfSeen → ShelfSeen → Type 0
Writes request before after = WritesUnder (certificate_of request) before after

-- the bytes spell the instance, and are not too many
abbrev pub IsAccepted : Request → List ℕ → InstanceValue → Type 0
IsAccepted request bytes I = (length bytes ≤ MAX_INSTANCE) × layouts.Reads (layout_of request) bytes I

-- the bytes are too many
abbrev pub IsLong : List ℕ → Type 0
IsLong bytes = MAX_INSTANCE < length bytes

-- the bytes have a first bad place, and are not too many
abbrev pub IsBadAt : Request → List ℕ → ReadFault → Type 0
IsBadAt request bytes fault = (length bytes ≤ MAX_INSTANCE) × layouts.BadPlace (layout_of request) bytes fault

-- the bytes are no instance
abbrev pub IsRefused : Request → List ℕ → Type 0
IsRefused request bytes = IsLong bytes ⊎ ((fault : ReadFault) × IsBadAt request bytes fault)

-- the instance is read under a name
abbrev pub IsNamed : SourceValue → Type 0
IsNamed (Named name mvp) = Unit {0}
IsNamed (Generated seed size) = ⊥

-- the request reads its instance
abbrev pub ReadsInstance : Request → Type 0
ReadsInstance request = IsNamed (source_of request)

-- the bytes under the name spell the instance, where they are told; or it is the generated one
abbrev pub ComesFrom : SourceValue → Request → Files → InstanceValue → Type 0
ComesFrom (Named name mvp) request held I = IfSome (held name) (λ bytes. IsAccepted request bytes I)
ComesFrom (Generated seed size) request held I = I ≡ generated_value seed size

-- an instance that may be the one that is asked about
pub record IsGiven (request : Request) (held : Files) (I : InstanceValue) : Type 0 where
  pub known : IsInstance I
  pub from : ComesFrom (source_of request) request held I

-- the bytes under the name are told, and spell the instance; or it is the generated one
abbrev pub IsToldFrom : SourceValue → Request → Files → InstanceValue → Type 0
IsToldFrom (Named name mvp) request held I = IsSomeAnd (held name) (λ bytes. IsAccepted request bytes I)
IsToldFrom (Generated seed size) request held I = I ≡ generated_value seed size

-- the one instance that is asked about
abbrev pub IsAsked : Request → Files → InstanceValue → Type 0
IsAsked request held I = IsToldFrom (source_of request) request held I

-- and the graphs that are made of it are small
abbrev pub IsGood : Request → Files → InstanceValue → Type 0
IsGood request held I = IsAsked request held I × (MakesGraphs request → IsSmall I) × (MakesJoint request → IsJointSmall I)

-- the bytes under the name are told, and are no instance
abbrev pub IsRefusedFrom : SourceValue → Request → Files → Type 0
IsRefusedFrom (Named name mvp) request held = IsSomeAnd (held name) (IsRefused request)
IsRefusedFrom (Generated seed size) request held = ⊥

abbrev pub HasNoInstance : Request → Files → Type 0
HasNoInstance request held = IsRefusedFrom (source_of request) request held

-- What is read: a text under a name, or the instance that is asked about, wherever it comes from.
use Rattle.std.proofs.Common.{◌≡◌, ◌⊎◌, ◌∙◌, ℕ, refl, sym, ap, inl, inr, Some, None, IfSome, IsSomeAnd, List, Ok, Err, arith}
use Rattle.arc_num.specs.declared.TheConstants.{MAX_INSTANCE}
use Rattle.arc_io.specs.Bytes.{Told, Files}
use Rattle.arc_io.specs.Faults.{Rose}
use Rattle.packing_laws.specs.Instances.{InstanceValue}
use Rattle.packing_laws.specs.Layouts as layouts
use Rattle.command_words.specs.Requests.{Request, SourceValue, Named, Generated, source_of}
use Rattle.arc_program.specs.declared.inputs.InputFault.{InputFault}
use Rattle.arc_program.specs.declared.inputs.InputFault.TheVariants.{Failed, Long, Misread, Memory}
use Rattle.arc_program.specs.World.{ShelfSeen}
use Rattle.arc_program.specs.Reading.{HasRead, HasTaken, HasFailed, MayHaveRead}
use Rattle.arc_program.specs.Requests.{layout_of, IsAccepted, IsRefused, ComesFrom, IsGiven, IsToldFrom, IsAsked, IsRefusedFrom, HasNoInstance}
use Rattle.arc_program.specs.Sources.{ReadsFrom, FailsFrom, MayReadFrom, HasReadInstance, HasFailedInstance, MayHaveReadInstance}
use Rattle.arc_program.specs.inner.Inputs.{IsInput}
use Rattle.arc_program.proofs.FlowTexts.{ok_one}

-- nothing was read
none_asked : (name : List ℕ) (told : Told) → IfSome told (λ old. (told ≡ Some old) ⊎ (told ≡ Some name))
none_asked name None = tt
none_asked name (Some old) = inl refl

pub read_nothing : (name : List ℕ) (most : ℕ) (shelf : ShelfSeen) → MayHaveRead name most shelf shelf
read_nothing name most shelf = record { asked = none_asked name shelf.asked; taken = inl refl; faults = inl refl }

pub one_asked : (name : List ℕ) (before after : Told) → IfSome before (λ _. after ≡ Some name) → IfSome before (λ old. (after ≡ Some old) ⊎ (after ≡ Some name))
one_asked name None after h = tt
one_asked name (Some old) after h = inr h

-- the name was read, or reading it failed
pub may_have_read : (name : List ℕ) (most : ℕ) (before after : ShelfSeen) → HasRead name most before after → MayHaveRead name most before after
may_have_read name most before after read = record { asked = one_asked name before.asked after.asked read.asked; taken = inr (inr read.taken); faults = inl read.faults }

pub may_have_failed : (name : List ℕ) (most : ℕ) (before after : ShelfSeen) → HasFailed name most before after → MayHaveRead name most before after
may_have_failed name most before after read = record { asked = one_asked name before.asked after.asked read.asked; taken = inr read.taken; faults = inr read.faults }

pub may_have_taken : (name : List ℕ) (most : ℕ) (before after : ShelfSeen) → HasTaken name most before after → MayHaveRead name most before after
may_have_taken name most before after took = record { asked = one_asked name before.asked after.asked took.asked; taken = inr (inr took.taken); faults = took.faults }

-- the instance was read, where it is read
pub may_have_read_instance : (request : Request) (before after : ShelfSeen) → HasReadInstance request before after → MayHaveReadInstance request before after
may_have_read_instance request before after read = by_source (source_of request) read
  where
    by_source : (source : SourceValue) → ReadsFrom source before after → MayReadFrom source before after
    by_source (Named name mvp) h = may_have_read name MAX_INSTANCE before after h
    by_source (Generated seed size) h = h

pub may_have_failed_instance : (request : Request) (before after : ShelfSeen) → HasFailedInstance request before after → MayHaveReadInstance request before after
may_have_failed_instance request before after failed = by_source (source_of request) failed
  where
    by_source : (source : SourceValue) → FailsFrom source before after → MayReadFrom source before after
    by_source (Named name mvp) h = may_have_failed name MAX_INSTANCE before after h
    by_source (Generated seed size) h = absurd h

pub read_no_instance : (request : Request) (shelf : ShelfSeen) → MayHaveReadInstance request shelf shelf
read_no_instance request shelf = by_source (source_of request)
  where
    by_source : (source : SourceValue) → MayReadFrom source shelf shelf
    by_source (Named name mvp) = read_nothing name MAX_INSTANCE shelf
    by_source (Generated seed size) = refl

-- reads that failed are counted
pub instance_read_well : (request : Request) (before after : ShelfSeen) → HasReadInstance request before after → after.read_faults ≡ before.read_faults
instance_read_well request before after read = by_source (source_of request) read
  where
    by_source : (source : SourceValue) → ReadsFrom source before after → after.read_faults ≡ before.read_faults
    by_source (Named name mvp) h = h.faults
    by_source (Generated seed size) h = ap (λ (s : ShelfSeen). s.read_faults) h

pub instance_read_badly : (request : Request) (before after : ShelfSeen) → HasFailedInstance request before after → Rose before.read_faults after.read_faults
instance_read_badly request before after failed = by_source (source_of request) failed
  where
    by_source : (source : SourceValue) → FailsFrom source before after → Rose before.read_faults after.read_faults
    by_source (Named name mvp) h = h.faults
    by_source (Generated seed size) h = absurd h

-- there is but one instance that is asked about
pub one_instance : (request : Request) (held : Files) (I J : InstanceValue) → IsGiven request held I → IsAsked request held J → I ≡ J
one_instance request held I J given asked = by_source (source_of request) given.from asked
  where
    by_told : (told : Told) → IfSome told (λ bytes. IsAccepted request bytes I) → IsSomeAnd told (λ bytes. IsAccepted request bytes J) → I ≡ J
    by_told None first second = absurd second
    by_told (Some bytes) first second = ok_one (layouts.reading_of (layout_of request) bytes) I J first.1 second.1

    by_source : (source : SourceValue) → ComesFrom source request held I → IsToldFrom source request held J → I ≡ J
    by_source (Named name mvp) first second = by_told (held name) first second
    by_source (Generated seed size) first second = first ∙ sym second

-- bytes that spell an instance are not refused
accepted_not_refused : (request : Request) (bytes : List ℕ) (I : InstanceValue) → IsAccepted request bytes I → IsRefused request bytes → ⊥
accepted_not_refused request bytes I accepted (inl long) = omega (arith, long, accepted.0)
accepted_not_refused request bytes I accepted (inr bad) = let clash : Ok I ≡ Err bad.0 = sym accepted.1 ∙ bad.1.1 in cc

pub given_not_refused : (request : Request) (held : Files) (I : InstanceValue) → IsGiven request held I → HasNoInstance request held → ⊥
given_not_refused request held I given none = by_source (source_of request) given.from none
  where
    by_told : (told : Told) → IfSome told (λ bytes. IsAccepted request bytes I) → IsSomeAnd told (IsRefused request) → ⊥
    by_told None first second = absurd second
    by_told (Some bytes) first second = accepted_not_refused request bytes I first second

    by_source : (source : SourceValue) → ComesFrom source request held I → IsRefusedFrom source request held → ⊥
    by_source (Named name mvp) first second = by_told (held name) first second
    by_source (Generated seed size) first second = absurd second

-- the one instance that is asked about is not refused
pub asked_not_refused : (request : Request) (held : Files) (I : InstanceValue) → IsAsked request held I → HasNoInstance request held → ⊥
asked_not_refused request held I asked none = by_source (source_of request) asked none
  where
    by_told : (told : Told) → IsSomeAnd told (λ bytes. IsAccepted request bytes I) → IsSomeAnd told (IsRefused request) → ⊥
    by_told None first second = absurd second
    by_told (Some bytes) first second = accepted_not_refused request bytes I first second

    by_source : (source : SourceValue) → IsToldFrom source request held I → IsRefusedFrom source request held → ⊥
    by_source (Named name mvp) first second = by_told (held name) first second
    by_source (Generated seed size) first second = absurd second

-- whatever the input came to
pub may_have_input : (request : Request) (fault : InputFault) (before after : ShelfSeen) → IsInput request (Err fault) before after → MayHaveReadInstance request before after
may_have_input request Failed before after input = may_have_failed_instance request before after input
may_have_input request Long before after input = may_have_read_instance request before after input.2
may_have_input request (Misread fault) before after input = may_have_read_instance request before after input.2
may_have_input request Memory before after input = input

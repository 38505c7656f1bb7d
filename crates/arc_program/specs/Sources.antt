-- What a run does to the shelf for the instance that it is asked about: it reads it, or nothing where it is generated.
use Rattle.std.specs.Prelude.{◌≡◌}
use Rattle.arc_num.specs.declared.TheConstants.{MAX_INSTANCE}
use Rattle.command_words.specs.Requests.{Request, SourceValue, Named, Generated, source_of}
use Rattle.arc_program.specs.World.{ShelfSeen}
use Rattle.arc_program.specs.Reading.{HasRead, HasFailed, MayHaveRead}

abbrev pub ReadsFrom : SourceValue → ShelfSeen → ShelfSeen → Type 0
ReadsFrom (Named name mvp) before after = HasRead name MAX_INSTANCE before after
ReadsFrom (Generated seed size) before after = after ≡ before

abbrev pub FailsFrom : SourceValue → ShelfSeen → ShelfSeen → Type 0
FailsFrom (Named name mvp) before after = HasFailed name MAX_INSTANCE before after
FailsFrom (Generated seed size) before after = ⊥

abbrev pub MayReadFrom : SourceValue → ShelfSeen → ShelfSeen → Type 0
MayReadFrom (Named name mvp) before after = MayHaveRead name MAX_INSTANCE before after
MayReadFrom (Generated seed size) before after = after ≡ before

-- the instance was read
abbrev pub HasReadInstance : Request → ShelfSeen → ShelfSeen → Type 0
HasReadInstance request before after = ReadsFrom (source_of request) before after

-- a read of the instance failed
abbrev pub HasFailedInstance : Request → ShelfSeen → ShelfSeen → Type 0
HasFailedInstance request before after = FailsFrom (source_of request) before after

-- the instance may have been read
abbrev pub MayHaveReadInstance : Request → ShelfSeen → ShelfSeen → Type 0
MayHaveReadInstance request before after = MayReadFrom (source_of request) before after

-- Judging a certificate that is read piece by piece.
use Rattle.std.specs.Prelude.{◌≡◌, ◌⊎◌, ℕ, ◌+◌, ◌<◌, ◌≤◌, List, [], ◌++◌, length, take, drop, Option, None, Some, IfSome, MatchResult, Result, Ok, Err, string_bytes}
use Rattle.arc_num.specs.declared.TheConstants.{MAX_CERT}
use Rattle.arc_io.specs.declared.IoFault.{IoFault}
use Rattle.arc_io.specs.declared.IoFault.TheVariants.{Failed, Memory}
use Rattle.arc_io.specs.Bytes.{Told}
use Rattle.arc_io.specs.Faults.{Rose}
use Rattle.packing_laws.specs.Instances.{InstanceValue}
use Rattle.flow_graph.specs.Arcs.{TypeValue}
use Rattle.cert_laws.specs.Shown.{Shows}
use Rattle.cert_stream.specs.declared.verdict.Verdict.{Verdict}
use Rattle.cert_stream.specs.declared.verdict.Verdict.TheVariants.{Shown, Faulty, TooLong}
use Rattle.cert_stream.specs.Verdicts.{IsVerdict, IsCertain, IsSound}
use Rattle.cert_stream.specs.Judges.{JudgeValue, IsFed}
use Rattle.arc_program.specs.declared.judging.Step.{Step}
use Rattle.arc_program.specs.declared.judging.Step.TheVariants.{End, More, Certain}
use Rattle.arc_program.specs.declared.commands.Report.{Report}
use Rattle.arc_program.specs.declared.commands.WorkFault.{WorkFault}
use Rattle.arc_program.specs.declared.commands.WorkFault.TheVariants as work
use Rattle.arc_program.specs.declared.status.Status.TheVariants.{Done, BadCertificate}
use Rattle.arc_program.specs.World.{ShelfSeen}
use Rattle.arc_program.specs.Reading.{HasRead, HasTaken, HasFailed, MayHaveRead, LeavesNothing}
use Rattle.arc_program.specs.inner.Loading.{IsReadUpTo}
use Rattle.arc_program.specs.Refusals.{long_line}
use Rattle.arc_program.specs.Verdicts.{claim_text, faulty_line}

-- the piece was taken from the front of what was left
abbrev pub Brings : List ℕ → Told → Told → Type 0
Brings piece left after = IfSome left (λ rest. (others : List ℕ) × (rest ≡ piece ++ others) × (after ≡ Some others))

-- the verdict on these bytes is certain, however the text goes on
abbrev pub IsDecided : InstanceValue → List TypeValue → List ℕ → Type 0
IsDecided I g bytes = (verdict : Verdict) × IsCertain I g bytes verdict

-- a piece of n bytes was taken of what was left, into the front of a buffer
abbrev pub Steps : Result Step IoFault → List ℕ → Told → Told → Type 0
Steps (Ok End) buffer left after = Unit {0}
Steps (Ok (More n)) buffer left after = (0 < n) × (n ≤ length buffer) × Brings (take n buffer) left after
Steps (Ok Certain) buffer left after = Unit {0}
Steps (Err fault) buffer left after = Unit {0}

-- what came of asking for more behind these bytes: nothing is left; or a piece was fed, and the verdict is not certain or is
abbrev pub Feeds : InstanceValue → List TypeValue → List ℕ → List ℕ → Result Step IoFault → JudgeValue → Told → Told → Type 0
Feeds I g bytes buffer (Ok End) new left after = IsFed I g bytes new × IfSome left (λ rest. (rest ≡ []) × (after ≡ Some []))
Feeds I g bytes buffer (Ok (More n)) new left after = IsFed I g (bytes ++ take n buffer) new × (length (bytes ++ take n buffer) ≤ MAX_CERT)
Feeds I g bytes buffer (Ok Certain) new left after = (piece : List ℕ) × IsDecided I g (bytes ++ piece) × IsFed I g (bytes ++ piece) new × Brings piece left after
Feeds I g bytes buffer (Err Failed) new left after = IsFed I g bytes new × (after ≡ left)
Feeds I g bytes buffer (Err Memory) new left after = Unit {0}

-- how far a text was read to a judge that was fed nothing before: so many bytes, no more than there may be
pub record HasFedUpTo (first now : JudgeValue) (taken : ℕ) (held left : Told) : Type 0 where
  pub bytes : List ℕ
  pub count : length bytes ≡ taken
  pub most : taken ≤ MAX_CERT + 1
  pub fed : (I : InstanceValue) (g : List TypeValue) → IsFed I g [] first → IsFed I g bytes now × (taken ≤ MAX_CERT)
  pub read : IsReadUpTo held left bytes

-- the verdict on these bytes, where it is certain; else nothing is wrong so far
abbrev pub Breaks : InstanceValue → List TypeValue → List ℕ → Result Verdict IoFault → Type 0
Breaks I g bytes (Ok verdict) = IsCertain I g bytes verdict
Breaks I g bytes (Err Failed) = IsSound I g bytes
Breaks I g bytes (Err Memory) = Unit {0}

-- the bytes are all of a text, or enough of it
abbrev pub IsEnough : InstanceValue → List TypeValue → List ℕ → List ℕ → Type 0
IsEnough I g bytes all = (all ≡ bytes) ⊎ (IsDecided I g bytes × ((rest : List ℕ) × (all ≡ bytes ++ rest)))

-- what reading comes to: a judge that was fed enough; or a read failed, behind bytes whose verdict is certain, or in which nothing
-- is wrong
abbrev pub ReadsOut : InstanceValue → List TypeValue → Result (Option Verdict) IoFault → JudgeValue → Told → Told → Type 0
ReadsOut I g (Ok None) new left after = (bytes : List ℕ) × IsFed I g bytes new × IfSome left (IsEnough I g bytes)
ReadsOut I g (Ok (Some verdict)) new left after = (bytes : List ℕ) × IsCertain I g bytes verdict × IfSome left (λ all. (rest : List ℕ) × (all ≡ bytes ++ rest))
ReadsOut I g (Err Failed) new left after = (bytes : List ℕ) × IsSound I g bytes × Brings bytes left after
ReadsOut I g (Err Memory) new left after = Unit {0}

-- the count of failed reads is as before, unless one failed
abbrev pub CountsRead : Result (Option Verdict) IoFault → ℕ → ℕ → Type 0
CountsRead (Ok None) before after = after ≡ before
CountsRead (Ok (Some verdict)) before after = Rose before after
CountsRead (Err Failed) before after = Rose before after
CountsRead (Err Memory) before after = (after ≡ before) ⊎ Rose before after

-- the verdict on the bytes that the judge was fed
abbrev pub Concludes : JudgeValue → Result Verdict IoFault → Type 0
Concludes s result = (I : InstanceValue) (g : List TypeValue) (bytes : List ℕ) → IsFed I g bytes s → MatchResult result (IsVerdict I g bytes) (λ fault. fault ≡ Memory)

-- how the text was read: without a failed read where it is accepted
abbrev pub ReadsJudged : Verdict → List ℕ → ShelfSeen → ShelfSeen → Type 0
ReadsJudged (Shown claim) name before after = HasRead name MAX_CERT before after
ReadsJudged (Faulty number cause) name before after = HasTaken name MAX_CERT before after
ReadsJudged TooLong name before after = HasTaken name MAX_CERT before after

-- nothing is left, since a start was refused; or some first bytes were taken, and nothing is wrong in them
abbrev pub StopsSound : InstanceValue → List TypeValue → List ℕ → ShelfSeen → ShelfSeen → Type 0
StopsSound I g name before after = LeavesNothing before after ⊎ IfSome (before.held name) (λ bytes. (n : ℕ) × (after.left ≡ Some (drop n bytes)) × IsSound I g (take n bytes))

-- the verdict on the text under the name; or a read failed, and nothing is wrong before it
abbrev pub Judged : InstanceValue → List TypeValue → List ℕ → Result Verdict IoFault → ShelfSeen → ShelfSeen → Type 0
Judged I g name (Ok verdict) before after = IfSome (before.held name) (λ bytes. IsVerdict I g bytes verdict) × ReadsJudged verdict name before after
Judged I g name (Err Failed) before after = HasFailed name MAX_CERT before after × StopsSound I g name before after
Judged I g name (Err Memory) before after = MayHaveRead name MAX_CERT before after

-- what is shown is so
abbrev pub IsSo : InstanceValue → Verdict → Type 0
IsSo I (Shown claim) = Shows I claim
IsSo I (Faulty number cause) = Unit {0}
IsSo I TooLong = Unit {0}

-- what is said of a certificate of this name, by its verdict
abbrev pub Tells : List ℕ → Verdict → Result Report WorkFault → Type 0
Tells name (Shown claim) (Ok report) = (report.text ≡ claim_text claim) × (report.status ≡ Done) × (report.made ≡ None) × (report.certificate ≡ None)
Tells name (Shown claim) (Err fault) = fault ≡ work.Memory
Tells name (Faulty number cause) (Ok report) = ⊥
Tells name (Faulty number cause) (Err fault) = (fault ≡ work.Rejected (faulty_line name number cause) BadCertificate) ⊎ (fault ≡ work.Memory)
Tells name TooLong (Ok report) = ⊥
Tells name TooLong (Err fault) = (fault ≡ work.Rejected (long_line name) BadCertificate) ⊎ (fault ≡ work.Memory)

-- a certificate of this name could not be read, or memory was wanting for that or for the name
abbrev pub Stops : List ℕ → IoFault → WorkFault → Type 0
Stops name Failed (work.Unread unread) = string_bytes unread ≡ name
Stops name Memory (work.Unread unread) = ⊥
Stops name fault (work.Large t) = ⊥
Stops name fault work.LargeJoint = ⊥
Stops name fault (work.Rejected line status) = ⊥
Stops name fault work.Memory = Unit {0}

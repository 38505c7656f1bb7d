-- What a checker is seen as, and what its calls answer and leave.
use Rattle.std.specs.Prelude.{◌≡◌, ◌⊎◌, ℕ, ◌+◌, List, Option, None, Some, Result, Ok, Err, true, false}
use Rattle.packing_laws.specs.Instances.{InstanceValue}
use Rattle.flow_graph.specs.Arcs.{TypeValue}
use Rattle.cert_text.specs.declared.lines.Claim.{Claim}
use Rattle.cert_text.specs.declared.lines.CertLine.{CertLine}
use Rattle.cert_laws.specs.declared.causes.Cause.{Cause}
use Rattle.cert_laws.specs.declared.causes.Cause.TheVariants.{Unfinished}
use Rattle.cert_laws.specs.Rules.{Progress, after_line, after_lines, at_start, AreAccepted, IsAccepted, IsRefused, IsFirstRefused}
use Rattle.cert_checker.specs.declared.faults.CheckFault.{CheckFault}
use Rattle.cert_checker.specs.Faults.{refusal_of}

-- the instance and its graph, what the accepted lines have told, and the line that was refused, if one was
pub record CheckerValue : Type 0 where
  pub instance : InstanceValue
  pub graph : List TypeValue
  pub progress : Progress
  pub refusal : Option (ℕ × Cause)

-- lines that were accepted one after the other lead here
abbrev pub IsReached : InstanceValue → List TypeValue → Progress → Type 0
IsReached I g p = (lines : List CertLine) × AreAccepted I g (at_start I g) lines × (p ≡ after_lines (at_start I g) lines)

-- one more line is accepted
abbrev pub after_accepted : CheckerValue → CertLine → CheckerValue
after_accepted s line = record { instance = s.instance; graph = s.graph; progress = after_line s.progress line; refusal = s.refusal }

-- a line is refused
abbrev pub after_refused : CheckerValue → ℕ × Cause → CheckerValue
after_refused s refusal = record { instance = s.instance; graph = s.graph; progress = s.progress; refusal = Some refusal }

-- the next line is refused as this number, for this cause
abbrev pub IsNextRefused : CheckerValue → CertLine → ℕ × Cause → Type 0
IsNextRefused s line refusal = (s.refusal ≡ None) × (refusal.0 ≡ s.progress.count + 1) × IsRefused s.instance s.graph s.progress line refusal.1

-- a fault of a call with a line: want of memory, and then nothing has changed; or a refusal, which stays: the earlier one, or
-- that of this line
abbrev pub IsStepFault : CheckerValue → CertLine → Option (ℕ × Cause) → CheckerValue → Type 0
IsStepFault old line None new = (old.refusal ≡ None) × (new ≡ old)
IsStepFault old line (Some refusal) new = ((old.refusal ≡ Some refusal) ⊎ IsNextRefused old line refusal) × (new ≡ after_refused old refusal)

-- what a call with a line answers and leaves
abbrev pub IsStepped : CheckerValue → CertLine → Result (Unit {0}) CheckFault → CheckerValue → Type 0
IsStepped old line (Ok done) new = (old.refusal ≡ None) × IsAccepted old.instance old.graph old.progress line × (new ≡ after_accepted old line)
IsStepped old line (Err fault) new = IsStepFault old line (refusal_of fault) new

-- some more lines are accepted
abbrev pub after_all_accepted : CheckerValue → List CertLine → CheckerValue
after_all_accepted s lines = record { instance = s.instance; graph = s.graph; progress = after_lines s.progress lines; refusal = s.refusal }

-- one of the next lines is the first that is refused, as this number and for this cause; those before it are accepted, and count
pub record IsOneRefused (old : CheckerValue) (lines : List CertLine) (refusal : ℕ × Cause) (new : CheckerValue) : Type 0 where
  pub free : old.refusal ≡ None
  pub first : IsFirstRefused old.instance old.graph old.progress lines refusal.0 refusal.1
  pub left : new ≡ after_refused (after_all_accepted old first.before) refusal

-- a fault of a call with several lines: want of memory, and then none of them counts; or a refusal, which stays: the earlier one,
-- or that of the first of them that is refused
abbrev pub IsBatchFault : CheckerValue → List CertLine → Option (ℕ × Cause) → CheckerValue → Type 0
IsBatchFault old lines None new = (old.refusal ≡ None) × (new ≡ old)
IsBatchFault old lines (Some refusal) new = ((old.refusal ≡ Some refusal) × (new ≡ old)) ⊎ IsOneRefused old lines refusal new

-- what a call with several lines answers and leaves, also with none
abbrev pub IsSteppedBy : CheckerValue → List CertLine → Result (Unit {0}) CheckFault → CheckerValue → Type 0
IsSteppedBy old lines (Ok done) new = (old.refusal ≡ None) × AreAccepted old.instance old.graph old.progress lines × (new ≡ after_all_accepted old lines)
IsSteppedBy old lines (Err fault) new = IsBatchFault old lines (refusal_of fault) new

-- what the last call answers: the earlier refusal; or boxes are left where no end was accepted, at the line after the last;
-- or the claim
abbrev pub IsFinished : CheckerValue → Result Claim CheckFault → Type 0
IsFinished s (Ok claim) = (s.refusal ≡ None) × (s.progress.ended ≡ true) × (claim ≡ s.progress.claim)
IsFinished s (Err fault) = ((s.refusal ≡ None → ⊥) × (refusal_of fault ≡ s.refusal)) ⊎ ((s.refusal ≡ None) × (s.progress.ended ≡ false) × (refusal_of fault ≡ Some (s.progress.count + 1, Unfinished)))

-- Lines that wait to be judged together.
use Rattle.std.specs.Prelude.{◌≡◌, List, ◌++◌, None, Result, Ok, Err, IfSome}
use Rattle.packing_laws.specs.Instances.{InstanceValue}
use Rattle.flow_graph.specs.Arcs.{TypeValue}
use Rattle.cert_text.specs.declared.lines.CertLine.{CertLine}
use Rattle.cert_laws.specs.Rules.{Progress, after_lines, AreAccepted, IsFirstRefused}
use Rattle.cert_checker.specs.declared.faults.CheckFault.{CheckFault}
use Rattle.cert_checker.specs.Checkers.{CheckerValue}
use Rattle.cert_checker.specs.Faults.{refusal_of}
use Rattle.cert_stream.specs.declared.verdict.Verdict.{Verdict}
use Rattle.cert_stream.specs.declared.stage.Stage.{Stage}
use Rattle.cert_stream.specs.inner.Stages.{stage_behind}

-- how the checker stands, and the lines that wait behind those that it has taken
pub record BatchValue : Type 0 where
  pub checker : CheckerValue
  pub lines : List CertLine

-- a checker that has refused nothing
abbrev pub begun : InstanceValue → List TypeValue → Progress → CheckerValue
begun I g p = record { instance = I; graph = g; progress = p; refusal = None }

-- lines that a checker has accepted, one after the other
pub record HasAccepted (old : CheckerValue) (lines : List CertLine) (new : CheckerValue) : Type 0 where
  pub accepted : AreAccepted old.instance old.graph old.progress lines
  pub left : new ≡ begun old.instance old.graph (after_lines old.progress lines)

-- what a checker that has refused nothing answers to some lines
abbrev pub IsJudged : CheckerValue → List CertLine → Result (Unit {0}) CheckFault → CheckerValue → Type 0
IsJudged old lines (Ok done) new = HasAccepted old lines new
IsJudged old lines (Err fault) new = IfSome (refusal_of fault) (λ r. IsFirstRefused old.instance old.graph old.progress lines r.0 r.1)

-- of the lines that waited and some more the first are accepted now, and the others wait
pub record IsPassedOn (old : BatchValue) (more : List CertLine) (new : BatchValue) : Type 0 where
  pub judged : List CertLine
  pub accepted : HasAccepted old.checker judged new.checker
  pub lines : old.lines ++ more ≡ judged ++ new.lines

-- all lines that wait are judged, and then this is answered, unless one of them is refused
abbrev pub IsStopped : BatchValue → Verdict → Stage → Type 0
IsStopped old verdict stage = (result : Result (Unit {0}) CheckFault) × (left : CheckerValue) × IsJudged old.checker old.lines result left × (stage ≡ stage_behind result verdict)

-- some more lines come to those that wait: some of them are accepted, or the first that is refused is answered
abbrev pub IsMoved : BatchValue → List CertLine → Result (Unit {0}) CheckFault → BatchValue → Type 0
IsMoved old more (Ok done) new = IsPassedOn old more new
IsMoved old more (Err fault) new = IfSome (refusal_of fault) (λ r. IsFirstRefused old.checker.instance old.checker.graph old.checker.progress (old.lines ++ more) r.0 r.1)

-- Lines that are judged one after the other, and how they leave a standing.
use Rattle.std.specs.Prelude.{◌≡◌, List, ◌∷◌, ◌++◌, Option, None, Some}
use Rattle.packing_laws.specs.Instances.{InstanceValue}
use Rattle.flow_graph.specs.Arcs.{TypeValue}
use Rattle.cert_text.specs.declared.lines.CertLine.{CertLine}
use Rattle.cert_laws.specs.declared.causes.Cause.{Cause}
use Rattle.cert_laws.specs.Rules.{after_lines, AreAccepted, IsRefused}
use Rattle.cert_checker.specs.inner.Standing.{StandingValue}

-- behind some lines
abbrev pub behind : StandingValue → List CertLine → StandingValue
behind s lines = record { root = s.root; progress = after_lines s.progress lines }

-- one of the lines is the first that is refused, and those before it count
pub record IsRefusedAmong (I : InstanceValue) (g : List TypeValue) (old : StandingValue) (lines : List CertLine) (fault : Cause) (new : StandingValue) : Type 0 where
  pub before : List CertLine
  pub line : CertLine
  pub after : List CertLine
  pub all : lines ≡ before ++ line ∷ after
  pub accepted : AreAccepted I g old.progress before
  pub refused : IsRefused I g (after_lines old.progress before) line fault
  pub left : new ≡ behind old before

-- lines were told: all were accepted and count, or one was refused
abbrev pub AreTold : InstanceValue → List TypeValue → StandingValue → List CertLine → Option Cause → StandingValue → Type 0
AreTold I g old lines None new = AreAccepted I g old.progress lines × (new ≡ behind old lines)
AreTold I g old lines (Some fault) new = IsRefusedAmong I g old lines fault new

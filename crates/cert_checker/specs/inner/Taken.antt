-- Which lines a checker has taken.
use Rattle.std.specs.Prelude.{◌≡◌, List, [], ◌∷◌, ◌++◌, None, IfSome, length}
use Rattle.packing_laws.specs.Instances.{InstanceValue}
use Rattle.flow_graph.specs.Arcs.{TypeValue}
use Rattle.cert_text.specs.declared.lines.CertLine.{CertLine}
use Rattle.cert_text.specs.declared.lines.Certificate.{Certificate}
use Rattle.cert_text.specs.declared.lines.CertLine.TheVariants as cert
use Rattle.cert_laws.specs.Rules.{after_lines, at_start, AreAccepted, IsFirstRefused}
use Rattle.cert_checker.specs.declared.faults.CheckFault.{CheckFault}
use Rattle.cert_checker.specs.Checkers.{CheckerValue}
use Rattle.cert_checker.specs.Faults.{refusal_of}

-- the head and the claim of a certificate
abbrev pub head_lines : Certificate → List CertLine
head_lines c = cert.Head c.version ∷ cert.Claim c.claim c.goal ∷ []

-- these lines were accepted one after the other, and no line was refused
pub record HasTaken (I : InstanceValue) (g : List TypeValue) (lines : List CertLine) (s : CheckerValue) : Type 0 where
  pub instance : s.instance ≡ I
  pub graph : s.graph ≡ g
  pub free : s.refusal ≡ None
  pub accepted : AreAccepted I g (at_start I g) lines
  pub progress : s.progress ≡ after_lines (at_start I g) lines
  pub count : s.progress.count ≡ length lines

-- behind some lines one of these is refused first, whatever comes after them
abbrev pub IsTakenFault : InstanceValue → List TypeValue → List CertLine → List CertLine → CheckFault → Type 0
IsTakenFault I g before lines fault = (after : List CertLine) → IfSome (refusal_of fault) (λ r. IsFirstRefused I g (at_start I g) (before ++ (lines ++ after)) r.0 r.1)

-- Faults are exact: a line is accepted or refused for one cause, and a certificate has one first fault or none.
use Rattle.std.specs.Prelude.{◌≡◌, ℕ, List}
use Rattle.packing_laws.specs.Instances.{InstanceValue}
use Rattle.flow_graph.specs.Arcs.{TypeValue}
use Rattle.cert_text.specs.declared.lines.Claim.{Claim}
use Rattle.cert_text.specs.declared.lines.CertLine.{CertLine}
use Rattle.cert_laws.specs.declared.causes.Cause.{Cause}
use Rattle.cert_laws.specs.Rules.{Progress, IsAccepted, IsRefused}
use Rattle.cert_laws.specs.Shown.{IsCertified, IsFault}

-- no line is both accepted and refused, none is refused for two causes, what is certified has no fault, and no certificate has
-- two first faults
pub record FaultsAreExact : Type 0 where
  pub accepted : (I : InstanceValue) (g : List TypeValue) (p : Progress) (line : CertLine) (fault : Cause) → IsAccepted I g p line → IsRefused I g p line fault → ⊥
  pub one_cause : (I : InstanceValue) (g : List TypeValue) (p : Progress) (line : CertLine) (fault other : Cause) → IsRefused I g p line fault → IsRefused I g p line other → fault ≡ other
  pub certified : (I : InstanceValue) (g : List TypeValue) (lines : List CertLine) (claim : Claim) (number : ℕ) (fault : Cause) → IsCertified I g lines claim → IsFault I g lines number fault → ⊥
  pub one_fault : (I : InstanceValue) (g : List TypeValue) (lines : List CertLine) (n m : ℕ) (fault other : Cause) → IsFault I g lines n fault → IsFault I g lines m other → (n ≡ m) × (fault ≡ other)

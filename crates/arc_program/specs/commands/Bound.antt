-- What `bound` owes: a bound that needs no graph, and a certificate of it.
use Rattle.std.specs.Prelude.{◌≡◌, ℕ, Bool, true, false, List, Option, None}
use Rattle.std.specs.Option.{IsSomeAnd}
use Rattle.packing_laws.specs.Instances.{InstanceValue}
use Rattle.packing_laws.specs.Packings.{IsFloor}
use Rattle.flow_graph.specs.Arcs.{TypeValue, IsFlowGraph}
use Rattle.flow_graph.specs.Faithful.{IsFaithful}
use Rattle.cert_text.specs.declared.lines.Certificate.{Certificate}
use Rattle.cert_text.specs.declared.lines.Claim.TheVariants.{Bound}
use Rattle.cert_stream.specs.declared.verdict.Verdict.TheVariants.{Shown}
use Rattle.cert_stream.specs.Verdicts.{IsVerdict}
use Rattle.cert_text.specs.Spelling.{certificate_text_of}
use Rattle.bound_certificates.specs.declared.found.FoundBound.{FoundBound}
use Rattle.bound_certificates.specs.FoundBounds.{IsFound, IsCertificateOf, IsAcceptedOver}
use Rattle.arc_program.specs.declared.status.Status.{Status}
use Rattle.arc_program.specs.declared.status.Status.TheVariants.{Done}
use Rattle.arc_program.specs.Reports.{bound_text}

-- the text is the report on the bound that is found from the weights alone, and no packing costs less
pub record IsBoundReport (I : InstanceValue) (status : Status) (text : List ℕ) : Type 0 where
  pub found : FoundBound
  pub is : IsFound I found
  pub floor : IsFloor I found.bound
  pub text_is : text ≡ bound_text found
  pub status_is : status ≡ Done

-- the bytes are the certificate of the bound that this report tells. It is accepted over every faithful graph of the instance, so over
-- that to which the instance is compiled, and the verdict on the bytes is this bound
pub record IsBoundCertificate (I : InstanceValue) (text bytes : List ℕ) : Type 0 where
  pub found : FoundBound
  pub is : IsFound I found
  pub text_is : text ≡ bound_text found
  pub certificate : Certificate
  pub told : IsCertificateOf I found certificate
  pub accepted : IsAcceptedOver I certificate found.bound
  pub bytes_are : bytes ≡ certificate_text_of certificate
  pub shown : (g : List TypeValue) → IsFlowGraph g → IsFaithful I g → IsVerdict I g bytes (Shown (Bound found.bound))

-- there is a certificate exactly where one is asked for
abbrev pub IsBoundCertificateIf : Bool → InstanceValue → List ℕ → Option (List ℕ) → Type 0
IsBoundCertificateIf false I text certificate = certificate ≡ None
IsBoundCertificateIf true I text certificate = IsSomeAnd certificate (IsBoundCertificate I text)

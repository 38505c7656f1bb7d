-- What the text of a certificate comes to that is written.
use Rattle.std.specs.Prelude.{◌≤◌, List, All, length}
use Rattle.arc_num.specs.declared.TheConstants.{MAX_CERT, MAX_SPLITS}
use Rattle.packing_laws.specs.Instances.{InstanceValue, IsInstance}
use Rattle.flow_graph.specs.Arcs.{TypeValue, IsFlowGraph}
use Rattle.cert_text.specs.declared.lines.Certificate.{Certificate}
use Rattle.cert_text.specs.declared.lines.Claim.{Claim}
use Rattle.cert_text.specs.Lines.{lines_of}
use Rattle.cert_text.specs.Spelled.{IsNarrowLine}
use Rattle.cert_text.specs.Spelling.{certificate_text_of}
use Rattle.cert_laws.specs.Shown.{IsCertified}
use Rattle.cert_stream.specs.declared.verdict.Verdict.TheVariants.{Shown}
use Rattle.cert_stream.specs.Verdicts.{IsVerdict}
use Rattle.search_tree.specs.Trees.{HasFewParts, splits_in}

-- the text of a certificate whose lines are accepted has its claim as the verdict, where the numbers of its lines have 32 bits and
-- the text is no longer than a certificate may be
abbrev pub WrittenIsShown : Type 0
WrittenIsShown = (I : InstanceValue) (g : List TypeValue) (c : Certificate) (claim : Claim) → IsCertified I g (lines_of c) claim → All IsNarrowLine (lines_of c) → length (certificate_text_of c) ≤ MAX_CERT → IsVerdict I g (certificate_text_of c) (Shown claim)

-- over an instance and its graph the text of a certificate whose lines are accepted, with no more splits than a search makes, of which
-- no need has too many parts, is no longer than a certificate may be, and has its claim as the verdict
pub record FewSplitsAreShown : Type 0 where
  pub short : (I : InstanceValue) (g : List TypeValue) (c : Certificate) (claim : Claim) → IsInstance I → IsFlowGraph g → IsCertified I g (lines_of c) claim → splits_in c.lines ≤ MAX_SPLITS → All HasFewParts c.lines → length (certificate_text_of c) ≤ MAX_CERT
  pub shown : (I : InstanceValue) (g : List TypeValue) (c : Certificate) (claim : Claim) → IsInstance I → IsFlowGraph g → IsCertified I g (lines_of c) claim → splits_in c.lines ≤ MAX_SPLITS → All HasFewParts c.lines → IsVerdict I g (certificate_text_of c) (Shown claim)

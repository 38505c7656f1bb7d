-- The text of the certificate of a bound has the bound as its verdict.
use Rattle.std.proofs.Common.{◌≡◌, ◌≤◌, ℕ, List, [], ◌∷◌, All, sym, subst, arith, rules}
use Rattle.arc_num.specs.declared.TheConstants.{MAX_SPLITS}
use Rattle.packing_laws.specs.Instances.{InstanceValue, IsInstance}
use Rattle.flow_graph.specs.Arcs.{TypeValue, IsFlowGraph}
use Rattle.flow_graph.specs.Faithful.{IsFaithful}
use Rattle.cert_text.specs.declared.lines.Certificate.{Certificate}
use Rattle.cert_text.specs.declared.lines.Claim.TheVariants.{Bound}
use Rattle.cert_text.specs.declared.lines.TreeLine.{TreeLine}
use Rattle.cert_text.specs.declared.lines.TreeLine.TheVariants as line
use Rattle.cert_text.specs.Spelling.{certificate_text_of}
use Rattle.cert_stream.specs.declared.verdict.Verdict.TheVariants.{Shown}
use Rattle.cert_stream.specs.Verdicts.{IsVerdict}
use Rattle.search_tree.specs.Trees.{HasFewParts, splits_in}
use Rattle.written_verdicts.specs.Written.{FewSplitsAreShown}
use Rattle.bound_certificates.specs.declared.found.BoundKind.{BoundKind}
use Rattle.bound_certificates.specs.declared.found.BoundKind.TheVariants.{Step, Material}
use Rattle.bound_certificates.specs.declared.found.FoundBound.{FoundBound}
use Rattle.bound_certificates.specs.FoundBounds.{IsCertificateOf, IsAcceptedOver, IsTreeOf}

-- the one place of the tree splits nothing that counts, and carries no need
one_split : (l : TreeLine) → splits_in (l ∷ []) ≤ MAX_SPLITS
one_split (line.Split a k) = omega arith
one_split (line.Needed a k need) = omega arith
one_split (line.Leaf prices) = omega arith
one_split (line.Step dim step) = omega arith

few_parts : (I : InstanceValue) (kind : BoundKind) (l : TreeLine) → IsTreeOf I kind l → HasFewParts l
few_parts I (Step dim step) l is = subst HasFewParts (sym is) tt
few_parts I Material l is = subst HasFewParts (sym is.1) tt

pub bound_is_shown : FewSplitsAreShown → (I : InstanceValue) (found : FoundBound) (c : Certificate) → IsInstance I → IsCertificateOf I found c → IsAcceptedOver I c found.bound → (g : List TypeValue) → IsFlowGraph g → IsFaithful I g → IsVerdict I g (certificate_text_of c) (Shown (Bound found.bound))
bound_is_shown few I found c known told accepted g graph faithful =
    let parts : HasFewParts told.tree = few_parts I found.kind told.tree told.closes in
    few.shown I g c (Bound found.bound) known graph (accepted g graph faithful)
    (subst (λ (ls : List TreeLine). splits_in ls ≤ MAX_SPLITS) (sym told.lines) (one_split told.tree))
    (subst (λ (ls : List TreeLine). All HasFewParts ls) (sym told.lines) (search (parts, rules)))

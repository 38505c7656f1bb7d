-- The bound that is found from the weights alone, and its certificate.
use Rattle.std.specs.Prelude.{◌≡◌, ℕ, ◌<◌, ◌≤◌, min, List, [], ◌∷◌, Some}
use Rattle.arc_num.specs.declared.TheConstants.{MAX_PRICE}
use Rattle.packing_laws.specs.Instances.{InstanceValue, IsInstance}
use Rattle.packing_laws.specs.Floors.{material_of}
use Rattle.step_bounds.specs.declared.bounds.StepFound.{StepFound}
use Rattle.step_bounds.specs.Steps.{IsStepBound}
use Rattle.flow_graph.specs.Arcs.{TypeValue, IsFlowGraph}
use Rattle.flow_graph.specs.Faithful.{IsFaithful}
use Rattle.cert_text.specs.declared.lines.Certificate.{Certificate}
use Rattle.cert_text.specs.declared.lines.Claim.TheVariants.{Bound}
use Rattle.cert_text.specs.declared.lines.Prices.{Prices}
use Rattle.cert_text.specs.declared.lines.TreeLine.{TreeLine}
use Rattle.cert_text.specs.declared.lines.TreeLine.TheVariants as line
use Rattle.cert_text.specs.Lines.{lines_of}
use Rattle.cert_laws.specs.Shown.{IsCertified}
use Rattle.bound_certificates.specs.declared.found.BoundKind.{BoundKind}
use Rattle.bound_certificates.specs.declared.found.BoundKind.TheVariants.{Step, Material}
use Rattle.bound_certificates.specs.declared.found.FoundBound.{FoundBound}
use Rattle.bound_certificates.specs.MaterialPrices.{IsMaterialPrices}

-- a bound of a kind: the step bound where there is one that reaches the material bound; else the material bound, or the
-- greatest bound that can be claimed
abbrev pub IsBoundOf : InstanceValue → ℕ → BoundKind → Type 0
IsBoundOf I bound (Step dim step) = IsStepBound I (record { value = bound; dim = dim; step = step }) × (material_of I ≤ bound)
IsBoundOf I bound Material = ((f : StepFound) → IsStepBound I f → f.value < material_of I) × (bound ≡ min (material_of I) MAX_PRICE)

-- the bound that is found
abbrev pub IsFound : InstanceValue → FoundBound → Type 0
IsFound I found = IsBoundOf I found.bound found.kind

-- the one place of the tree: the step, or the material prices as a leaf
abbrev pub IsTreeOf : InstanceValue → BoundKind → TreeLine → Type 0
IsTreeOf I (Step dim step) l = l ≡ line.Step dim step
IsTreeOf I Material l = (p : Prices) × (l ≡ line.Leaf p) × IsMaterialPrices I p

-- the certificate of a bound, which is its goal too
pub record IsCertificateOf (I : InstanceValue) (found : FoundBound) (c : Certificate) : Type 0 where
  pub version : c.version ≡ 3
  pub claim : c.claim ≡ Bound found.bound
  pub goal : c.goal ≡ Some found.bound
  pub tree : TreeLine
  pub lines : c.lines ≡ tree ∷ []
  pub closes : IsTreeOf I found.kind tree

-- the lines of the certificate are accepted over every faithful graph
abbrev pub IsAcceptedOver : InstanceValue → Certificate → ℕ → Type 0
IsAcceptedOver I c bound = (g : List TypeValue) → IsFlowGraph g → IsFaithful I g → IsCertified I g (lines_of c) (Bound bound)

-- the certificate of a bound that is found is accepted over every faithful graph
abbrev pub FoundBoundsAreAccepted : Type 0
FoundBoundsAreAccepted = (I : InstanceValue) (found : FoundBound) (c : Certificate) → IsInstance I → IsFound I found → IsCertificateOf I found c → IsAcceptedOver I c found.bound

-- What is accepted over a faithful graph is so.
use Rattle.std.proofs.Common.{◌≤◌, List, refl, inl, subst, arith}
use Rattle.packing_laws.specs.Instances.{InstanceValue, IsInstance}
use Rattle.packing_laws.specs.Packings.{Bins, cost_of}
use Rattle.packing_laws.specs.Printed.{filled_bins, IsLeanPacking}
use Rattle.packing_laws.proofs.EmptyBins.{empty_bins_can_go}
use Rattle.step_bounds.proofs.StepLaw.{step_value-floor}
use Rattle.flow_graph.specs.Arcs.{TypeValue, IsFlowGraph}
use Rattle.flow_graph.specs.Faithful.{IsFaithful}
use Rattle.flow_graph.proofs.Potentials.{potentials_cancel}
use Rattle.flow_model.specs.Packed.{FlowOfPacking}
use Rattle.flow_model.proofs.BoxParts.{boxes_split}
use Rattle.flow_model.proofs.PackedFlows.{packings_are_flows}
use Rattle.flow_model.proofs.RootBoxes.{flows_lie_in_root}
use Rattle.flow_model.proofs.SignedFlows.{conserved_is_balanced}
use Rattle.cert_text.specs.declared.lines.Claim.{Claim}
use Rattle.cert_text.specs.declared.lines.Claim.TheVariants.{Bound, Empty}
use Rattle.cert_text.specs.declared.lines.CertLine.{CertLine}
use Rattle.cert_laws.specs.Rules.{ClaimsAtMost, at_start}
use Rattle.cert_laws.specs.Shown.{CertifiedIsSo, IsCertified, Shows}
use Rattle.cert_laws.proofs.AcceptedLines.{Laws, shown}

pub laws : Laws
laws = record {
  potentials = potentials_cancel;
  balanced = conserved_is_balanced;
  splits = boxes_split;
  steps = step_value-floor;
}

module _ (I : InstanceValue) (g : List TypeValue) (lines : List CertLine) (instance : IsInstance I) (graph : IsFlowGraph g) (faithful : IsFaithful I g) where
  -- the flow of a packing without empty bins lies in the root box
  lean_claims : (claim : Claim) → IsCertified I g lines claim → (Q : Bins) (P : Bins) → IsLeanPacking I P Q → ClaimsAtMost (cost_of I Q) claim
  lean_claims claim is Q P lean =
      let flow : FlowOfPacking I g Q = packings_are_flows I g Q instance graph faithful lean.packing lean.filled in
      subst (ClaimsAtMost (cost_of I Q)) is.told (shown laws I g graph Q lean.packing flow.values flow.flow flow.cost (at_start I g) lines refl (inl (flows_lie_in_root.flows I g flow.values flow.flow)) is.each is.whole)

  shows : (claim : Claim) → IsCertified I g lines claim → Shows I claim
  shows Empty is = λ P packing. lean_claims Empty is (filled_bins P) P (empty_bins_can_go I P packing)
  shows (Bound bound) is = λ P packing.
      let lean = empty_bins_can_go I P packing in
      let least : bound ≤ cost_of I (filled_bins P) = lean_claims (Bound bound) is (filled_bins P) P lean in
      let cost = lean.cost in
      omega (arith, least, cost)

pub certified_is_so : CertifiedIsSo
certified_is_so I g lines claim instance graph faithful is = shows I g lines instance graph faithful claim is

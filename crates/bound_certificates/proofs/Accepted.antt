-- The certificate of a bound that is found is accepted over every faithful graph.
use Rattle.std.proofs.Common.{◌≡◌, ℕ, ◌-◌, ◌≤◌, List, [], ◌∷◌, ◌++◌, map, refl, sym, subst, inl, inr, arith, Some, None}
use Rattle.arc_num.specs.declared.TheConstants.{MAX_PRICE, MAX_VALUE}
use Rattle.packing_laws.specs.declared.instances.BinType.{BinType}
use Rattle.packing_laws.specs.Instances.{InstanceValue, IsInstance}
use Rattle.packing_laws.specs.Floors.{room_in}
use Rattle.step_bounds.specs.Steps.{IsStep, step_value_of}
use Rattle.flow_graph.specs.Arcs.{TypeValue, IsFlowGraph}
use Rattle.flow_graph.specs.Faithful.{IsFaithful}
use Rattle.cert_text.specs.declared.lines.Certificate.{Certificate}
use Rattle.cert_text.specs.declared.lines.CertLine.{CertLine}
use Rattle.cert_text.specs.declared.lines.CertLine.TheVariants as cert
use Rattle.cert_text.specs.declared.lines.Claim.TheVariants.{Bound}
use Rattle.cert_text.specs.declared.lines.Prices.{Prices}
use Rattle.cert_text.specs.declared.lines.TreeLine.{TreeLine}
use Rattle.cert_text.specs.declared.lines.TreeLine.TheVariants as line
use Rattle.cert_text.specs.Lines.{lines_of}
use Rattle.cert_laws.specs.Rules.{IsAccepted, KeepsRule, Progress, after_line, at_start}
use Rattle.cert_laws.specs.Shown.{Closes, IsCertified}
use Rattle.cert_laws.proofs.Acceptances.{all_causes, claim_accepted, end_accepted, head_accepted}
use Rattle.flow_model.specs.Boxes.{root_ranges}
use Rattle.bound_certificates.specs.declared.found.BoundKind.{BoundKind}
use Rattle.bound_certificates.specs.declared.found.BoundKind.TheVariants.{Step, Material}
use Rattle.bound_certificates.specs.MaterialPrices.{ClosesAll}
use Rattle.bound_certificates.specs.FoundBounds.{FoundBoundsAreAccepted, IsBoundOf, IsCertificateOf, IsTreeOf}
use Rattle.bound_certificates.proofs.MaterialCloses.{material_prices_close}
use Rattle.bound_certificates.proofs.StepSizes.{step_value_small}

-- the lines of a certificate of version 3 with one place of the tree
abbrev four_lines : ℕ → TreeLine → List CertLine
four_lines least tree = cert.Head 3 ∷ cert.Claim (Bound least) (Some least) ∷ cert.Tree tree ∷ cert.End ∷ []

lines_are : (I : InstanceValue) (least : ℕ) (kind : BoundKind) (c : Certificate) → (is : IsCertificateOf I (record { bound = least; kind = kind }) c) → lines_of c ≡ four_lines least is.tree
lines_are I least kind c is = λ k. cert.Head (is.version k) ∷ cert.Claim (is.claim k) (is.goal k) ∷ (map (λ (l : TreeLine). cert.Tree l) (is.lines k) ++ cert.End ∷ [])

module _ (I : InstanceValue) (instance : IsInstance I) (g : List TypeValue) (graph : IsFlowGraph g) (faithful : IsFaithful I g) (least : ℕ) (fits : least ≤ MAX_PRICE) where
  -- behind the claim, with the root box open
  abbrev claimed : Progress
  claimed = after_line (after_line (at_start I g) (cert.Head 3)) (cert.Claim (Bound least) (Some least))

  step_accepted : (d L : ℕ) → IsStep I d L → least ≤ step_value_of I d L → IsAccepted I g claimed (cert.Tree (line.Step d L))
  step_accepted d L step reached =
      let dims = instance.dims.1 in
      let nothing : BinType = record { cap = []; cost = 0; limit = None } in
      let own = (instance.types 0 nothing (let some = instance.type_count.0 in omega (arith, some))).capacity in
      let size = own.size in
      let dim = step.dim in
      let half = step.half in
      let small : room_in I d 1 ≤ MAX_VALUE = own.small (d - 1) 0 (omega (arith, size, dim.0, dim.1)) in
      all_causes (KeepsRule I g claimed (cert.Tree (line.Step d L))) g (inr (omega arith, (omega arith, (dim.0, omega (arith, dim.1, dims)), omega (arith, half, small)))) (refl, omega arith) tt tt tt tt tt step (λ t among. tt) reached

  leaf_accepted : (p : Prices) → ClosesAll I p least → IsAccepted I g claimed (cert.Tree (line.Leaf p))
  leaf_accepted p all =
      let closes : Closes I g p (root_ranges I g) (Bound least) = all.closes g graph faithful (root_ranges I g) in
      all_causes (KeepsRule I g claimed (cert.Tree (line.Leaf p))) g (inr (omega arith, all.prices)) (refl, omega arith) tt all.items (all.arcs g) tt tt tt closes.gains closes.strong

  head_and_claim : IsAccepted I g (at_start I g) (cert.Head 3) × IsAccepted I g (after_line (at_start I g) (cert.Head 3)) (cert.Claim (Bound least) (Some least))
  head_and_claim = (
    head_accepted I g (at_start I g) refl 3 refl (omega arith, omega arith),
    claim_accepted I g (after_line (at_start I g) (cert.Head 3)) refl (Bound least) (Some least) refl fits (omega arith, inl refl),
  )

  step_certified : (d L : ℕ) → IsStep I d L → least ≤ step_value_of I d L → IsCertified I g (four_lines least (line.Step d L)) (Bound least)
  step_certified d L step reached = record {
    each = (head_and_claim.0, (head_and_claim.1, (step_accepted d L step reached, (end_accepted I g (after_line claimed (cert.Tree (line.Step d L))) refl (omega arith) refl, tt))));
    whole = refl;
    told = refl;
  }

  leaf_certified : (p : Prices) → ClosesAll I p least → IsCertified I g (four_lines least (line.Leaf p)) (Bound least)
  leaf_certified p all = record {
    each = (head_and_claim.0, (head_and_claim.1, (leaf_accepted p all, (end_accepted I g (after_line claimed (cert.Tree (line.Leaf p))) refl (omega arith) refl, tt))));
    whole = refl;
    told = refl;
  }

tree_certified : (I : InstanceValue) → IsInstance I → (g : List TypeValue) → IsFlowGraph g → IsFaithful I g → (least : ℕ) (kind : BoundKind) (tree : TreeLine) → IsBoundOf I least kind → IsTreeOf I kind tree → IsCertified I g (four_lines least tree) (Bound least)
tree_certified I instance g graph faithful least (Step d L) tree found is =
    let value = found.0.value in
    let small = step_value_small I instance d L in
    subst (λ (l : TreeLine). IsCertified I g (four_lines least l) (Bound least)) (sym is)
    (step_certified I instance g graph faithful least (omega (arith, value, small)) d L found.0.step (omega (arith, value)))
tree_certified I instance g graph faithful least Material tree found is =
    let value = found.1 in
    subst (λ (l : TreeLine). IsCertified I g (four_lines least l) (Bound least)) (sym is.1)
    (leaf_certified I instance g graph faithful least (omega (arith, value)) is.0 (material_prices_close I is.0 least instance is.2 (omega (arith, value))))

pub found_bounds_are_accepted : FoundBoundsAreAccepted
found_bounds_are_accepted I found c instance is certificate g graph faithful =
    subst (λ (lines : List CertLine). IsCertified I g lines (Bound found.bound)) (sym (lines_are I found.bound found.kind c certificate))
    (tree_certified I instance g graph faithful found.bound found.kind certificate.tree is certificate.closes)

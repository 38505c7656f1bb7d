use Rattle.std.proofs.Common.{◌+◌, ◌∙◌, ℕ, List, arith, sym, ap, subst}
use Rattle.packing_laws.specs.Instances.{item_at}
use Rattle.pattern_extract.specs.Trims.{surplus_at}
use Rattle.joint_extract.specs.JointExtracts.{IsPackingOf}
use Rattle.joint_extract.proofs.Bounded.{value-small}
use Rattle.joint_extract.proofs.Packed.{packing-made}
use Rattle.joint_extract.proofs.extracts.packing_of.Goals as goal

pub flow_bins-requires-clause-small : goal.flow_bins-requires-clause-small
flow_bins-requires-clause-small c k =
    let small = value-small c.args.instance.now c.args.graph.now c.args.values.now c.known.ensures c.requires.flow k in
    omega (arith, small)

pub trim-requires-clause-bins : goal.trim-requires-clause-bins
trim-requires-clause-bins c = c.in_ok-bins.ensures.used c.args.instance.now c.requires.faithful

pub trim-requires-clause-units : goal.trim-requires-clause-units
trim-requires-clause-units c i among =
    let value = c.in_ok-surplus.ensures.value i among in
    sym (c.in_ok-bins.ensures.units i) ∙ value ∙ ap (λ (surplus : List ℕ). (item_at c.args.instance.now i).demand + surplus_at surplus i) (sym c.as_mut_slice.ensures.value)

pub returns : goal.returns
returns c =
    subst (IsPackingOf c.args.instance.now c.args.graph.now c.args.values.now) (sym c.new.ensures)
    (packing-made c.args.instance.now c.args.graph.now c.args.values.now c.in_ok-bins.bins.items c.in_ok-bins-2.bins.items c.requires.faithful c.requires.flow c.in_ok-bins.ensures c.in_ok-bins-2.ensures)

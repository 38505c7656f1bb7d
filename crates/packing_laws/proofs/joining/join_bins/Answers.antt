-- The joined bins in the printed form.
use Rattle.std.proofs.Common.{◌≡◌, ◌≤◌, List, ap, sym, subst, arith}
use Rattle.packing_laws.specs.declared.packings.Bin.{Bin}
use Rattle.packing_laws.specs.Instances.{InstanceValue}
use Rattle.packing_laws.specs.Packings.{cost_of}
use Rattle.packing_laws.specs.Printed.{bins_of, SumsFit, IsWrittenPacking}
use Rattle.packing_laws.specs.inner.Joining.{AreJoined}
use Rattle.packing_laws.proofs.JoinedBins.{tidied-joined}
use Rattle.packing_laws.proofs.joining.join_bins.Goals as goal

pub tidy-requires : goal.tidy-requires
tidy-requires c = subst SumsFit (sym c.new-joined.ensures) (c.packings_fit.ensures c.args.instance.now c.in_ok-bins.bins.items c.known.ensures c.in_ok-bins.ensures.packing)

pub returns-clause-packing : goal.returns-clause-packing
returns-clause-packing c = c.in_ok-tidy.ensures.packing c.args.instance.now (subst (IsWrittenPacking c.args.instance.now) (sym c.new-joined.ensures) c.in_ok-bins.ensures.packing)

pub returns-clause-cost : goal.returns-clause-cost
returns-clause-cost c =
    let I : InstanceValue = c.args.instance.now in
    let last : cost_of I (bins_of c.tidy.new.packing) ≤ cost_of I (bins_of c.new-joined.result) = c.in_ok-tidy.ensures.cost I in
    let same : cost_of I (bins_of c.new-joined.result) ≡ cost_of I (bins_of c.in_ok-bins.bins.items) = ap (λ (l : List Bin). cost_of I (bins_of l)) c.new-joined.ensures in
    let first : cost_of I (bins_of c.in_ok-bins.bins.items) ≤ cost_of I (bins_of c.in_ok-copied.field-0.items) = c.in_ok-bins.ensures.cost in
    let start : cost_of I (bins_of c.in_ok-copied.field-0.items) ≡ cost_of I (bins_of c.args.packing.now) = ap (λ (l : List Bin). cost_of I (bins_of l)) c.in_ok-copied.ensures in
    omega (arith, last, same, first, start)

pub returns-clause-joined : goal.returns-clause-joined
returns-clause-joined c =
    let I : InstanceValue = c.args.instance.now in
    tidied-joined I c.new-joined.result c.tidy.new.packing
    (subst (IsWrittenPacking I) (sym c.new-joined.ensures) c.in_ok-bins.ensures.packing)
    (subst (AreJoined I) (sym c.new-joined.ensures) c.in_ok-bins.ensures.joined)
    c.in_ok-tidy.ensures.tidied

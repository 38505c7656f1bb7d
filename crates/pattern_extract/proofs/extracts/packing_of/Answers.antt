use Rattle.std.proofs.Common.{◌≡◌, ◌+◌, ◌<◌, ◌^◌, ◌∙◌, ℕ, List, All, map, sym, ap, subst}
use Rattle.packing_laws.specs.declared.packings.Bin.{Bin}
use Rattle.packing_laws.specs.Instances.{item_at}
use Rattle.pattern_extract.specs.declared.runs.PathRun.{PathRun}
use Rattle.pattern_extract.specs.Trims.{held, surplus_at, IsUsedBin, MeetDemands}
use Rattle.pattern_extract.specs.Extracts.{bin_of, IsPackingOf}
use Rattle.pattern_extract.proofs.Extracting.{runs-small, runs-fit, runs-carry, packing-made}
use Rattle.pattern_extract.proofs.extracts.packing_of.Goals as goal

pub run_bins-requires-clause-times : goal.run_bins-requires-clause-times
run_bins-requires-clause-times c =
    subst (All (λ (run : PathRun). run.times < 2 ^ 32)) (sym c.as_slice.ensures.value)
    (runs-small c.args.instance.now c.args.graph.now c.args.values.now c.in_ok-runs.runs.items c.known.ensures c.requires.flow c.in_ok-runs.ensures.runs)

pub trim-requires-clause-bins : goal.trim-requires-clause-bins
trim-requires-clause-bins c =
    let same : c.in_ok-bins.bins.items ≡ map (bin_of c.args.graph.now) c.in_ok-runs.runs.items = c.in_ok-bins.ensures ∙ ap (map (bin_of c.args.graph.now)) c.as_slice.ensures.value in
    subst (All (IsUsedBin c.args.instance.now)) (sym same) (runs-fit c.args.instance.now c.args.graph.now c.in_ok-runs.runs.items c.requires.faithful c.in_ok-runs.ensures.runs.each)

pub trim-requires-clause-units : goal.trim-requires-clause-units
trim-requires-clause-units c i among =
    let same : c.in_ok-bins.bins.items ≡ map (bin_of c.args.graph.now) c.in_ok-runs.runs.items = c.in_ok-bins.ensures ∙ ap (map (bin_of c.args.graph.now)) c.as_slice.ensures.value in
    let carried = runs-carry c.args.graph.now c.args.values.now c.in_ok-runs.runs.items i c.in_ok-runs.ensures.runs in
    let value = c.in_ok-surplus.ensures.value i among in
    ap (held i) same ∙ carried ∙ value ∙ ap (λ (surplus : List ℕ). (item_at c.args.instance.now i).demand + surplus_at surplus i) (sym c.as_mut_slice.ensures.value)

pub returns : goal.returns
returns c =
    let same : c.in_ok-bins.bins.items ≡ map (bin_of c.args.graph.now) c.in_ok-runs.runs.items = c.in_ok-bins.ensures ∙ ap (map (bin_of c.args.graph.now)) c.as_slice.ensures.value in
    let met = subst (λ (bins : List Bin). MeetDemands c.args.instance.now bins c.in_ok-bins-2.bins.items) same c.in_ok-bins-2.ensures in
    subst (IsPackingOf c.args.instance.now c.args.graph.now c.args.values.now) (sym c.new.ensures)
    (packing-made c.args.instance.now c.args.graph.now c.args.values.now c.in_ok-runs.runs.items c.in_ok-bins-2.bins.items c.known-2.ensures c.requires.faithful c.requires.flow c.in_ok-runs.ensures.runs met)

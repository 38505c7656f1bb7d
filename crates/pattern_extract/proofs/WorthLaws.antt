-- Each flow is worth a packing.
use Rattle.std.proofs.Common.{◌≡◌, ℕ, ◌≤◌, List, length, map, arith, All}
use Rattle.std.proofs.lemmas.List.Elements.{All-map}
use Rattle.packing_laws.specs.declared.packings.Bin.{Bin as Alike}
use Rattle.packing_laws.specs.Instances.{IsAmong, item_at}
use Rattle.packing_laws.specs.Printed.{bins_of}
use Rattle.pattern_extract.specs.declared.runs.PathRun.{PathRun}
use Rattle.pattern_extract.specs.inner.Walks.{weigh}
use Rattle.pattern_extract.specs.Trims.{held, IsUsedBin}
use Rattle.pattern_extract.specs.Extracts.{bin_of}
use Rattle.pattern_extract.specs.Worth.{FlowsArePackings}
use Rattle.pattern_extract.proofs.Extracting.{runs-fit, runs-carry, packing-made}
use Rattle.pattern_extract.proofs.UnitRuns.{unit-runs}
use Rattle.pattern_extract.proofs.UnitTrims.{unit-trims}

pub flows_are_packings : FlowsArePackings
flows_are_packings I g values instance graph faithful flow =
    let found = unit-runs g values (weigh (λ k. 1) values) graph flow.size flow.nodes (omega arith) in
    let runs : List PathRun = found.0 in
    let all = found.1.hold in
    let bins : List Alike = map (bin_of g) runs in
    let used : All (IsUsedBin I) bins = runs-fit I g runs faithful all.each in
    let once : All (λ b. b.times ≡ 1) bins = All-map (λ b. b.times ≡ 1) (bin_of g) runs found.1.once in
    let served : (i : ℕ) → IsAmong i (length I.items) → (item_at I i).demand ≤ held i bins = λ i among. let carried = runs-carry g values runs i all in let most = flow.demands i among in omega (arith, carried, most) in
    let trimmed = unit-trims I bins used once served in
    let made = packing-made I g values runs trimmed.0 graph faithful flow all trimmed.1 in
    record { bins = bins_of trimmed.0; packing = made.packing.packing; cost = made.cost }

-- All bins are counted.
use Rattle.std.proofs.Common.{◌≡◌, List, take, sum_by, ◌*◌, sym, ap, ◌∙◌}
use Rattle.std.proofs.lemmas.List.{take_all}
use Rattle.packing_laws.specs.declared.packings.Bin.{Bin}
use Rattle.packing_laws.specs.Packings.{cost_at}
use Rattle.packing_laws.proofs.WrittenSums.{cost_of-bins_of}
use Rattle.packing_laws.proofs.costs.cost.Goals as goal

pub returns : goal.returns
returns c =
    let bins : List Bin = c.bins-bin-items.result.now in
    let whole : take c.loop-bin.bin-index bins ≡ c.args.packing.now = take_all c.loop-bin.bin-index bins c.loop-bin-test.false ∙ c.bins-bin-items.ensures in
    c.loop-bin.invariant.sum ∙ ap (λ (xs : List Bin). sum_by (λ b. b.times * cost_at c.args.instance.now b.bin_type) xs) whole ∙ sym (cost_of-bins_of c.args.instance.now c.args.packing.now)

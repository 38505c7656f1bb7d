-- All bins are counted.
use Rattle.std.proofs.Common.{◌≡◌, List, take, sum_by, ◌*◌, ◌==◌, cond, sym, ap, ◌∙◌}
use Rattle.std.proofs.lemmas.List.{take_all}
use Rattle.packing_laws.specs.declared.packings.Bin.{Bin}
use Rattle.packing_laws.proofs.WrittenPackings.{used_of-bins_of}
use Rattle.packing_laws.proofs.checks.used.Goals as goal

pub returns : goal.returns
returns c =
    let bins : List Bin = c.args.bins.now in
    let whole : take c.loop-bin.bin-index bins ≡ bins = take_all c.loop-bin.bin-index bins c.loop-bin-test.false in
    c.loop-bin.invariant.sum ∙ ap (λ (xs : List Bin). sum_by (λ b. b.times * cond (b.bin_type == c.args.t) 1 0) xs) whole ∙ sym (used_of-bins_of c.args.t bins)

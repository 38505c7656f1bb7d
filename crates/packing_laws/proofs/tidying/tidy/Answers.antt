-- The lines in order, merged, are the printed form.
use Rattle.std.proofs.Common.{◌≡◌, ◌∙◌, List, map, ap, subst}
use Rattle.packing_laws.specs.declared.packings.Bin.{Bin}
use Rattle.packing_laws.specs.declared.tidying.Line.{Line}
use Rattle.packing_laws.specs.Printed.{bin_cmp}
use Rattle.packing_laws.specs.inner.Tidying.{merged, joined_bin, bin_of}
use Rattle.packing_laws.proofs.TidyParts.{AreLines, tidied}
use Rattle.packing_laws.proofs.TidyLaws.{tidied-packing, tidied-cost, tidied-one_each, tidied-same_cost}
use Rattle.packing_laws.proofs.tidying.tidy.Goals as goal

pub returns-clause-tidied : goal.returns-clause-tidied
returns-clause-tidied c =
    let old : List Bin = c.args.packing.now in
    let lines : List Line = c.in_ok-lines.lines.items in
    let sorted : List Line = c.sort_unstable.new.self.items in
    let given : AreLines c.bins.result.now lines = record { tidy = c.in_ok-lines.ensures.tidy; alike = c.in_ok-lines.ensures.alike; times = c.in_ok-lines.ensures.times } in
    let all : AreLines old lines = subst (λ (l : List Bin). AreLines l lines) c.bins.ensures given in
    let is : c.new.result ≡ merged bin_cmp joined_bin (map bin_of sorted) = c.new.ensures ∙ c.in_ok-merged_lines.ensures ∙ ap (λ (l : List Line). merged bin_cmp joined_bin (map bin_of l)) c.as_slice.ensures.value in
    tidied old lines sorted c.new.result all c.sort_unstable.ensures.permutation c.sort_unstable.ensures.sorted is

pub returns-clause-packing : goal.returns-clause-packing
returns-clause-packing c = tidied-packing c.args.packing.now c.new.result (returns-clause-tidied c)

pub returns-clause-cost : goal.returns-clause-cost
returns-clause-cost c = tidied-cost c.args.packing.now c.new.result (returns-clause-tidied c)

pub returns-clause-one_each : goal.returns-clause-one_each
returns-clause-one_each c = tidied-one_each c.args.packing.now c.new.result (returns-clause-tidied c)

pub returns-clause-same_cost : goal.returns-clause-same_cost
returns-clause-same_cost c = tidied-same_cost c.args.packing.now c.new.result (returns-clause-tidied c)

-- The times so far and those of the next line add up to no more than all of them.
use Rattle.std.proofs.Common.{◌≡◌, ℕ, ◌+◌, ◌≤◌, ◌∙◌, List, take, sum_by, ap, sym, arith}
use Rattle.std.proofs.lemmas.List.Sums.{sum_by_more, sum_by-take-le}
use Rattle.packing_laws.specs.declared.packings.Bin.{Bin}
use Rattle.packing_laws.specs.declared.tidying.Line.{Line}
use Rattle.packing_laws.proofs.TidyParts.{times-merged}
use Rattle.packing_laws.proofs.tidying.merged_lines.Goals as goal

pub add_line-requires : goal.add_line-requires
add_line-requires c =
    let lines : List Line = c.args.lines.now in
    let k : ℕ = c.loop-line.line-index in
    let line : Line = c.line-item.result in
    let times : Line → ℕ = λ x. x.times in
    let so_far : sum_by (λ (b : Bin). b.times) c.loop-line.bins.items ≡ sum_by times (take k lines) = ap (λ (l : List Bin). sum_by (λ (b : Bin). b.times) l) c.loop-line.invariant ∙ times-merged (take k lines) in
    let next : sum_by times (take (k + 1) lines) ≡ sum_by times (take k lines) + line.times = sum_by_more times lines k line c.loop-line-test.true ∙ ap (λ (x : Line). sum_by times (take k lines) + x.times) (sym c.line-item.is) in
    let all : sum_by times (take (k + 1) lines) ≤ sum_by times lines = sum_by-take-le times lines (k + 1) in
    omega arith

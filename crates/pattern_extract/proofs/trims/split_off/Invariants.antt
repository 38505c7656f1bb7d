use Rattle.std.proofs.Common.{◌≡◌, All, take}
use Rattle.pattern_extract.specs.Trims.{surplus_at}
use Rattle.pattern_extract.proofs.trims.split_off.Given as goal

abbrev pub invariant-loop-count : goal.invariant-loop-count
invariant-loop-count l = All (λ n. surplus_at l.surplus n.item ≡ 0) (take l.count-index l.counts)

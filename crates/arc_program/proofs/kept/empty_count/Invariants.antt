use Rattle.std.proofs.Common.{◌≡◌, ◌≤◌, ◌*◌, ◌^◌, take}
use Rattle.arc_program.specs.Kept.{empties_of}
use Rattle.arc_program.proofs.kept.empty_count.Given as goal

abbrev pub invariant-loop-bin : goal.invariant-loop-bin
invariant-loop-bin l = (l.total ≡ empties_of l.t (take l.bin-index l.bins)) × (l.total ≤ l.bin-index * 2 ^ 32)

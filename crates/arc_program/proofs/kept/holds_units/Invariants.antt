use Rattle.std.proofs.Common.{◌≡◌, take}
use Rattle.packing_laws.specs.Printed.{units_in}
use Rattle.arc_program.proofs.kept.holds_units.Given as goal

abbrev pub invariant-loop-count : goal.invariant-loop-count
invariant-loop-count l = units_in (take l.count-index l.bin.counts) ≡ 0

use Rattle.std.proofs.Common.{◌≡◌, map, take}
use Rattle.pattern_extract.specs.Extracts.{bin_of}
use Rattle.pattern_extract.proofs.contents.run_bins.Given as goal

abbrev pub invariant-loop-run : goal.invariant-loop-run
invariant-loop-run l = l.bins.items ≡ map (bin_of l.graph) (take l.run-index l.runs)

use Rattle.std.proofs.Common.{◌≡◌, map}
use Rattle.mps_text.specs.Meaning.{row_of}
use Rattle.mps_text.proofs.read.finished_rows.Given as goal

abbrev pub invariant-loop-row : goal.invariant-loop-row
invariant-loop-row l = l.finished.items ≡ map row_of l.yielded

use Rattle.std.proofs.Common.{◌≡◌, map}
use Rattle.mps_text.specs.Meaning.{column_of}
use Rattle.mps_text.proofs.read.finished_columns.Given as goal

abbrev pub invariant-loop-column : goal.invariant-loop-column
invariant-loop-column l = l.finished.items ≡ map column_of l.yielded

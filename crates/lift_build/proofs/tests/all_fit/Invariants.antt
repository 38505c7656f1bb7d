use Rattle.std.proofs.Common.{ℕ, ◌<◌, List, get_or}
use Rattle.weight_vec.specs.Weight.{AtMost}
use Rattle.lift_build.proofs.tests.all_fit.Given as goal

abbrev pub invariant-loop-index : goal.invariant-loop-index
invariant-loop-index g l = (k : ℕ) (d : List ℕ) → k < l.index → AtMost (get_or l.labels k d) l.cap

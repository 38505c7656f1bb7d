use Rattle.std.proofs.Common.{ℕ, [], get_or, ◌<◌}
use Rattle.weight_vec.specs.Weight.{AtMost}
use Rattle.joint_graph.proofs.states.fits_some.Given as goal

abbrev pub invariant-loop-t : goal.invariant-loop-t
invariant-loop-t g l = (k : ℕ) → k < l.t → AtMost l.weight (get_or l.caps k []) → ⊥

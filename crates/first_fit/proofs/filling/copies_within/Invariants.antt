-- So many units fit in the dimensions so far.
use Rattle.std.proofs.Common.{ℕ, ◌*◌, ◌<◌, ◌≤◌, slice_index}
use Rattle.first_fit.proofs.filling.copies_within.Given as goal

abbrev pub invariant-loop-d : goal.invariant-loop-d
invariant-loop-d l = (e : ℕ) → e < l.d → l.copies * slice_index l.weights e ≤ slice_index l.room e

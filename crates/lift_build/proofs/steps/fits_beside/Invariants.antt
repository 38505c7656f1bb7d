use Rattle.std.proofs.Common.{ℕ, ◌+◌, ◌<◌, ◌≤◌, get_or}
use Rattle.lift_build.proofs.steps.fits_beside.Given as goal

abbrev pub invariant-loop-d : goal.invariant-loop-d
invariant-loop-d g l = (k : ℕ) → k < l.d → get_or l.used k 0 + get_or l.weight k 0 ≤ get_or l.cap k 0

-- In the dimensions so far the weight is taken, and in the others nothing has changed.
use Rattle.std.proofs.Common.{◌≡◌, ℕ, ◌+◌, ◌*◌, ◌<◌, ◌≤◌, slice_index}
use Rattle.first_fit.proofs.filling.lessen.Given as goal

abbrev pub invariant-loop-d : goal.invariant-loop-d
invariant-loop-d l = record {
  taken : (e : ℕ) → e < l.d → slice_index l.room e + l.copies * slice_index l.weights e ≡ slice_index l.fn.room e;
  left : (e : ℕ) → l.d ≤ e → slice_index l.room e ≡ slice_index l.fn.room e;
}

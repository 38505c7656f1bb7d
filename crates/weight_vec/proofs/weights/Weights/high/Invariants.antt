use Rattle.std.proofs.Common.{◌≡◌, ℕ, ◌<◌, ◌≤◌, length, get_or, max}
use Rattle.weight_vec.proofs.weights.Weights.high.Given as goal

abbrev pub invariant-loop-d : goal.invariant-loop-d
invariant-loop-d g l = record {
  sized : length l.parts ≡ length l.self;
  done : (k : ℕ) → k < l.d → get_or l.parts k 0 ≡ max (get_or l.self k 0) (get_or l.other k 0);
  rest : (k : ℕ) → l.d ≤ k → get_or l.parts k 0 ≡ get_or l.self k 0;
}

use Rattle.std.proofs.Common.{◌^◌, ◌≤◌, unsigned_abs}
use Rattle.simplex_basis.proofs.sums.value_of.Given as goal

abbrev pub invariant-loop-level : goal.invariant-loop-level
invariant-loop-level l =
    (goal.iterator-loop-level).can_next l.level-iterator ×
    (goal.iterator-loop-level).is_finite l.level-iterator × (unsigned_abs l.total.0 ≤ 2 ^ 124)

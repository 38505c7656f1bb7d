use Rattle.std.proofs.Common.{◌^◌, ◌≤◌, unsigned_abs}
use Rattle.simplex_basis.proofs.sums.price_of.Given as goal

abbrev pub invariant-loop-entry : goal.invariant-loop-entry
invariant-loop-entry l =
    (goal.iterator-loop-entry).can_next l.entry-iterator ×
    (goal.iterator-loop-entry).is_finite l.entry-iterator × (unsigned_abs l.total.0 ≤ 2 ^ 124)

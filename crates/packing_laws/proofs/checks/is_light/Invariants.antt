-- In no dimension so far do the counts weigh too much.
use Rattle.std.proofs.Common.{ℕ, ◌-◌, ◌≤◌, slice_index}
use Rattle.packing_laws.specs.Instances.{IsAmong}
use Rattle.packing_laws.specs.Packings.{weight_in}
use Rattle.packing_laws.proofs.checks.is_light.Given as goal

abbrev pub invariant-loop-d : goal.invariant-loop-d
invariant-loop-d l = (e : ℕ) → IsAmong e (l.d - 1) → weight_in l.instance e l.counts ≤ slice_index l.cap (e - 1)

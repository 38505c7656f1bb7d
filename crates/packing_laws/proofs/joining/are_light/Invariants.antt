-- Both together are light in the dimensions so far.
use Rattle.std.proofs.Common.{ℕ, ◌+◌, ◌-◌, ◌<◌, ◌≤◌, slice_index}
use Rattle.packing_laws.specs.Packings.{weight_in}
use Rattle.packing_laws.proofs.joining.are_light.Given as goal

abbrev pub invariant-loop-d : goal.invariant-loop-d
invariant-loop-d l = (e : ℕ) → 1 ≤ e → e < l.d → weight_in l.instance e l.first + weight_in l.instance e l.second ≤ slice_index l.cap (e - 1)

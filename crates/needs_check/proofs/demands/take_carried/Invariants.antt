use Rattle.std.proofs.Common.{◌≡◌, ◌≤◌, ◌*◌, ◌^◌, ℕ, length, take, get_or}
use Rattle.arc_num.specs.declared.TheConstants.{MAX_ITEMS}
use Rattle.needs_check.specs.inner.Laid.{HoldsCarried}
use Rattle.needs_check.proofs.demands.take_carried.Given as goal

abbrev pub invariant-loop-index : goal.invariant-loop-index
invariant-loop-index l = record {
  room : length l.carried ≡ MAX_ITEMS;
  small : (j : ℕ) → get_or l.carried j 0 ≤ l.index * 2 ^ 64;
  sums : HoldsCarried (take l.index l.row) (take l.index l.values) l.carried;
}

-- The limits of the types so far.
use Rattle.std.proofs.Common.{◌≡◌, map, take, unwrap_or}
use Rattle.first_fit.proofs.stock.limits.Given as goal

abbrev pub invariant-loop-bin_type : goal.invariant-loop-bin_type
invariant-loop-bin_type l = l.free.items ≡ map (λ t. unwrap_or t.limit 4294967295) (take l.bin_type-index l.bin_type-items)

-- No cap so far is that of the item.
use Rattle.std.proofs.Common.{◌≢◌, All, take}
use Rattle.packing_laws.proofs.instances.Instance.cap_of.Given as goal

abbrev pub invariant-loop-cap : goal.invariant-loop-cap
invariant-loop-cap l = All (λ k. k.item ≢ l.i) (take l.cap-index l.cap-items)

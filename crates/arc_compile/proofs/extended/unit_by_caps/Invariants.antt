use Rattle.std.proofs.Common.{◌≡◌, ◌==◌, cond, take, map}
use Rattle.arc_compile.proofs.extended.unit_by_caps.Given as goal

abbrev pub invariant-loop-cap : goal.invariant-loop-cap
invariant-loop-cap l = l.counted.items ≡ map (λ k. cond (l.i == k.item) 1 0) (take l.cap-index l.instance.caps)

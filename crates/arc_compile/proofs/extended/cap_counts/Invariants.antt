use Rattle.std.proofs.Common.{◌≡◌, take, map}
use Rattle.arc_compile.proofs.extended.cap_counts.Given as goal

abbrev pub invariant-loop-cap : goal.invariant-loop-cap
invariant-loop-cap l = l.counts.items ≡ map (λ k. k.count) (take l.cap-index l.instance.caps)

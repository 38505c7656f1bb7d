use Rattle.std.proofs.Common.{◌≡◌, ◌++◌, ◌∷◌, length, take}
use Rattle.std.specs.Prelude.{decimal, flat_map}
use Rattle.cert_text.specs.inner.Written.{arc_text}
use Rattle.cert_text.proofs.spell.push_arcs.Given as goal

abbrev pub invariant-loop-arc : goal.invariant-loop-arc
invariant-loop-arc l = l.out.items ≡ l.fn.out.items ++ ((32 ∷ decimal (length l.arcs)) ++ flat_map arc_text (take l.arc-index l.arcs))

use Rattle.std.proofs.Common.{◌≡◌, ◌++◌, ◌∷◌, length, take}
use Rattle.std.specs.Prelude.{decimal, flat_map}
use Rattle.cert_text.specs.inner.Written.{part_text}
use Rattle.cert_text.proofs.spell.push_parts.Given as goal

abbrev pub invariant-loop-part : goal.invariant-loop-part
invariant-loop-part l = l.out.items ≡ l.fn.out.items ++ ((32 ∷ decimal (length l.parts)) ++ flat_map part_text (take l.part-index l.parts))

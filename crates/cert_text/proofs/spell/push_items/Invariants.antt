use Rattle.std.proofs.Common.{◌≡◌, ◌++◌, ◌∷◌, length, take}
use Rattle.std.specs.Prelude.{decimal, flat_map}
use Rattle.cert_text.specs.inner.Written.{item_text}
use Rattle.cert_text.proofs.spell.push_items.Given as goal

abbrev pub invariant-loop-item : goal.invariant-loop-item
invariant-loop-item l = l.out.items ≡ l.fn.out.items ++ ((32 ∷ decimal (length l.items)) ++ flat_map item_text (take l.item-index l.items))

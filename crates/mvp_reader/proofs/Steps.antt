-- One more item.
use Rattle.std.proofs.Common.{◌≡◌, ◌+◌, List, [], ◌∷◌, ◌++◌, length, arith}
use Rattle.std.proofs.lemmas.List.Sums.{sum_by-append, sum_by-cons}
use Rattle.packing_laws.specs.declared.instances.Item.{Item}
use Rattle.packing_laws.specs.Layouts.{forms_of}
use Rattle.layout_walk.proofs.Repeats.{several-more, several-fault, several-all}

-- the forms of one more item are added
pub forms_of-push : (xs : List Item) (x : Item) → forms_of (xs ++ x ∷ []) ≡ forms_of xs + length x.forms
forms_of-push xs x = rw (sum_by-append (λ (x : Item). length x.forms) xs (x ∷ []), sum_by-cons (λ (x : Item). length x.forms) x []) (omega arith)

pub ruleset item_steps = (several-more, several-fault, several-all, forms_of-push)

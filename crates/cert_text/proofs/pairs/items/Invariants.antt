use Rattle.std.proofs.Common.{◌≡◌, ◌-◌}
use Rattle.cert_text.specs.inner.Fields.{items_at}
use Rattle.cert_text.proofs.InARow.{with_front}
use Rattle.cert_text.proofs.pairs.items.Given as goal

abbrev pub invariant-loop : goal.invariant-loop
invariant-loop l = with_front l.items (items_at (l.count - l.counter) l.last l.fields) ≡ items_at l.count 0 l.fn.fields

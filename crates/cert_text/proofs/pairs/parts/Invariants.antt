use Rattle.std.proofs.Common.{◌≡◌, ◌-◌}
use Rattle.cert_text.specs.inner.Fields.{parts_at}
use Rattle.cert_text.proofs.InARow.{with_front}
use Rattle.cert_text.proofs.pairs.parts.Given as goal

abbrev pub invariant-loop : goal.invariant-loop
invariant-loop l = with_front l.parts (parts_at (l.count - l.counter) l.last l.fields) ≡ parts_at l.count 0 l.fn.fields

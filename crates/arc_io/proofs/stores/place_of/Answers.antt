use Rattle.std.proofs.Common.{◌≡◌, true, arith, ◌∙◌}
use Rattle.std.specs.Str.{bytes_eq}
use Rattle.arc_io.proofs.EntryLemmas.{entry_of-drop}
use Rattle.arc_io.proofs.stores.place_of.Goals as goal

pub returns-then-eq-clause-found : goal.returns-then-eq-clause-found
returns-then-eq-clause-found c =
    let e = c.index-entries-i.result in
    let same : bytes_eq e.name c.args.name.now ≡ true = cc in
    c.entries.invariant ∙ entry_of-drop c.args.entries.now c.entries.i c.args.name.now e (omega arith) c.index-entries-i.is same

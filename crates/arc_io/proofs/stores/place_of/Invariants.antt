use Rattle.std.proofs.Common.{◌≡◌, drop}
use Rattle.arc_io.specs.Entries.{entry_of}
use Rattle.arc_io.proofs.stores.place_of.Given as goal

abbrev pub invariant-entries : goal.invariant-entries
invariant-entries l = entry_of l.entries l.name ≡ entry_of (drop l.i l.entries) l.name

use Rattle.std.proofs.Common.{◌≡◌, ◌+◌, ◌++◌, map, drop, string_bytes}
use Rattle.command_words.specs.Parts.{part_value, parts_of, parts_from}
use Rattle.command_words.proofs.parts.parts_of.Given as goal

abbrev pub invariant-loop-i : goal.invariant-loop-i
invariant-loop-i l = parts_of (map string_bytes l.words) ≡ map part_value l.parts.items ++ parts_from l.belongs (l.i + 2) (map string_bytes (drop l.i l.words))

use Rattle.std.proofs.Common.{◌≡◌, ◌+◌, ◌++◌, map, drop, string_bytes}
use Rattle.command_words.specs.Parts.{part_value, plain_parts}
use Rattle.command_words.proofs.parts.push_plains.Given as goal

abbrev pub invariant-loop-i : goal.invariant-loop-i
invariant-loop-i l = map part_value l.fn.parts.items ++ plain_parts l.first (map string_bytes l.words) ≡ map part_value l.parts.items ++ plain_parts (l.first + l.i) (map string_bytes (drop l.i l.words))

use Rattle.std.proofs.Common.{◌≡◌, ◌≤◌, ◌+◌, map, drop, length}
use Rattle.command_words.specs.Parts.{part_value}
use Rattle.command_words.specs.Faults.{plains_in}
use Rattle.command_words.proofs.checks.count_plains.Given as goal

abbrev pub invariant-loop-part : goal.invariant-loop-part
invariant-loop-part l = (l.count ≤ l.part-index) × (length (plains_in (map part_value l.parts)) ≡ l.count + length (plains_in (map part_value (drop l.part-index l.parts))))

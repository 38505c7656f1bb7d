use Rattle.std.proofs.Common.{◌≡◌, map, drop}
use Rattle.command_words.specs.Parts.{part_value}
use Rattle.command_words.specs.Faults.{is_given}
use Rattle.command_words.proofs.checks.is_given.Given as goal

abbrev pub invariant-loop-part : goal.invariant-loop-part
invariant-loop-part l = is_given l.setting (map part_value l.parts) ≡ is_given l.setting (map part_value (drop l.part-index l.parts))

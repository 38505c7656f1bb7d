use Rattle.std.proofs.Common.{◌≡◌, map, drop}
use Rattle.command_words.specs.Parts.{part_value}
use Rattle.command_words.specs.Faults.{value_of_setting}
use Rattle.command_words.proofs.found.Found.value.Given as goal

abbrev pub invariant-loop-part : goal.invariant-loop-part
invariant-loop-part l = value_of_setting l.setting (map part_value l.part-items) ≡ value_of_setting l.setting (map part_value (drop l.part-index l.part-items))

use Rattle.std.proofs.Common.{◌≡◌, map, drop}
use Rattle.std.specs.List.{list_any}
use Rattle.command_words.specs.Words.{is_dash}
use Rattle.command_words.specs.Parts.{part_value}
use Rattle.command_words.specs.Faults.{plains_in}
use Rattle.command_words.proofs.checks.has_stream.Given as goal

abbrev pub invariant-loop-part : goal.invariant-loop-part
invariant-loop-part l = list_any is_dash (plains_in (map part_value l.parts)) ≡ list_any is_dash (plains_in (map part_value (drop l.part-index l.parts)))

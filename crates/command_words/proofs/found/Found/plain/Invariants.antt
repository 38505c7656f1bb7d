use Rattle.std.proofs.Common.{◌≡◌, map, drop}
use Rattle.command_words.specs.Parts.{part_value}
use Rattle.command_words.specs.Faults.{plain_of}
use Rattle.command_words.proofs.found.Found.plain.Given as goal

abbrev pub invariant-loop-part : goal.invariant-loop-part
invariant-loop-part l = plain_of l.place (map part_value l.part-items) ≡ plain_of l.left (map part_value (drop l.part-index l.part-items))

use Rattle.std.proofs.Common.{◌≡◌, [], map, take, drop}
use Rattle.command_words.specs.Parts.{part_value}
use Rattle.command_words.specs.Faults.{first_fault}
use Rattle.command_words.proofs.checks.first_fault.Given as goal

abbrev pub invariant-loop-i : goal.invariant-loop-i
invariant-loop-i l = first_fault l.shape [] (map part_value l.parts) ≡ first_fault l.shape (map part_value (take l.i l.parts)) (map part_value (drop l.i l.parts))

use Rattle.std.proofs.Common.{length, ◌-◌, ◌≤◌}
use Rattle.std.specs.List.{slice_range}
use Rattle.arc_num.specs.Words.{IsBlank}
use Rattle.arc_num.proofs.words.white_end.Given as goal

abbrev pub invariant-loop-at : goal.invariant-loop-at
invariant-loop-at l = record { after : l.from ≤ l.at; within : l.at ≤ length l.text; white : IsBlank (slice_range l.text l.from l.at) }

abbrev pub decreases-loop-at : goal.decreases-loop-at
decreases-loop-at l = length l.text - l.at

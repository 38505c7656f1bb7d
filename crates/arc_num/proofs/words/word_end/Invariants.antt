use Rattle.std.proofs.Common.{length, ◌-◌, ◌≤◌, ◌<◌}
use Rattle.std.specs.List.{slice_range}
use Rattle.arc_num.specs.Words.{IsWord}
use Rattle.arc_num.proofs.words.word_end.Given as goal

abbrev pub invariant-loop-at : goal.invariant-loop-at
invariant-loop-at l = record { after : l.start < l.at; within : l.at ≤ length l.text; word : IsWord (slice_range l.text l.start l.at) }

abbrev pub decreases-loop-at : goal.decreases-loop-at
decreases-loop-at l = length l.text - l.at

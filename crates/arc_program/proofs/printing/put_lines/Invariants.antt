use Rattle.std.proofs.Common.{◌-◌, ◌≤◌, length}
use Rattle.arc_program.specs.World.{sink_seen}
use Rattle.arc_program.specs.inner.Printing.{HasPut}
use Rattle.arc_program.proofs.printing.put_lines.Given as goal

abbrev pub invariant-lines : goal.invariant-lines
invariant-lines g l =
    (l.at ≤ length l.text) × HasPut l.text l.at (sink_seen g.K.Sink l.fn.out) (sink_seen g.K.Sink l.out)

abbrev pub decreases-lines : goal.decreases-lines
decreases-lines g l = length l.initial.text - l.at

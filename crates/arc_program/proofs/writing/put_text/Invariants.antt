use Rattle.std.proofs.Common.{◌-◌, ◌≤◌, length, take}
use Rattle.arc_program.specs.World.{shelf_seen}
use Rattle.arc_program.specs.inner.Storing.{HasPutAll}
use Rattle.arc_program.proofs.writing.put_text.Given as goal

abbrev pub invariant-lines : goal.invariant-lines
invariant-lines g l =
    (l.at ≤ length l.text) × HasPutAll (take l.at l.text) (shelf_seen g.H.Shelf l.fn.shelf) (shelf_seen g.H.Shelf l.shelf)

abbrev pub decreases-lines : goal.decreases-lines
decreases-lines g l = length l.initial.text - l.at

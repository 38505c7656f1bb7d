use Rattle.std.proofs.Common.{◌≡◌, ◌+◌, ◌-◌}
use Rattle.arc_num.specs.declared.TheConstants.{MAX_CERT}
use Rattle.arc_program.specs.World.{shelf_seen}
use Rattle.arc_program.specs.Reading.{KeepsWritten}
use Rattle.arc_program.specs.inner.Checking.{HasFedUpTo}
use Rattle.arc_program.proofs.judging.read_out.Given as goal

abbrev pub invariant-pieces : goal.invariant-pieces
invariant-pieces g l =
    HasFedUpTo l.fn.judge l.judge l.taken (g.H.Shelf.left l.fn.shelf) (g.H.Shelf.left l.shelf)
    × (g.H.Shelf.read_faults l.shelf ≡ g.H.Shelf.read_faults l.fn.shelf)
    × (g.H.Shelf.asked l.shelf ≡ g.H.Shelf.asked l.fn.shelf)
    × KeepsWritten (shelf_seen g.H.Shelf l.fn.shelf) (shelf_seen g.H.Shelf l.shelf)

abbrev pub decreases-pieces : goal.decreases-pieces
decreases-pieces g l = MAX_CERT + 1 - l.taken

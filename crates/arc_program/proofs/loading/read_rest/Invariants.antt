use Rattle.std.proofs.Common.{◌≡◌, ◌-◌, ◌+◌, ◌≤◌, vec_len}
use Rattle.arc_num.specs.declared.TheConstants.{MAX_INSTANCE}
use Rattle.arc_program.specs.World.{shelf_seen}
use Rattle.arc_program.specs.Reading.{KeepsWritten}
use Rattle.arc_program.specs.inner.Loading.{IsReadUpTo}
use Rattle.arc_program.proofs.loading.read_rest.Given as goal

abbrev pub invariant-pieces : goal.invariant-pieces
invariant-pieces g l =
    (vec_len l.text ≤ MAX_INSTANCE + 1)
    × IsReadUpTo (g.H.Shelf.left l.fn.shelf) (g.H.Shelf.left l.shelf) l.text.items
    × (g.H.Shelf.read_faults l.shelf ≡ g.H.Shelf.read_faults l.fn.shelf)
    × (g.H.Shelf.asked l.shelf ≡ g.H.Shelf.asked l.fn.shelf)
    × KeepsWritten (shelf_seen g.H.Shelf l.fn.shelf) (shelf_seen g.H.Shelf l.shelf)

abbrev pub decreases-pieces : goal.decreases-pieces
decreases-pieces g l = MAX_INSTANCE + 1 - vec_len l.text

use Rattle.lift_build.proofs.Aheads.{start-sound, start-search}
use Rattle.lift_build.proofs.found.Search.start.Goals as goal

pub returns : goal.returns
returns g c =
    start-search c.args.pieces.now c.args.cap.now c.args.room (record { labels = c.insert.new.self; arcs = c.new.result; states = c.new-2.result; numbers = c.new-3.result })
    (start-sound c.args.pieces.now c.args.cap.now c.new-labels.result c.insert.new.self c.in_ok-insert.field-0 c.new-labels.ensures c.in_ok-insert.ensures)
    c.new.ensures c.new-2.ensures c.new-3.ensures.items

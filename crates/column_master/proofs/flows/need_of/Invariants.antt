-- The room is that of the graph.
use Rattle.flow_model.specs.Tallies.{IsTallyOf}
use Rattle.needs_check.specs.Rooms.{IsNeedRoomOf}
use Rattle.column_master.proofs.flows.need_of.Given as goal

abbrev pub invariant-loop-form : goal.invariant-loop-form
invariant-loop-form l = record {
  tally : IsTallyOf l.graph l.tally;
  room : IsNeedRoomOf l.graph l.room;
}

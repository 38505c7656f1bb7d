-- Room to test needs.
use Rattle.std.specs.Prelude.{◌≡◌, ℕ, List, length}
use Rattle.arc_num.specs.declared.TheConstants.{MAX_ITEMS}
use Rattle.flow_graph.specs.Arcs.{TypeValue, numbered}
use Rattle.flow_model.specs.Tallies.{TallyValue, IsTallyOf}

-- for how many numbered arcs there is room, for how many items, and the sums of a flow at nodes
pub record NeedRoomValue : Type 0 where
  pub arcs : ℕ
  pub items : ℕ
  pub tally : TallyValue

-- the room is that of a graph: for each of its arcs and nodes, and for as many items as there may be
pub record IsNeedRoomOf (g : List TypeValue) (room : NeedRoomValue) : Type 0 where
  pub arcs : room.arcs ≡ length (numbered g)
  pub items : room.items ≡ MAX_ITEMS
  pub tally : IsTallyOf g room.tally

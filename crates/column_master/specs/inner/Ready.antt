-- What a master keeps.
use Rattle.std.specs.Prelude.{◌≡◌, List, length}
use Rattle.packing_laws.specs.Instances.{InstanceValue}
use Rattle.flow_graph.specs.Arcs.{TypeValue}
use Rattle.flow_graph.specs.Faithful.{IsFaithful}
use Rattle.flow_model.specs.Tallies.{TallyValue, IsTallyOf}
use Rattle.path_prices.specs.Scratches.{ScratchValue, IsScratchOf}

-- the graph is faithful, and there is room for prices and for sums at nodes
pub record IsReady (I : InstanceValue) (g : List TypeValue) (scratch : ScratchValue) (tally : TallyValue) : Type 0 where
  pub faithful : IsFaithful I g
  pub items : scratch.items ≡ length I.items
  pub prepared : IsScratchOf g scratch
  pub sums : IsTallyOf g tally

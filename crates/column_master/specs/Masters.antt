-- What a master is seen as.
use Rattle.std.specs.Prelude.{List}
use Rattle.packing_laws.specs.Instances.{InstanceValue}
use Rattle.flow_graph.specs.Arcs.{TypeValue}

-- the instance and its graph, whose boxes are priced
pub record MasterValue : Type 0 where
  pub instance : InstanceValue
  pub graph : List TypeValue

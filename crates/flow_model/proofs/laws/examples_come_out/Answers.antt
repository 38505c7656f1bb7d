use Rattle.std.proofs.Common.{refl}
use Rattle.flow_model.proofs.Examples.{type_is, graph_of}
use Rattle.flow_model.proofs.laws.examples_come_out.Goals as goal

pub returns : goal.returns
returns c = record {
  type_is = type_is;
  graph = graph_of;
  box = refl;
  costs = refl;
  prices = refl;
  bounds = refl;
  sides = refl;
  entries = refl;
}

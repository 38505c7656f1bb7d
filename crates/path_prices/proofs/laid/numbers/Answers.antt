use Rattle.flow_graph.proofs.Numbers.{few_to_last}
use Rattle.path_prices.proofs.TypeGains.{in-row}
use Rattle.path_prices.proofs.laid.numbers.Goals as goal

pub returns-clause-rise : goal.returns-clause-rise
returns-clause-rise c = in-row c.args.graph.now c.args.t c.requires

pub returns-clause-few : goal.returns-clause-few
returns-clause-few c = few_to_last c.args.graph.now c.known.ensures c.args.t c.requires

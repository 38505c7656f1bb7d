use Rattle.std.proofs.Common.{ap, length, ◌∙◌, sym, arith}
use Rattle.path_prices.proofs.TypeGains.{found-best}
use Rattle.path_prices.proofs.laid.find_values.Goals as goal

pub returns-clause-best : goal.returns-clause-best
returns-clause-best c = λ p are laid. found-best c.args.graph.now c.args.t c.known.ensures c.requires.of_type p are c.args.items.now c.args.arcs.now c.own_prices-own.result.now c.type_arcs.result.now c.reset_values.new.values c.raise_values.new.values c.requires.carried c.requires.size laid c.own_prices-own.ensures.value c.type_arcs.ensures (omega arith) (omega arith) c.reset_values.ensures c.raise_values.ensures.best

pub raise_values-requires-clause-size : goal.raise_values-requires-clause-size
raise_values-requires-clause-size c = c.own_prices-own.ensures.size ∙ sym (ap length c.type_arcs.ensures)

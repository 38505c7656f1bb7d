use Rattle.std.proofs.Common.{arith}
use Rattle.command_words.proofs.ValueLemmas.{nodes_found}
use Rattle.command_words.proofs.reading.wanted_nodes.Goals as goal

pub overflow_cast-result : goal.overflow_cast-result
overflow_cast-result c = let most = nodes_found c.args.found.now c.number.result c.in-Some.nodes c.requires c.number.ensures c.in-Some.is in omega (arith, most)

pub returns-in-Some-clause-most : goal.returns-in-Some-clause-most
returns-in-Some-clause-most c = nodes_found c.args.found.now c.number.result c.in-Some.nodes c.requires c.number.ensures c.in-Some.is

use Rattle.std.proofs.Common.{arith}
use Rattle.command_words.proofs.ValueLemmas.{workers_found}
use Rattle.command_words.proofs.reading.wanted_workers.Goals as goal

pub overflow_cast-result : goal.overflow_cast-result
overflow_cast-result c = let count = workers_found c.args.found.now c.number.result c.in-Some.workers c.requires c.number.ensures c.in-Some.is in omega (arith, count.0, count.1)

pub returns-in-Some-clause-count : goal.returns-in-Some-clause-count
returns-in-Some-clause-count c = let count = workers_found c.args.found.now c.number.result c.in-Some.workers c.requires c.number.ensures c.in-Some.is in (omega (arith, count.0), omega (arith, count.1))

use Rattle.std.proofs.Common.{arith, refl, sym}
use Rattle.command_words.specs.Faults.{plain_of}
use Rattle.command_words.proofs.PlainLemmas.{size_by}
use Rattle.command_words.proofs.reading.wanted_size.Goals as goal

pub overflow_cast-result : goal.overflow_cast-result
overflow_cast-result c =
    let size = (size_by c.args.found.now (plain_of 1 c.args.found.now) c.plain_number.result c.requires refl (sym c.plain_number.ensures)).1 c.in-Some.size c.in-Some.is in
    omega (arith, size.0, size.1)

pub returns-in-Some-clause-size : goal.returns-in-Some-clause-size
returns-in-Some-clause-size c = (size_by c.args.found.now (plain_of 1 c.args.found.now) c.plain_number.result c.requires refl (sym c.plain_number.ensures)).1 c.in-Some.size c.in-Some.is

pub returns-in-None-clause-value : goal.returns-in-None-clause-value
returns-in-None-clause-value c = absurd ((size_by c.args.found.now (plain_of 1 c.args.found.now) c.plain_number.result c.requires refl (sym c.plain_number.ensures)).0 c.in-None.is)

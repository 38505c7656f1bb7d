use Rattle.std.proofs.Common.{sym, arith, length-drop}
use Rattle.arc_program.proofs.LineLemmas.{line_found, line_last}
use Rattle.arc_program.proofs.printing.line_end.Goals as goal

pub returns-in-Some-clause-line : goal.returns-in-Some-clause-line
returns-in-Some-clause-line c = line_found c.args.text.now c.args.from c.in-Some.i (sym c.in-Some.ensures) (omega (arith, length-drop c.args.from c.args.text.now))

pub returns-in-None-clause-line : goal.returns-in-None-clause-line
returns-in-None-clause-line c = line_last c.args.text.now c.args.from (sym c.in-None.ensures) (omega (arith, length-drop c.args.from c.args.text.now))

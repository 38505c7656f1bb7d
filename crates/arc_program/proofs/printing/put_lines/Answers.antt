use Rattle.std.proofs.Common.{arith}
use Rattle.arc_program.proofs.PrintLemmas.{put_none, put_more, put_all, put_cut}
use Rattle.arc_program.proofs.printing.put_lines.Goals as goal

pub lines-init : goal.lines-init
lines-init g c = (omega arith, put_none c.args.text.now _)

pub lines-preserved : goal.lines-preserved
lines-preserved g c = (
  c.line_end-end.ensures.within,
  put_more c.args.text.now c.lines.at c.line_end-end.result _ _ _ (omega arith) c.line_end-end.ensures.line c.lines.invariant.1 (record { taken = c.in-Ok.ensures.appends; puts = c.in-Ok.ensures.puts; faults = c.in-Ok.ensures.faults; starved = c.in-Ok.ensures.starved }),
)

pub returns-in-Err : goal.returns-in-Err
returns-in-Err g c = put_cut c.in-Err.fault c.args.text.now c.lines.at c.line_end-end.result _ _ _ c.line_end-end.ensures.line c.lines.invariant.1 (record { taken = c.in-Err.ensures.appends; puts = c.in-Err.ensures.puts; faults = c.in-Err.ensures.faults; starved = c.in-Err.ensures.starved })

pub returns : goal.returns
returns g c = put_all c.args.text.now c.lines.at _ _ c.lines-test.false c.lines.invariant.1

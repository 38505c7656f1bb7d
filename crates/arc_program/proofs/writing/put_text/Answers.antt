use Rattle.std.proofs.Common.{arith}
use Rattle.arc_program.proofs.StoreLemmas.{put_none, put_more, put_all, put_cut}
use Rattle.arc_program.proofs.writing.put_text.Goals as goal

pub lines-init : goal.lines-init
lines-init g c = (omega arith, put_none c.args.text.now _ c.requires)

pub lines-preserved : goal.lines-preserved
lines-preserved g c = (
  c.line_end-end.ensures.within,
  put_more c.args.text.now c.lines.at c.line_end-end.result _ _ _ (omega arith) c.lines.invariant.1 (record {
    keeps = record {
      held = c.in-Ok.ensures.held;
      left = c.in-Ok.ensures.left;
      asked = c.in-Ok.ensures.asked;
      created = c.in-Ok.ensures.created;
      writing = c.in-Ok.ensures.writing;
      reads = c.in-Ok.ensures.reads;
      others = c.in-Ok.ensures.others;
    };
    appends = c.in-Ok.ensures.appends;
    faults = c.in-Ok.ensures.writes;
  }),
)

pub returns-in-Err : goal.returns-in-Err
returns-in-Err g c = put_cut c.in-Err.fault c.args.text.now c.lines.at c.line_end-end.result _ _ _ c.lines.invariant.1 (record {
  keeps = record {
    held = c.in-Err.ensures.held;
    left = c.in-Err.ensures.left;
    asked = c.in-Err.ensures.asked;
    created = c.in-Err.ensures.created;
    writing = c.in-Err.ensures.writing;
    reads = c.in-Err.ensures.reads;
    others = c.in-Err.ensures.others;
  };
  appends = c.in-Err.ensures.appends;
  faults = c.in-Err.ensures.writes;
})

pub returns : goal.returns
returns g c = put_all c.args.text.now c.lines.at _ _ c.lines-test.false c.lines.invariant.1

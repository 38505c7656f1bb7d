use Rattle.std.proofs.Common.{◌∙◌, ℕ, Option, Ok, Err, subst}
use Rattle.arc_io.specs.Faults.{Rose}
use Rattle.cert_stream.specs.declared.verdict.Verdict.{Verdict}
use Rattle.arc_program.specs.World.{shelf_seen}
use Rattle.arc_program.specs.inner.Checking.{ReadsOut, CountsRead}
use Rattle.arc_program.proofs.Readings.{asked_on, so_end, so_broken, judged_end, judged_broken, judged_failed}
use Rattle.arc_program.proofs.judging.judge_text.Goals as goal

pub returns-in-Ok-None-clause-judged : goal.returns-in-Ok-None-clause-judged
returns-in-Ok-None-clause-judged g c =
    judged_end c.verdicts_are_exact.ensures c.args.instance.now c.args.graph.now c.args.name.now (shelf_seen g.H.Shelf c.args.shelf.now) (shelf_seen g.H.Shelf c.read_out.new.shelf) (g.H.Shelf.left c.start.new.self) c.in-Ok.ensures.left (asked_on _ _ _ _ c.in-Ok.ensures.asked c.read_out.ensures.asked) c.read_out.ensures.taken c.read_out.new.judge c.conclude.result
    (subst (λ (o : Option Verdict). ReadsOut c.args.instance.now c.args.graph.now (Ok o) c.read_out.new.judge (g.H.Shelf.left c.start.new.self) (g.H.Shelf.left c.read_out.new.shelf)) c.in-Ok-None.field-0-is (c.in-Ok-None.ensures.out c.args.instance.now c.args.graph.now c.in-Ok-new.ensures))
    ((subst (λ (o : Option Verdict). CountsRead (Ok o) (g.H.Shelf.read_faults c.start.new.self) (g.H.Shelf.read_faults c.read_out.new.shelf)) c.in-Ok-None.field-0-is c.in-Ok-None.ensures.faults) ∙ c.in-Ok.ensures.reads)
    c.conclude.ensures

pub returns-in-Ok-None-clause-so : goal.returns-in-Ok-None-clause-so
returns-in-Ok-None-clause-so g c = λ faithful.
    so_end c.verdicts_are_exact.ensures c.args.instance.now c.args.graph.now c.verdicts_are_so.ensures c.known.ensures c.known-2.ensures faithful c.read_out.new.judge (g.H.Shelf.left c.start.new.self) (g.H.Shelf.left c.read_out.new.shelf) c.conclude.result
    (subst (λ (o : Option Verdict). ReadsOut c.args.instance.now c.args.graph.now (Ok o) c.read_out.new.judge (g.H.Shelf.left c.start.new.self) (g.H.Shelf.left c.read_out.new.shelf)) c.in-Ok-None.field-0-is (c.in-Ok-None.ensures.out c.args.instance.now c.args.graph.now c.in-Ok-new.ensures))
    c.conclude.ensures

pub returns-in-Ok-Some-clause-judged : goal.returns-in-Ok-Some-clause-judged
returns-in-Ok-Some-clause-judged g c =
    judged_broken c.verdicts_are_exact.ensures c.args.instance.now c.args.graph.now c.args.name.now (shelf_seen g.H.Shelf c.args.shelf.now) (shelf_seen g.H.Shelf c.read_out.new.shelf) (g.H.Shelf.left c.start.new.self) c.in-Ok.ensures.left (asked_on _ _ _ _ c.in-Ok.ensures.asked c.read_out.ensures.asked) c.read_out.ensures.taken c.read_out.new.judge c.in-Ok-Some.verdict
    (subst (λ (o : Option Verdict). ReadsOut c.args.instance.now c.args.graph.now (Ok o) c.read_out.new.judge (g.H.Shelf.left c.start.new.self) (g.H.Shelf.left c.read_out.new.shelf)) c.in-Ok-Some.field-0-is (c.in-Ok-Some.ensures.out c.args.instance.now c.args.graph.now c.in-Ok-new.ensures))
    (subst (λ (n : ℕ). Rose n (g.H.Shelf.read_faults c.read_out.new.shelf)) c.in-Ok.ensures.reads (subst (λ (o : Option Verdict). CountsRead (Ok o) (g.H.Shelf.read_faults c.start.new.self) (g.H.Shelf.read_faults c.read_out.new.shelf)) c.in-Ok-Some.field-0-is c.in-Ok-Some.ensures.faults))

pub returns-in-Ok-Some-clause-so : goal.returns-in-Ok-Some-clause-so
returns-in-Ok-Some-clause-so g c = λ faithful.
    so_broken c.verdicts_are_exact.ensures c.args.instance.now c.args.graph.now c.read_out.new.judge (g.H.Shelf.left c.start.new.self) (g.H.Shelf.left c.read_out.new.shelf) c.in-Ok-Some.verdict
    (subst (λ (o : Option Verdict). ReadsOut c.args.instance.now c.args.graph.now (Ok o) c.read_out.new.judge (g.H.Shelf.left c.start.new.self) (g.H.Shelf.left c.read_out.new.shelf)) c.in-Ok-Some.field-0-is (c.in-Ok-Some.ensures.out c.args.instance.now c.args.graph.now c.in-Ok-new.ensures))

pub returns-clause-judged : goal.returns-clause-judged
returns-clause-judged g c =
    judged_failed c.verdicts_are_exact.ensures c.args.instance.now c.args.graph.now c.args.name.now (shelf_seen g.H.Shelf c.args.shelf.now) (shelf_seen g.H.Shelf c.read_out.new.shelf) (g.H.Shelf.left c.start.new.self) c.in-Ok.ensures.left (asked_on _ _ _ _ c.in-Ok.ensures.asked c.read_out.ensures.asked) c.read_out.ensures.taken c.read_out.new.judge c.in-Err-read_out.fault
    (c.in-Err-read_out.ensures.out c.args.instance.now c.args.graph.now c.in-Ok-new.ensures)
    (subst (λ (n : ℕ). CountsRead (Err c.in-Err-read_out.fault) n (g.H.Shelf.read_faults c.read_out.new.shelf)) c.in-Ok.ensures.reads c.in-Err-read_out.ensures.faults)

use Rattle.std.proofs.Common.{◌∙◌, ℕ, ◌<◌, ◌≤◌, take, length, subst, arith, Ok, Err}
use Rattle.std.proofs.lemmas.List.{length-take}
use Rattle.arc_num.specs.declared.TheConstants.{MAX_CERT}
use Rattle.arc_io.specs.declared.IoFault.{IoFault}
use Rattle.arc_program.specs.declared.judging.Step.{Step}
use Rattle.arc_program.specs.inner.Checking.{Brings, Steps, Feeds}
use Rattle.arc_program.proofs.TextLemmas.{keeps_on}
use Rattle.arc_program.proofs.Checked.{fed_more, took, out_end, out_certain, out_broken, out_stopped}
use Rattle.arc_program.proofs.judging.read_out.Goals as goal

pub pieces-preserved : goal.pieces-preserved
pieces-preserved g c =
    let steps : (0 < c.in-Ok-More.n) × (c.in-Ok-More.n ≤ length c.feed_piece.new.piece) × Brings (take c.in-Ok-More.n c.feed_piece.new.piece) (g.H.Shelf.left c.pieces.shelf) (g.H.Shelf.left c.feed_piece.new.shelf) =
    subst (λ (s : Step). Steps (Ok s) c.feed_piece.new.piece (g.H.Shelf.left c.pieces.shelf) (g.H.Shelf.left c.feed_piece.new.shelf)) c.in-Ok-More.field-0-is c.in-Ok-More.ensures.steps in (
      fed_more c.args.judge.now c.pieces.judge c.feed_piece.new.judge c.pieces.taken c.in-Ok-More.n c.feed_piece.new.piece _ _ _ c.pieces.invariant.0 (omega (arith, steps.1, length-take {A = ℕ}, c.feed_piece.auto.piece)) steps.1 steps.2
          (λ I gr bytes fed. subst (λ (s : Step). Feeds I gr bytes c.feed_piece.new.piece (Ok s) c.feed_piece.new.judge (g.H.Shelf.left c.pieces.shelf) (g.H.Shelf.left c.feed_piece.new.shelf)) c.in-Ok-More.field-0-is (c.in-Ok-More.ensures.feeds I gr bytes fed)),
      c.in-Ok-More.ensures.faults ∙ c.pieces.invariant.1,
      c.in-Ok-More.ensures.asked ∙ c.pieces.invariant.2,
      keeps_on _ _ _ c.pieces.invariant.3 c.in-Ok-More.ensures.writes,
    )

pub returns-in-Ok-End-clause-out : goal.returns-in-Ok-End-clause-out
returns-in-Ok-End-clause-out g c = λ I gr fed.
    out_end c.args.judge.now c.pieces.judge c.pieces.taken (g.H.Shelf.left c.args.shelf.now) (g.H.Shelf.left c.pieces.shelf) c.pieces.invariant.0 I gr fed c.feed_piece.new.judge c.feed_piece.new.piece (g.H.Shelf.left c.feed_piece.new.shelf)
    (λ bytes f. subst (λ (s : Step). Feeds I gr bytes c.feed_piece.new.piece (Ok s) c.feed_piece.new.judge (g.H.Shelf.left c.pieces.shelf) (g.H.Shelf.left c.feed_piece.new.shelf)) c.in-Ok-End.field-0-is (c.in-Ok-End.ensures.feeds I gr bytes f))

pub returns-in-Ok-End-clause-taken : goal.returns-in-Ok-End-clause-taken
returns-in-Ok-End-clause-taken g c = took _ _ _ _ _ _ _ c.pieces.invariant.0 (omega (arith, length-take {A = ℕ})) c.in-Ok-End.ensures.taken

pub returns-in-Ok-Certain-clause-out : goal.returns-in-Ok-Certain-clause-out
returns-in-Ok-Certain-clause-out g c = λ I gr fed.
    out_certain c.args.judge.now c.pieces.judge c.pieces.taken (g.H.Shelf.left c.args.shelf.now) (g.H.Shelf.left c.pieces.shelf) c.pieces.invariant.0 I gr fed c.feed_piece.new.judge c.feed_piece.new.piece (g.H.Shelf.left c.feed_piece.new.shelf)
    (λ bytes f. subst (λ (s : Step). Feeds I gr bytes c.feed_piece.new.piece (Ok s) c.feed_piece.new.judge (g.H.Shelf.left c.pieces.shelf) (g.H.Shelf.left c.feed_piece.new.shelf)) c.in-Ok-Certain.field-0-is (c.in-Ok-Certain.ensures.feeds I gr bytes f))

pub returns-in-Ok-Certain-clause-taken : goal.returns-in-Ok-Certain-clause-taken
returns-in-Ok-Certain-clause-taken g c = took _ _ _ _ _ _ _ c.pieces.invariant.0 (omega (arith, length-take {A = ℕ})) c.in-Ok-Certain.ensures.taken

pub returns-in-Ok-clause-out : goal.returns-in-Ok-clause-out
returns-in-Ok-clause-out g c = λ I gr fed.
    out_broken c.args.judge.now c.pieces.judge c.pieces.taken (g.H.Shelf.left c.args.shelf.now) (g.H.Shelf.left c.pieces.shelf) c.pieces.invariant.0 I gr fed c.feed_piece.new.judge c.break_off.new.judge c.in-Ok.verdict (g.H.Shelf.left c.feed_piece.new.shelf)
    (λ bytes f. (subst (λ (e : IoFault). Feeds I gr bytes c.feed_piece.new.piece (Err e) c.feed_piece.new.judge (g.H.Shelf.left c.pieces.shelf) (g.H.Shelf.left c.feed_piece.new.shelf)) c.in-Err-Failed.field-0-is (c.in-Err-Failed.ensures.feeds I gr bytes f)).0)
    (λ bytes f. c.in-Ok.ensures I gr bytes f)

pub returns-in-Ok-clause-taken : goal.returns-in-Ok-clause-taken
returns-in-Ok-clause-taken g c = took _ _ _ _ _ _ _ c.pieces.invariant.0 (omega (arith, length-take {A = ℕ})) c.in-Err-Failed.ensures.taken

pub returns-in-Err-clause-out : goal.returns-in-Err-clause-out
returns-in-Err-clause-out g c = λ I gr fed.
    out_stopped c.args.judge.now c.pieces.judge c.pieces.taken (g.H.Shelf.left c.args.shelf.now) (g.H.Shelf.left c.pieces.shelf) c.pieces.invariant.0 I gr fed c.feed_piece.new.judge c.break_off.new.judge c.in-Err.fault (g.H.Shelf.left c.feed_piece.new.shelf)
    (λ bytes f. subst (λ (e : IoFault). Feeds I gr bytes c.feed_piece.new.piece (Err e) c.feed_piece.new.judge (g.H.Shelf.left c.pieces.shelf) (g.H.Shelf.left c.feed_piece.new.shelf)) c.in-Err-Failed.field-0-is (c.in-Err-Failed.ensures.feeds I gr bytes f))
    (λ bytes f. c.in-Err.ensures I gr bytes f)

pub returns-in-Err-clause-taken : goal.returns-in-Err-clause-taken
returns-in-Err-clause-taken g c = took _ _ _ _ _ _ _ c.pieces.invariant.0 (omega (arith, length-take {A = ℕ})) c.in-Err-Failed.ensures.taken

pub returns-in-Err-Memory-clause-taken : goal.returns-in-Err-Memory-clause-taken
returns-in-Err-Memory-clause-taken g c = took _ _ _ _ _ _ _ c.pieces.invariant.0 (omega (arith, length-take {A = ℕ})) c.in-Err-Memory.ensures.taken

pub returns-clause-out : goal.returns-clause-out
returns-clause-out g c = λ I gr fed. let few : c.pieces.taken ≤ MAX_CERT = (c.pieces.invariant.0.fed I gr fed).1 in absurd (omega (arith, few, c.pieces-test.false))

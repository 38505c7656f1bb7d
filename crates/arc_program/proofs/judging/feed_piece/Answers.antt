use Rattle.std.proofs.Common.{take, rules, arith}
use Rattle.arc_program.proofs.Checked.{brings}
use Rattle.arc_program.proofs.judging.feed_piece.Goals as goal

pub returns-in-Ok-true-clause-feeds : goal.returns-in-Ok-true-clause-feeds
returns-in-Ok-true-clause-feeds g c = λ I gr bytes fed.
    (take c.in-Ok.n c.more.new.into, c.in-Ok-true.ensures.certain I gr bytes fed (search rules), c.in-Ok-true.ensures.fed I gr bytes fed, brings c.in-Ok.n c.more.new.into _ _ c.in-Ok.ensures.left)

pub returns-in-Ok-false-clause-feeds : goal.returns-in-Ok-false-clause-feeds
returns-in-Ok-false-clause-feeds g c = λ I gr bytes fed. (c.in-Ok-false.ensures.fed I gr bytes fed, c.in-Ok-false.ensures.few I gr bytes fed (search rules))

pub returns-in-Ok-false-clause-steps : goal.returns-in-Ok-false-clause-steps
returns-in-Ok-false-clause-steps g c = (omega (arith, c.if-n-eq0.false), c.in-Ok.ensures.count, brings c.in-Ok.n c.more.new.into _ _ c.in-Ok.ensures.left)

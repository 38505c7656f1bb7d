use Rattle.std.proofs.Common.{◌≡◌, subst, All, take_all}
use Rattle.pattern_extract.specs.Trims.{surplus_at}
use Rattle.pattern_extract.proofs.Trimming.{lean-more}
use Rattle.pattern_extract.proofs.trims.split_off.Goals as goal

pub loop-count-preserved : goal.loop-count-preserved
loop-count-preserved c = lean-more c.args.surplus.now c.args.counts.now c.loop-count.count-index (record { item = 0; form = 0; count = 0 }) c.loop-count-test.true c.loop-count.invariant c.if-more-gt0.false

pub returns-clause-none : goal.returns-clause-none
returns-clause-none c none = subst (All (λ n. surplus_at c.args.surplus.now n.item ≡ 0)) (take_all c.loop-count.count-index c.args.counts.now c.loop-count-test.false) c.loop-count.invariant

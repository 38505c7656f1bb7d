-- The next count is taken.
use Rattle.std.proofs.Common.{◌*◌, ◌≤◌, ℕ, get_or, subst, sym}
use Rattle.packing_laws.specs.declared.packings.Count.{Count}
use Rattle.first_fit.proofs.TakenUnits.{next-enough, next-taken}
use Rattle.first_fit.proofs.stock.take_units.Goals as goal

abbrev nothing : Count
nothing = record { item = 0; form = 0; count = 0 }

pub overflow_sub-rest : goal.overflow_sub-rest
overflow_sub-rest c =
    subst (λ (m : ℕ). c.args.times * (get_or c.args.counts.now c.loop-count.count-index nothing).count ≤ m) (sym c.entry-left.ensures)
    (next-enough c.args.times c.args.counts.now c.loop-count.count-index nothing c.loop-count.rest c.args.rest.now c.loop-count-test.true
    (c.requires.exists c.loop-count.count-index nothing c.loop-count-test.true) c.requires.enough c.loop-count.invariant)

pub loop-count-preserved : goal.loop-count-preserved
loop-count-preserved c =
    next-taken c.args.times c.args.counts.now c.loop-count.count-index nothing c.loop-count.rest c.args.rest.now c.loop-count-test.true
    (c.requires.exists c.loop-count.count-index nothing c.loop-count-test.true) c.entry-left.result c.entry-left.ensures c.loop-count.auto.rest
    (subst (λ (m : ℕ). c.args.times * (get_or c.args.counts.now c.loop-count.count-index nothing).count ≤ m) (sym c.entry-left.ensures)
    (next-enough c.args.times c.args.counts.now c.loop-count.count-index nothing c.loop-count.rest c.args.rest.now c.loop-count-test.true
    (c.requires.exists c.loop-count.count-index nothing c.loop-count-test.true) c.requires.enough c.loop-count.invariant)) c.loop-count.invariant

-- The first dimension, one more, and all of them.
use Rattle.std.proofs.Common.{suc, ◌≡◌, ℕ, ◌+◌, ◌-◌, ◌≤◌, arith}
use Rattle.step_bounds.proofs.Looked.{best_to-first, best_to-more, best_to-all}
use Rattle.step_bounds.proofs.bounds.step_bound.Goals as goal

pub loop-dim-init : goal.loop-dim-init
loop-dim-init c = best_to-first c.args.instance.now c.best_in-best.result c.best_in-best.ensures

pub loop-dim-preserved : goal.loop-dim-preserved
loop-dim-preserved c =
    let d : ℕ = c.loop-dim.dim in
    let low : 2 ≤ d = c.loop-dim.auto.dim in
    let is : d ≡ suc (d - 1) = omega (arith, low) in
    let index : d + 1 - 1 ≡ d = omega arith in
    rw index (best_to-more c.args.instance.now (d - 1) d c.loop-dim.best c.best_in.result c.greater-best.result is c.loop-dim.invariant c.best_in.ensures c.greater-best.ensures)

pub returns-clause-found : goal.returns-clause-found
returns-clause-found c = best_to-all c.args.instance.now (c.loop-dim.dim - 1) c.loop-dim.best (let high : 2 ≤ c.dims-dims.result + 1 → c.loop-dim.dim ≤ c.dims-dims.result + 1 = c.loop-dim.auto.dim-end in omega (arith, high)) c.loop-dim.invariant

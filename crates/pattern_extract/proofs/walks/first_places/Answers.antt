use Rattle.std.proofs.Common.{◌≡◌, ℕ, subst, arith}
use Rattle.flow_graph.specs.Arcs.{flow_type}
use Rattle.pattern_extract.proofs.Cursors.{AreFirst, cursors-first}
use Rattle.pattern_extract.proofs.walks.first_places.Goals as goal

pub returns-clause-first : goal.returns-clause-first
returns-clause-first c =
    let g = c.args.graph.now in
    let t = c.args.t in
    let none : c.loop-at.at ≡ 0 = let low = c.loop-at-test.false in omega (arith, low) in
    let all = subst (AreFirst (flow_type g t) c.bin_arc-first.result c.loop-at.places.items) none c.loop-at.invariant.first in
    cursors-first g t c.loop-at.places.items (subst (λ (first : ℕ). AreFirst (flow_type g t) first c.loop-at.places.items 0) c.bin_arc-first.ensures all)

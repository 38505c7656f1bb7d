use Rattle.std.proofs.Common.{◌≡◌, ◌+◌, ◌<◌, ℕ, suc, Some, length, subst, rules, arith}
use Rattle.joint_graph.specs.declared.states.State.{State}
use Rattle.joint_graph.specs.inner.Pushes.{Adds, IsFound}
use Rattle.joint_graph.proofs.FoundStates.{found-first, found-end}
use Rattle.joint_graph.proofs.states.found_states.Goals as goal

pub loop-index-init : goal.loop-index-init
loop-index-init g c =
    let none : length c.new-found.result.keys ≡ 0 = c.new-found.ensures.len in
    found-first c.args.pieces.now c.args.caps.now c.new-found.result.keys c.add.new.set.keys none
    (subst (λ (s : State g.row.N). Adds c.new-found.result.keys c.add.new.set.keys (Some s)) c.first_state.ensures c.in_ok-add.ensures)

pub look_at-requires : goal.look_at-requires
look_at-requires g c =
    let low : c.loop-index.index < length c.loop-index.found.keys = omega (arith, c.if-index-len.false, c.len.ensures.len) in
    (search rules, (search rules, (search rules, (c.requires.small, (c.requires.few, (c.requires.ranged, (low, c.loop-index.invariant)))))))

pub loop-index-preserved : goal.loop-index-preserved
loop-index-preserved g c =
    let next : suc c.loop-index.index ≡ c.loop-index.index + 1 = omega arith in
    subst (λ (n : ℕ). IsFound c.args.pieces.now c.args.caps.now c.look_at.new.found.keys n) next c.in_ok-look_at.ensures

pub returns-then-index-len : goal.returns-then-index-len
returns-then-index-len g c =
    found-end c.args.pieces.now c.args.caps.now c.loop-index.found.keys c.loop-index.index (omega (arith, c.if-index-len.true, c.len.ensures.len)) c.loop-index.invariant

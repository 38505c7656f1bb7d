use Rattle.std.proofs.Common.{◌≡◌, ◌+◌, ℕ, List, refl, sym, ◌∙◌, subst, arith}
use Rattle.joint_graph.specs.inner.Ranks.{IsInto}
use Rattle.joint_graph.proofs.MergedNodes.{into-first, into-more}
use Rattle.joint_graph.proofs.merging.nodes_into.Goals as goal

pub loop-t-init : goal.loop-t-init
loop-t-init c =
    let r = c.args.ranked.now in
    subst (λ (zs : List ℕ). IsInto r.numbers.items r.count 0 zs) (sym (c.in_ok-into.ensures.items ∙ c.as_slice.ensures.value)) (into-first r.numbers.items r.count)

pub loop-t-preserved : goal.loop-t-preserved
loop-t-preserved c =
    let r = c.args.ranked.now in
    into-more r.numbers.items r.count c.loop-t.t c.loop-t.into.items c.push.new.self.items (r.count + c.loop-t.t + 1) refl c.in_ok-push.ensures.items c.loop-t.invariant

pub returns : goal.returns
returns c =
    let r = c.args.ranked.now in
    let all : c.loop-t.t ≡ c.args.types = omega arith in
    subst (λ (n : ℕ). IsInto r.numbers.items r.count n c.loop-t.into.items) all c.loop-t.invariant

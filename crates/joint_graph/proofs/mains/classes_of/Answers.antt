use Rattle.std.proofs.Common.{◌≡◌, ◌+◌, ℕ, List, Option, length, replicate, sym, ap, ◌∙◌, subst, rules, arith}
use Rattle.joint_graph.specs.Joints.{IsType}
use Rattle.joint_graph.specs.inner.Classes.{AreClasses}
use Rattle.joint_graph.specs.inner.Passes.{AreWaysOn}
use Rattle.joint_graph.proofs.ClassLemmas.{classes-start}
use Rattle.joint_graph.proofs.mains.classes_of.Goals as goal

pub loop-t-init : goal.loop-t-init
loop-t-init g c =
    let graph = c.args.graph.now in
    let items : c.in_ok-numbers.numbers.items ≡ replicate graph.inner 1 = c.in_ok-numbers.ensures.items_if_clones_equal (λ y e. e) ∙ ap (λ (n : ℕ). replicate n 1) c.inner.ensures in
    subst (λ (ns : List ℕ). AreClasses graph 0 ns 1) (sym items) (classes-start g.row.N graph c.known.ensures)

pub ways_on-requires : goal.ways_on-requires
ways_on-requires g c =
    let is_type : IsType c.args.graph.now.caps (c.loop-t.t + 1) = (omega arith, omega (arith, ap length c.caps-types.ensures, c.loop-t-test.true)) in
    (search rules, (search rules, (c.requires.small, is_type)))

pub refined-requires : goal.refined-requires
refined-requires g c =
    let is_type : IsType c.args.graph.now.caps (c.loop-t.t + 1) = (omega arith, omega (arith, ap length c.caps-types.ensures, c.loop-t-test.true)) in
    let ways = subst (λ (ws : List (Option (List ℕ))). AreWaysOn c.args.graph.now (c.loop-t.t + 1) ws) (sym c.as_slice.ensures.value) c.in_ok-ways.ensures in
    (search rules, (search rules, (c.requires.small, (is_type, (c.loop-t.invariant, ways)))))

pub returns : goal.returns
returns g c =
    let all : c.loop-t.t ≡ length c.args.graph.now.caps = omega (arith, ap length c.caps-types.ensures) in
    subst (λ (n : ℕ). AreClasses c.args.graph.now n c.loop-t.classes.numbers.items c.loop-t.classes.count) all c.loop-t.invariant

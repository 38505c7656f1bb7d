use Rattle.std.proofs.Common.{Option, sym, subst}
use Rattle.joint_graph.specs.declared.states.State.{State}
use Rattle.joint_graph.specs.inner.Pushes.{Appends, IsArcTo}
use Rattle.joint_graph.proofs.LevelArcs.{arc-to, arc-none}
use Rattle.joint_graph.proofs.levels.push_step.Goals as goal

pub returns-in_ok-push : goal.returns-in_ok-push
returns-in_ok-push g c =
    subst (λ (o : Option (State g.row.N)). Appends c.args.arcs.now.items c.push.new.self.items (IsArcTo c.args.states.now c.args.index c.args.mark o)) (sym c.in-Some.is)
    (arc-to c.args.states.now c.args.index c.requires.ordered c.args.mark c.in-Some.next c.number_in.result c.args.arcs.now.items c.push.new.self.items c.number_in.ensures c.in_ok-push.ensures.items)

pub returns-in_default : goal.returns-in_default
returns-in_default g c =
    subst (λ (o : Option (State g.row.N)). Appends c.args.arcs.now.items c.args.arcs.now.items (IsArcTo c.args.states.now c.args.index c.args.mark o)) (sym c.in_default.is)
    (arc-none c.args.states.now c.args.index c.args.mark c.args.arcs.now.items)

use Rattle.std.proofs.Common.{Option, sym, subst}
use Rattle.joint_graph.specs.inner.Pushes.{Adds}
use Rattle.joint_graph.proofs.FoundStates.{adds-some}
use Rattle.joint_graph.proofs.states.add.Goals as goal

pub returns-in_ok-insert : goal.returns-in_ok-insert
returns-in_ok-insert g c =
    subst (λ (o : Option g.row.T.Denot). Adds c.args.set.now.keys c.insert.new.self.keys o) (sym c.in-Some.is)
    (adds-some _ c.requires c.args.set.now.keys c.insert.new.self.keys c.in-Some.value c.in_ok-insert.ensures.keys)

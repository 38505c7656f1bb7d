use Rattle.joint_graph.proofs.ranks.order_is_total.Goals as goal

pub returns : goal.returns
returns g c = g.met.T.Ord.total

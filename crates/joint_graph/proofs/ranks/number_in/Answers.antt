use Rattle.std.proofs.Common.{ap, ◌∙◌}
use Rattle.std.specs.Ordering.{is_eq}
use Rattle.joint_graph.proofs.RankLemmas.{never-missed, found-number}
use Rattle.joint_graph.proofs.ranks.number_in.Goals as goal

pub unreachable-requires : goal.unreachable-requires
unreachable-requires g c = never-missed _ g.met.T.Ord.total (λ x y e. c.requires.exact x y (g.met.T.Ord.matches_eq x y ∙ ap is_eq e)) c.args.sorted.now c.args.wanted.now c.in-Err.field-0 c.requires.ordered c.requires.there c.in-Err.ensures.position

pub returns : goal.returns
returns g c = found-number _ g.met.T.Ord.total (λ x y e. c.requires.exact x y (g.met.T.Ord.matches_eq x y ∙ ap is_eq e)) c.args.sorted.now c.args.wanted.now c.in-Ok.index c.in-Ok.ensures.bound c.in-Ok.ensures.ok

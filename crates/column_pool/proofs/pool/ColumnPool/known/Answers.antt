use Rattle.column_pool.proofs.SameWays.{all-differ}
use Rattle.column_pool.proofs.pool.ColumnPool.known.Goals as goal

pub returns : goal.returns
returns c = all-differ c.self.inside.columns c.args.self.now c.self.view_is c.len-count.ensures.unique

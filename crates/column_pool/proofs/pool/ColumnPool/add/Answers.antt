use Rattle.std.proofs.Common.{◌≡◌, length, rules}
use Rattle.column_pool.proofs.SameWays.{last-way, way-added}
use Rattle.column_pool.proofs.pool.ColumnPool.add.Goals as goal

pub returns-clause-found : goal.returns-clause-found
returns-clause-found c =
    let at : c.len-number.result ≡ length c.args.self.now = search rules in
    last-way c.args.self.now c.insert.new.self.entries c.args.way c.args.column c.len-number.result (way-added c.self.inside.columns c.args.self.now c.self.view_is c.args.way c.args.column c.insert.new.self.entries c.requires c.in_ok-insert.ensures.entries) at

pub returns-clause-added : goal.returns-clause-added
returns-clause-added c = way-added c.self.inside.columns c.args.self.now c.self.view_is c.args.way c.args.column c.insert.new.self.entries c.requires c.in_ok-insert.ensures.entries

use Rattle.std.proofs.lemmas.Result.{IfOk-weaker}
use Rattle.std.proofs.lemmas.Bool.{false≢true}
use Rattle.column_pool.proofs.SameWays.{among, found-way, not-among}
use Rattle.column_pool.proofs.pool.ColumnPool.put.Goals as goal

pub add-requires : goal.add-requires
add-requires c = not-among c.self.inside.columns c.args.self.now c.self.view_is c.args.way c.in-None.ensures.found

pub returns-in-Some-clause-found : goal.returns-in-Some-clause-found
returns-in-Some-clause-found c = found-way c.self.inside.columns c.args.self.now c.self.view_is c.args.way c.in-Some.number c.in-Some.ensures.index

pub returns-in-Some-clause-fresh : goal.returns-in-Some-clause-fresh
returns-in-Some-clause-fresh c =
    let there = among c.self.inside.columns c.args.self.now c.self.view_is c.args.way c.in-Some.ensures.found in
    (λ told absent. false≢true told, λ absent. absurd (absent there))

pub returns-in-None-clause-fresh : goal.returns-in-None-clause-fresh
returns-in-None-clause-fresh c =
    let absent = not-among c.self.inside.columns c.args.self.now c.self.view_is c.args.way c.in-None.ensures.found in
    IfOk-weaker c.add.result _ _ (λ p new. (λ told. absent, λ missing. new)) c.add.ensures.fresh

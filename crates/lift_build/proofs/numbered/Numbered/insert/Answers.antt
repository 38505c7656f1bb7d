use Rattle.std.proofs.Common.{List, ◌+◌, subst}
use Rattle.lift_build.specs.inner.Numbers.{IsAdded}
use Rattle.lift_build.proofs.Numberings.{number-added}
use Rattle.lift_build.proofs.numbered.Numbered.insert.Goals as goal

pub returns : goal.returns
returns g c =
    let e = c.in_ok-index.ensures in
    subst (λ (old : List g.row.T.Denot). IsAdded old c.insert_full.new.self.keys c.args.value (c.in_ok-index.index + 1)) c.self.view_is
    (number-added _ c.requires g.met.T.Eq.laws c.self.inside.set.keys c.insert_full.new.self.keys c.args.value c.in_ok-index.index e.stored.0 e.keys e.stored.1 e.stored.2 e.unique)

use Rattle.std.proofs.Common.{List, ◌+◌, subst}
use Rattle.lift_build.specs.inner.Numbers.{IsNumber}
use Rattle.lift_build.proofs.Numberings.{number-found}
use Rattle.lift_build.proofs.numbered.Numbered.number_of.Goals as goal

pub returns : goal.returns
returns g c =
    subst (λ (xs : List g.row.T.Denot). IsNumber xs (c.in_ok-index.index + 1) c.args.value.now) c.self.view_is
    (number-found _ c.requires c.self.inside.set.keys c.args.value.now c.in_ok-index.index c.in_ok-index.ensures.index)

use Rattle.std.proofs.Common.{◌≡◌, ◌+◌, ◌-◌, ◌/◌, ℕ, subst, arith}
use Rattle.arc_compile.specs.inner.Rows.{IsRow}
use Rattle.arc_compile.proofs.rows.+fn-side_by_side-join+arg2+fn-side_by_side-join+arg3+side_by_side.Goals as goal

pub returns : goal.returns
returns g t c =
    let half = c.args.count / 2 in
    let all : half + (c.args.count - half) ≡ c.args.count = omega arith in
    subst (λ (n : ℕ). IsRow c.args.instance.now c.args.first n c.joined.result) all
    (c.joined.ensures c.args.instance.now c.args.first half (c.args.count - half) c.join-left.ensures.first c.join-left.ensures.second)

use Rattle.std.proofs.Common.{◌≡◌, ℕ, ◌+◌, ◌-◌, ◌≤◌, Option, Some, None, sym, subst, ⊎_elim, arith}
use Rattle.std.proofs.lemmas.Bool.{cases_lt}
use Rattle.lift_build.specs.inner.Tables.{IsLeast}
use Rattle.lift_build.proofs.TableLoops.{least-light, least-same, least-more, least-never, least-full}
use Rattle.lift_build.proofs.tables.copies_for.Goals as goal

pub returns-then-weight-eq0 : goal.returns-then-weight-eq0
returns-then-weight-eq0 c = least-same c.args.behind.now c.args.weight c.args.copies c.args.sum c.if-behind-sum.false c.if-weight-eq0.true

pub returns-then-sum-weight : goal.returns-then-sum-weight
returns-then-sum-weight c = least-light c.args.behind.now c.args.weight c.args.copies c.args.sum c.if-behind-sum.false c.if-sum-weight.true

pub returns-in-Some : goal.returns-in-Some
returns-in-Some c =
    let before = c.args.sum - c.args.weight in
    let there : before + c.args.weight ≡ c.args.sum = omega arith in
    let positive : 1 ≤ c.args.weight = ⊎_elim (λ lt. omega arith) (λ ge. absurd (c.if-weight-eq0.false (omega arith))) (cases_lt 0 c.args.weight) in
    let is : IsLeast c.args.behind.now c.args.weight c.args.copies before (Some c.in-Some.taken) = subst (λ (o : Option ℕ). IsLeast c.args.behind.now c.args.weight c.args.copies before o) c.in-Some.is (c.requires.least before (omega arith)) in
    ⊎_elim
    (λ lt. subst (λ (o : Option ℕ). IsLeast c.args.behind.now c.args.weight c.args.copies c.args.sum o) (sym (c.one_more.ensures.more lt)) (least-more c.args.behind.now c.args.weight c.args.copies c.args.sum before c.in-Some.taken c.if-behind-sum.false there is))
    (λ ge. subst (λ (o : Option ℕ). IsLeast c.args.behind.now c.args.weight c.args.copies c.args.sum o) (sym (c.one_more.ensures.full ge)) (least-full c.args.behind.now c.args.weight c.args.copies c.args.sum before c.in-Some.taken c.if-behind-sum.false there ge is))
    (cases_lt c.in-Some.taken c.args.copies)

pub returns-in-None : goal.returns-in-None
returns-in-None c =
    let before = c.args.sum - c.args.weight in
    let there : before + c.args.weight ≡ c.args.sum = omega arith in
    let positive : 1 ≤ c.args.weight = ⊎_elim (λ lt. omega arith) (λ ge. absurd (c.if-weight-eq0.false (omega arith))) (cases_lt 0 c.args.weight) in
    let is : IsLeast c.args.behind.now c.args.weight c.args.copies before None = subst (λ (o : Option ℕ). IsLeast c.args.behind.now c.args.weight c.args.copies before o) c.in-None.is (c.requires.least before (omega arith)) in
    least-never c.args.behind.now c.args.weight c.args.copies c.args.sum before c.if-behind-sum.false there is

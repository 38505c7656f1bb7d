use Rattle.std.proofs.Common.{◌≡◌, ℕ, ◌+◌, ◌++◌, ◌∷◌, [], List, Option, length, sym, subst, inr, arith}
use Rattle.lift_build.specs.inner.Tables.{MayBeNext}
use Rattle.lift_build.proofs.TableLoops.{TableSoFar, table-next, table-end}
use Rattle.lift_build.proofs.tables.table_of.Goals as goal

pub loop-sum-preserved : goal.loop-sum-preserved
loop-sum-preserved c =
    let more = table-next c.args.behind.now c.args.weight c.args.copies c.loop-sum.sum c.loop-sum.least.items c.loop-sum.table.items c.loop-sum.last c.copies_for-needed.result c.marked-last.result c.loop-sum.invariant c.copies_for-needed.ensures c.marked-last.ensures in
    subst (λ (least : List (Option ℕ)). TableSoFar c.args.behind.now c.args.weight c.args.copies (c.loop-sum.sum + 1) least c.push-in-loop-sum.new.self.items c.marked-last.result) (sym c.in_ok-push.ensures.items)
    (subst (λ (table : List ℕ). TableSoFar c.args.behind.now c.args.weight c.args.copies (c.loop-sum.sum + 1) (c.loop-sum.least.items ++ c.copies_for-needed.result ∷ []) table c.marked-last.result) (sym c.in_ok-push-2.ensures.items) more)

pub returns : goal.returns
returns c =
    let whole : c.loop-sum.sum ≡ length c.args.behind.now = omega arith in
    subst (λ (table : List ℕ). MayBeNext c.args.behind.now c.args.weight c.args.copies table) (sym c.new.ensures) (inr (table-end c.args.behind.now c.args.weight c.args.copies c.loop-sum.sum c.loop-sum.least.items c.loop-sum.table.items c.loop-sum.last whole c.loop-sum.invariant))

use Rattle.std.proofs.Common.{◌≡◌, ℕ, List, replicate, get_or, sym, subst, rules}
use Rattle.needs_check.proofs.Laying.{zeros_clear}
use Rattle.needs_check.proofs.room.NeedRoom.new.Goals as goal

pub invariant_of-result : goal.invariant_of-result
invariant_of-result c =
    let zeros : c.in_ok-vec.field-0.items ≡ replicate c.arc_count-arcs.result 0 = search rules in
    λ k. subst (λ (xs : List ℕ). get_or xs k 0 ≡ 0) (sym zeros) (zeros_clear c.arc_count-arcs.result k)

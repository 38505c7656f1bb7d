use Rattle.std.proofs.Common.{ℕ, List, sym, subst}
use Rattle.std.specs.Prelude.{Contains}
use Rattle.std.specs.Ordering.{nat_cmp}
use Rattle.std.specs.Cmp.Lexicographic.{slice_cmp}
use Rattle.std.proofs.lemmas.Map.Keys.{Less-from_sorted}
use Rattle.lift_build.proofs.mains.in_order.Goals as goal

pub returns : goal.returns
returns g c =
    record {
      ordered = λ i j d lt in_range. Less-from_sorted (slice_cmp nat_cmp) c.sort_distinct.new.all.items i j d c.sort_distinct.ensures.sorted lt in_range;
      same = λ l. (
        λ m. subst (λ (zs : List (List ℕ)). Contains zs l) c.in_ok-sorted.ensures.items ((c.sort_distinct.ensures.same l).0 m),
        λ m. (c.sort_distinct.ensures.same l).1 (subst (λ (zs : List (List ℕ)). Contains zs l) (sym c.in_ok-sorted.ensures.items) m),
      );
    }

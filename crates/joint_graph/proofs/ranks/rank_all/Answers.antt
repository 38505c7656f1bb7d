use Rattle.std.proofs.Common.{◌↔◌, List, length, get_or, sym, ap, subst}
use Rattle.std.specs.Prelude.{Contains}
use Rattle.std.specs.List.Sorted.{IsStrictlySortedBy}
use Rattle.std.proofs.lemmas.List.Elements.{Contains-get_or}
use Rattle.joint_graph.specs.Numbers.{IsNumber}
use Rattle.joint_graph.proofs.RankLemmas.{ranks-fewer}
use Rattle.joint_graph.proofs.ranks.rank_all.Goals as goal

pub numbers_in-requires-clause-ordered : goal.numbers_in-requires-clause-ordered
numbers_in-requires-clause-ordered g c = subst (λ (zs : List g.row.T.Denot). IsStrictlySortedBy g.T.Ord.cmp zs) (sym c.as_slice.ensures.value) c.sort_distinct.ensures.sorted

pub numbers_in-requires-clause-there : goal.numbers_in-requires-clause-there
numbers_in-requires-clause-there g c = λ k d lt.
    let there = subst (λ (zs : List g.row.T.Denot). Contains zs (get_or c.args.labels.now k d)) (sym c.in_ok-distinct.ensures.items) (Contains-get_or c.args.labels.now k d lt) in
    subst (λ (zs : List g.row.T.Denot). Contains zs (get_or c.args.labels.now k d)) (sym c.as_slice.ensures.value) ((c.sort_distinct.ensures.same (get_or c.args.labels.now k d)).1 there)

pub returns : goal.returns
returns g c =
    let distinct : List g.row.T.Denot = c.sort_distinct.new.all.items in
    let exact : (x : g.row.T.Denot) → Contains distinct x ↔ Contains c.args.labels.now x = λ x. (
      λ m. subst (λ (zs : List g.row.T.Denot). Contains zs x) c.in_ok-distinct.ensures.items ((c.sort_distinct.ensures.same x).0 m),
      λ m. (c.sort_distinct.ensures.same x).1 (subst (λ (zs : List g.row.T.Denot). Contains zs x) (sym c.in_ok-distinct.ensures.items) m),
    ) in (
      distinct,
      record {
        sorted = c.sort_distinct.ensures.sorted;
        exact = exact;
        few = ranks-fewer _ g.met.T.Ord.total c.args.labels.now distinct c.sort_distinct.ensures.sorted exact;
        sized = c.in_ok-numbers.ensures.sized;
        each = λ i d lt. subst (λ (zs : List g.row.T.Denot). IsNumber zs (get_or c.in_ok-numbers.numbers.items i 0) (get_or c.args.labels.now i d)) c.as_slice.ensures.value (c.in_ok-numbers.ensures.each i d lt);
      },
      ap length c.as_slice-2.ensures.value,
    )

use Rattle.std.proofs.lemmas.List.Filters.{dedup_is}
use Rattle.std.proofs.lemmas.List.Kept.{IsStrictlySortedBy-dedup, Contains-dedup, Contains-from_dedup}
use Rattle.std.proofs.lemmas.List.Sorted.{Contains-permutation, IsPermutation-sym}
use Rattle.label_graph.proofs.lists.sort_distinct.Goals as goal

pub returns-clause-sorted : goal.returns-clause-sorted
returns-clause-sorted g c =
    let kept = dedup_is g.T.PartialEq.eq c.sort_unstable.new.self.items c.dedup.new.self.items c.dedup.ensures.filtered in
    rw kept (IsStrictlySortedBy-dedup g.met.T.Ord.total g.met.T.Ord.matches_eq c.sort_unstable.new.self.items c.sort_unstable.ensures.sorted)

pub returns-clause-same : goal.returns-clause-same
returns-clause-same g c =
    let kept = dedup_is g.T.PartialEq.eq c.sort_unstable.new.self.items c.dedup.new.self.items c.dedup.ensures.filtered in
    let old = c.args.all.now.items in
    let sorted = c.sort_unstable.new.self.items in
    rw kept (λ x. (
      λ m. Contains-permutation sorted old x (IsPermutation-sym old sorted c.sort_unstable.ensures.permutation) (Contains-from_dedup g.T.PartialEq.eq sorted x m),
      λ m. Contains-dedup g.met.T.Eq.laws c.requires sorted x (Contains-permutation old sorted x c.sort_unstable.ensures.permutation m),
    ))

use Rattle.std.proofs.Common.{ℕ, sym, subst, arith}
use Rattle.std.specs.Prelude.{Contains}
use Rattle.std.proofs.lemmas.List.{length-append}
use Rattle.joint_graph.proofs.RankLemmas.{numbers-more}
use Rattle.joint_graph.proofs.ranks.numbers_in.Goals as goal

pub loop-index-preserved : goal.loop-index-preserved
loop-index-preserved g c =
    rw c.in_ok-push.ensures.items (record {
      count = omega (arith, length-append {A = ℕ}, c.loop-index.invariant.count);
      each = numbers-more c.args.distinct.now c.args.labels.now c.loop-index.index c.index-labels-index.result c.loop-index.numbers.items c.number_in.result c.loop-index-test.true c.index-labels-index.is c.loop-index.invariant.count c.loop-index.invariant.each c.number_in.ensures;
    })

pub number_in-requires-clause-there : goal.number_in-requires-clause-there
number_in-requires-clause-there g c = subst (λ (y : g.row.T.Denot). Contains c.args.distinct.now y) (sym c.index-labels-index.is) (c.requires.there c.loop-index.index c.index-labels-index.result c.loop-index-test.true)

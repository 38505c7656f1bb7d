use Rattle.std.proofs.Common.{◌<◌, ◌^◌, ℕ, rules, arith, length}
use Rattle.std.proofs.lemmas.List.{length-append}
use Rattle.std.specs.Prelude.{Contains}
use Rattle.label_graph.proofs.Numbering.{nodes-more}
use Rattle.label_graph.proofs.images.merged_nodes.Goals as goal

pub node_of-requires : goal.node_of-requires
node_of-requires g c =
    let few : length c.args.numbers.now.keys < 2 ^ 63 = omega (arith, c.len-count.ensures.small, c.len-count.ensures.len) in
    let there : Contains c.args.numbers.now.keys c.label-item.result = rw c.label-item.is (c.requires.there c.loop-label.label-index c.label-item.result c.loop-label-test.true) in
    (search rules, (c.requires.small, (few, there)))

pub loop-label-preserved : goal.loop-label-preserved
loop-label-preserved g c =
    let old = c.loop-label.nodes.items in
    rw c.in_ok-push.ensures.items (record {
      count = omega (arith, length-append {A = ℕ}, c.loop-label.invariant.count);
      each = nodes-more c.args.labels.now c.args.numbers.now.keys c.loop-label.label-index c.label-item.result old c.node_of.result c.loop-label-test.true c.label-item.is c.loop-label.invariant.count c.loop-label.invariant.each c.node_of.ensures;
    })

use Rattle.std.proofs.Common.{◌≡◌, ℕ, List, Option, None, get_or, arith}
use Rattle.std.proofs.lemmas.List.{length-append, get_or_read}
use Rattle.joint_graph.specs.declared.mains.Key.{Key}
use Rattle.joint_graph.specs.inner.Classes.{key_of}
use Rattle.joint_graph.proofs.ClassLemmas.{keys-more}
use Rattle.joint_graph.proofs.mains.keys_of.Goals as goal

pub loop-index-preserved : goal.loop-index-preserved
loop-index-preserved g c =
    let classes = c.args.classes.now in
    let ways = c.args.ways.now in
    let k = c.loop-index.index in
    let way : Option (List ℕ) = c.index-ways-index.result in
    let same : way ≡ get_or ways k None = get_or_read ways k way (omega (arith, c.requires.sized, c.loop-index-test.true)) c.index-ways-index.is None in
    let key : Key g.row.N = record { class = get_or classes k 0; way = record { 0 = way } } in
    let is : key ≡ key_of classes ways k = λ i. record { class = get_or classes k 0; way = record { 0 = same i } } in
    rw c.in_ok-push.ensures.items (record {
      count = omega (arith, length-append {A = Key g.row.N}, c.loop-index.invariant.count);
      each = keys-more classes ways k c.loop-index.keys.items key c.loop-index.invariant.count is c.loop-index.invariant.each;
    })

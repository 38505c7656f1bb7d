use Rattle.label_graph.proofs.Numbering.{keys-more}
use Rattle.label_graph.proofs.images.numbered.Goals as goal

pub loop-label-preserved : goal.loop-label-preserved
loop-label-preserved g c = keys-more c.args.distinct.now c.loop-label.label-index c.label-item.result c.loop-label.numbers.keys c.insert.new.self.keys c.requires.ordered c.loop-label-test.true c.label-item.is c.loop-label.invariant c.in_ok-insert.ensures.keys

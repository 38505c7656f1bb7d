use Rattle.search_tree.proofs.Emission.{certified}
use Rattle.search_tree.proofs.lines.tree_certificate.Goals as goal

pub returns-clause-certified : goal.returns-clause-certified
returns-clause-certified c = certified c.args.instance.now c.args.graph.now c.args.target c.requires.claim c.requires.goal c.args.tree.now c.in_ok-lines.lines c.in_ok-lines.ensures.written

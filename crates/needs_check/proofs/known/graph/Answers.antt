use Rattle.arc_num.specs.declared.TheConstants.{MAX_ITEMS}
use Rattle.flow_model.specs.inner.Known.{IsKnownGraph}
use Rattle.flow_model.proofs.ArcsKnown.{known_graph}
use Rattle.needs_check.proofs.KnownArcs.{carried_among}
use Rattle.needs_check.proofs.known.graph.Goals as goal

pub returns-clause-carried : goal.returns-clause-carried
returns-clause-carried c =
    let known : IsKnownGraph c.args.instance.now c.args.graph.now = known_graph c.args.instance.now c.args.graph.now c.known.ensures c.known-2.ensures c.requires in
    carried_among MAX_ITEMS c.args.graph.now known.arcs

pub returns-clause-types : goal.returns-clause-types
returns-clause-types c = (known_graph c.args.instance.now c.args.graph.now c.known.ensures c.known-2.ensures c.requires).types

pub returns-clause-items : goal.returns-clause-items
returns-clause-items c = c.known.ensures.item_count

pub returns-clause-few : goal.returns-clause-few
returns-clause-few c = (known_graph c.args.instance.now c.args.graph.now c.known.ensures c.known-2.ensures c.requires).row

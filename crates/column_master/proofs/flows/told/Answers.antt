use Rattle.std.proofs.Common.{arith, rules}
use Rattle.arc_num.specs.declared.TheConstants.{MAX_PRICE}
use Rattle.cert_text.specs.Lines.{IsBetween}
use Rattle.column_master.proofs.ToldFlows.{values_flow}
use Rattle.column_master.proofs.flows.told.Goals as goal

pub returns : goal.returns
returns c =
    let scale : IsBetween 1 MAX_PRICE c.min.result = search rules in
    values_flow c.args.graph.now (record { scale = c.min.result; parts = c.in_ok-parts.parts }) c.args.values.now scale (omega arith) c.requires.size c.requires.conserved c.in_ok-parts.ensures.listed c.in_ok-parts.ensures.holds

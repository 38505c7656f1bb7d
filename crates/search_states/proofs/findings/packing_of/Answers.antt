use Rattle.std.proofs.Common.{◌≡◌, true, false, Some, subst, ◌∙◌}
use Rattle.flow_model.proofs.BrokenRows.{answered}
use Rattle.pattern_extract.specs.declared.extracts.ExtractFault.{ExtractFault}
use Rattle.pattern_extract.specs.Extracts.{IsReason}
use Rattle.search_states.proofs.findings.packing_of.Goals as goal

pub unreachable-requires : goal.unreachable-requires
unreachable-requires c =
    let reason = subst (λ (f : ExtractFault). IsReason c.args.instance.now c.args.graph.now c.args.only.now.flow.values f) c.in-Err-NotFlow.field-0-is (c.in-Err-NotFlow.ensures) in
    let none = (answered c.args.instance.now c.args.graph.now c.args.only.now.flow.values (Some c.in-Err-NotFlow.field-0-0) (c.requires.only.inside.size ∙ c.requires.size) reason).1 c.requires.only.flow in
    absurd (let bad : true ≡ false = none in cc)

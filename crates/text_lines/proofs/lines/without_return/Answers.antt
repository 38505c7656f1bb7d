use Rattle.std.proofs.Common.{sym, ◌∙◌}
use Rattle.text_lines.proofs.Splits.{returned, kept_whole}
use Rattle.text_lines.proofs.lines.without_return.Goals as goal

pub returns-in-Some : goal.returns-in-Some
returns-in-Some c =
    let facts = c.in-Some.ensures.cases in
    facts.1 ∙ sym (returned c.args.line.now facts.0)

pub returns-in-None : goal.returns-in-None
returns-in-None c = sym (kept_whole c.args.line.now c.in-None.ensures.cases)

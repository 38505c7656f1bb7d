use Rattle.std.proofs.Common.{◌∙◌, ap, List, ℕ, ◌++◌, ◌+◌}
use Rattle.arc_program.specs.Reports.{bins_text}
use Rattle.arc_program.specs.Kept.{empty_line, empties_of}
use Rattle.arc_program.proofs.ReportLemmas.{empty_lines-more}
use Rattle.arc_program.proofs.kept.push_empty_lines.Goals as goal

pub loop-t-preserved : goal.loop-t-preserved
loop-t-preserved c =
    let t : ℕ = c.loop-t.t in
    c.in_ok-push_empty_line.ensures
    ∙ (ap (λ (n : ℕ). c.loop-t.out.items ++ bins_text (empty_line (t + 1) n)) c.empty_count.ensures
    ∙ (ap (λ (zs : List ℕ). zs ++ bins_text (empty_line (t + 1) (empties_of (t + 1) c.args.bins.now))) c.loop-t.invariant
    ∙ empty_lines-more t c.args.bins.now c.args.out.now.items))

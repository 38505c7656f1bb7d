use Rattle.std.proofs.Common.{List, ℕ, ◌∷◌, ◌+◌, sym, ap, ◌∙◌, drop, length}
use Rattle.text_lines.specs.Lines.{lines_of}
use Rattle.text_lines.proofs.Splits.{split_at_feed, split_last, take_rest}
use Rattle.text_lines.proofs.lines.split_line.Goals as goal

pub returns-in-None-clause-lines : goal.returns-in-None-clause-lines
returns-in-None-clause-lines c =
    let rest = take_rest (length c.args.text.now) c.args.text.now in
    split_last c.args.text.now c.requires (sym c.in-None.ensures) ∙ ap (λ (z : List ℕ). c.args.text.now ∷ lines_of z) (sym rest)

pub returns-in-Some-clause-lines : goal.returns-in-Some-clause-lines
returns-in-Some-clause-lines c =
    let rest = take_rest (c.in-Some.at + 1) c.args.text.now in
    let cut = split_at_feed c.args.text.now c.in-Some.at (sym c.in-Some.ensures) in
    cut ∙ (ap (λ (z : List ℕ). z ∷ lines_of (drop (c.in-Some.at + 1) c.args.text.now)) (sym c.without_return.ensures) ∙ ap (λ (z : List ℕ). c.without_return.result.now ∷ lines_of z) (sym rest))

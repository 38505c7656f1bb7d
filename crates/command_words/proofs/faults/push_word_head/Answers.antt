use Rattle.std.proofs.Common.{List, ℕ, ◌++◌, ◌∙◌, ap, append_assoc}
use Rattle.std.specs.Prelude.{codes, decimal}
use Rattle.std.proofs.lemmas.Result.{on_ok_weaker}
use Rattle.command_words.proofs.faults.push_word_head.Goals as goal

pub returns : goal.returns
returns c =
    on_ok_weaker c.push_bytes-2.result
    (λ e. e ∙ (ap (λ (zs : List ℕ). zs ++ codes ": ") (c.in_ok-push_number.ensures.ok ∙ (ap (λ (n : ℕ). c.push_bytes.new.out.items ++ decimal n) c.from.ensures ∙ ap (λ (zs : List ℕ). zs ++ decimal c.args.word) c.in_ok-push_bytes.ensures.ok)) ∙ simp append_assoc))
    c.push_bytes-2.ensures.ok

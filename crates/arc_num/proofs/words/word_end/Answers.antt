use Rattle.std.proofs.Common.{◌≡◌, true, get_or, arith}
use Rattle.arc_num.specs.Words.{is_white}
use Rattle.arc_num.proofs.RunLemmas.{tokens_of-taken_white, tokens_of-taken_last}
use Rattle.arc_num.proofs.words.word_end.Goals as goal

pub returns-else-not-is_white-clause-tokens : goal.returns-else-not-is_white-clause-tokens
returns-else-not-is_white-clause-tokens c =
    let white : is_white (get_or c.args.text.now c.loop-at.at 0) ≡ true = grind arith in
    tokens_of-taken_white c.args.text.now c.args.start c.loop-at.at (omega arith) (omega arith) c.loop-at.invariant.word white

pub returns-after-loop-at-clause-tokens : goal.returns-after-loop-at-clause-tokens
returns-after-loop-at-clause-tokens c =
    tokens_of-taken_last c.args.text.now c.args.start c.loop-at.at (omega arith) (omega arith) c.loop-at.invariant.word

use Rattle.std.proofs.Common.{◌≡◌, List, ℕ, sym, subst}
use Rattle.arc_num.specs.Words.{tokens_of, Splits}
use Rattle.arc_num.proofs.RunLemmas.{splits, tokens_of-split}
use Rattle.arc_num.proofs.words.tokens_are_the_longest_runs.Goals as goal

pub returns : goal.returns
returns c = λ text ts. (tokens_of-split text ts, λ (e : ts ≡ tokens_of text). subst (λ (x : List (List ℕ)). Splits text x) (sym e) (splits text))

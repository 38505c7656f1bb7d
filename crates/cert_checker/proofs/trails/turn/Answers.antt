-- The last branch alone is another.
use Rattle.std.proofs.Common.{◌≡◌, ◌∷◌, ◌++◌, ◌-◌, ◌∙◌, ℕ, List, [], length, set, get_or, ap, rules}
use Rattle.cert_checker.specs.declared.trails.Branch.{Branch}
use Rattle.cert_checker.specs.inner.Turns.{other_branch}
use Rattle.cert_checker.proofs.WalkSteps.{last_set, last_is}
use Rattle.cert_checker.proofs.trails.turn.Goals as goal

pub returns-clause-trail : goal.returns-clause-trail
returns-clause-trail c outer is =
    let xs : List Branch = c.args.trail.now.items in
    let n : ℕ = c.len-last.result - 1 in
    let size : c.len-last.result ≡ length xs = search rules in
    let place : n ≡ length (outer ++ c.args.branch ∷ []) - 1 = ap (λ k. k - 1) size ∙ ap (λ (l : List Branch). length l - 1) is in
    let old : c.index_mut.result.now ≡ c.args.branch =
    c.index_mut.ensures.value
    ∙ ap (λ (l : List Branch). get_or l n c.index_mut.result.now) is
    ∙ last_is outer c.args.branch c.index_mut.result.now n place in
    ap (λ (b : Branch). set xs n (other_branch b)) old
    ∙ ap (λ (l : List Branch). set l n (other_branch c.args.branch)) is
    ∙ last_set outer c.args.branch (other_branch c.args.branch) n place

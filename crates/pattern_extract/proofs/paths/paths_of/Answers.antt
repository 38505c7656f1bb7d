use Rattle.std.proofs.Common.{◌≤◌, List, ℕ, length, sym, ap, ◌∙◌, subst}
use Rattle.std.proofs.lemmas.Result.{IfOk-weaker}
use Rattle.pattern_extract.specs.Runs.{AreConserved}
use Rattle.pattern_extract.specs.inner.Walks.{HoldAll}
use Rattle.pattern_extract.proofs.RunSums.{runs-of}
use Rattle.pattern_extract.proofs.paths.paths_of.Goals as goal

pub runs_of-requires-clause-conserved : goal.runs_of-requires-clause-conserved
runs_of-requires-clause-conserved c = subst (λ (values : List ℕ). AreConserved c.args.graph.now values) (sym c.as_slice.ensures) c.requires.conserved

pub returns-clause-few : goal.returns-clause-few
returns-clause-few c =
    IfOk-weaker c.runs_of.result _ _
    (λ runs few. subst (λ (n : ℕ). length runs.items ≤ n) (ap (length {A = ℕ}) c.as_slice.ensures ∙ c.requires.size) few)
    c.runs_of.ensures.few

pub returns-clause-runs : goal.returns-clause-runs
returns-clause-runs c =
    IfOk-weaker c.runs_of.result _ _
    (λ runs all. runs-of c.args.graph.now c.args.flow.now.values runs.items c.known.ensures (subst (λ (values : List ℕ). HoldAll c.args.graph.now values runs.items) c.as_slice.ensures all))
    c.runs_of.ensures.runs

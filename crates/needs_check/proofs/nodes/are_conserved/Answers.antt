use Rattle.std.proofs.Common.{◌≡◌, ℕ, List, subst, rules}
use Rattle.std.specs.Prelude.{◌↔◌, IsTrue}
use Rattle.flow_model.specs.Flows.{AreConserved}
use Rattle.needs_check.proofs.nodes.are_conserved.Goals as goal

pub returns-clause-value : goal.returns-clause-value
returns-clause-value c =
    let lent : c.new-2.result ≡ c.args.values.now.items = search rules in
    subst (λ (xs : List ℕ). IsTrue c.keeps_nodes-conserved.result ↔ AreConserved c.args.graph.now xs) lent c.keeps_nodes-conserved.ensures.value

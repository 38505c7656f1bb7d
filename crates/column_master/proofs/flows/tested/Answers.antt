use Rattle.std.proofs.Common.{ℕ, List, sym, subst}
use Rattle.flow_model.specs.Flows.{AreConserved}
use Rattle.column_master.proofs.flows.tested.Goals as goal

pub told-requires-clause-conserved : goal.told-requires-clause-conserved
told-requires-clause-conserved c = subst (λ (xs : List ℕ). AreConserved c.args.graph.now xs) (sym c.as_slice-then-are_small.ensures) (c.are_conserved-conserved.ensures.value c.if-conserved.true)

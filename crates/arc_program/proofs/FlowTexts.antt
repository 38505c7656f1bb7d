-- Second texts that give a flow, or give none.
use Rattle.std.proofs.Common.{◌≡◌, ◌∙◌, ℕ, List, sym, ap, subst, inl, inr, Some, Ok, Err, Result, arith}
use Rattle.packing_laws.specs.Instances.{InstanceValue}
use Rattle.flow_graph.specs.Arcs.{TypeValue}
use Rattle.flow_model.specs.Flows.{IsFlow}
use Rattle.flow_model.proofs.BrokenRows.{answered}
use Rattle.solution_text.specs.Solutions.{solution_meaning}
use Rattle.arc_compile.specs.CompileLaws.{CompiledGraphsAreOne}
use Rattle.arc_program.specs.declared.status.Status.{Status}
use Rattle.arc_program.specs.Printing.{Line}
use Rattle.arc_program.specs.commands.Extract.{IsCompiled, IsExtracted, GivesFlow, HasBadLine, HasBadRow, GivesNoFlow}

-- where there is a report, the second text gives a flow
pub gives_flow : (I : InstanceValue) (bytes : List ℕ) (status : Status) (text : List ℕ) → IsExtracted I (Some bytes) status text → GivesFlow I bytes
gives_flow I bytes status text report = record {
  graph = report.graph;
  compiled = report.compiled;
  values = report.values;
  given = report.given;
  flow = report.packing_of.flow;
}

-- a result is one value
pub ok_one : {T E : Type 0} (r : Result T E) (x y : T) → r ≡ Ok x → r ≡ Ok y → x ≡ y
ok_one (Ok z) x y e f = let same : Ok x ≡ Ok y = sym e ∙ f in ap (λ (r : Result _ _). value x r) same
  where
    value : {A B : Type 0} → A → Result A B → A
    value d (Ok a) = a
    value d (Err b) = d
ok_one (Err z) x y e f = absurd (let bad : Err z ≡ Ok x = e in cc)

module _ (one : CompiledGraphsAreOne) (I : InstanceValue) (name bytes : List ℕ) (line : Line) (fit : GivesFlow I bytes) where
  one_graph : (g : List TypeValue) → IsCompiled I g → fit.graph ≡ g
  one_graph g compiled = (one I fit.graph g fit.compiled.0 compiled.0 fit.compiled.1 compiled.1).0

  no_bad_line : HasBadLine I name (Some bytes) line → ⊥
  no_bad_line bad =
      let meant : solution_meaning bad.graph bytes ≡ Ok fit.values = subst (λ (g : List TypeValue). solution_meaning g bytes ≡ Ok fit.values) (one_graph bad.graph bad.compiled) fit.given.1 in
      let clash : Ok fit.values ≡ Err bad.fault = sym meant ∙ bad.given.1 in
      cc

  no_bad_row : HasBadRow I name (Some bytes) line → ⊥
  no_bad_row bad =
      let meant : solution_meaning bad.graph bytes ≡ Ok fit.values = subst (λ (g : List TypeValue). solution_meaning g bytes ≡ Ok fit.values) (one_graph bad.graph bad.compiled) fit.given.1 in
      let same : fit.values ≡ bad.values = ok_one (solution_meaning bad.graph bytes) fit.values bad.values meant bad.given.1 in
      let over : IsFlow I bad.graph fit.values = subst (λ (g : List TypeValue). IsFlow I g fit.values) (one_graph bad.graph bad.compiled) fit.flow in
      let flow : IsFlow I bad.graph bad.values = subst (IsFlow I bad.graph) same over in
      let none = (answered I bad.graph bad.values (Some bad.row) flow.size bad.first).1 flow in
      cc

  -- a text that gives a flow is not refused
  pub flow_or_not : GivesNoFlow I name (Some bytes) line → ⊥
  flow_or_not (inl long) = omega (arith, long.1, fit.given.0)
  flow_or_not (inr (inl bad)) = no_bad_line bad
  flow_or_not (inr (inr bad)) = no_bad_row bad

use Rattle.std.proofs.Common.{List, ℕ, refl, string_bytes, sym, subst}
use Rattle.command_words.specs.declared.commands.Command.{Command}
use Rattle.command_words.specs.Requests.{Checks, Extracts, request_of, MakesGraphs}
use Rattle.arc_program.specs.World.{ShelfSeen, shelf_seen}
use Rattle.arc_program.specs.inner.Work.{Works}
use Rattle.arc_program.proofs.WorkLemmas.{works_not}
use Rattle.arc_program.proofs.commands.work_on.Goals as goal

pub returns-in_err-report-in-Compile-clause-works : goal.returns-in_err-report-in-Compile-clause-works
returns-in_err-report-in-Compile-clause-works g c =
    works_not (request_of c.args.command.now) c.args.instance.now _ c.in_err-report-in-Compile.field-0.0 c.from_residual.result (subst (λ (command : Command). MakesGraphs (request_of command)) (sym c.in-Compile.is) refl) c.from_residual.ensures.1 c.in_err-report-in-Compile.ensures.large

pub returns-in-Export-clause-works : goal.returns-in-Export-clause-works
returns-in-Export-clause-works g c =
    let shelf : ShelfSeen = shelf_seen g.H.Shelf c.args.shelf.now in
    subst (λ (command : Command). Works (request_of command) c.args.instance.now shelf shelf c.report-in-Export.result) (sym c.in-Export.is) (c.report-in-Export.ensures (string_bytes c.in-Export.name) c.in-Export.mvp shelf)

pub returns-in_err-report-in-Solve-clause-works : goal.returns-in_err-report-in-Solve-clause-works
returns-in_err-report-in-Solve-clause-works g c =
    works_not (request_of c.args.command.now) c.args.instance.now _ c.in_err-report-in-Solve.field-0.0 c.from_residual-in_err-report-in-Solve.result (subst (λ (command : Command). MakesGraphs (request_of command)) (sym c.in-Solve.is) refl) c.from_residual-in_err-report-in-Solve.ensures.1 c.in_err-report-in-Solve.ensures.large

pub returns-in_err-report-in-Make-clause-works : goal.returns-in_err-report-in-Make-clause-works
returns-in_err-report-in-Make-clause-works g c =
    works_not (request_of c.args.command.now) c.args.instance.now _ c.in_err-report-in-Make.field-0.0 c.from_residual-in_err-report-in-Make.result (subst (λ (command : Command). MakesGraphs (request_of command)) (sym c.in-Make.is) refl) c.from_residual-in_err-report-in-Make.ensures.1 c.in_err-report-in-Make.ensures.large

pub returns-in-Extract-clause-works : goal.returns-in-Extract-clause-works
returns-in-Extract-clause-works g c =
    let before : ShelfSeen = shelf_seen g.H.Shelf c.args.shelf.now in
    let after : ShelfSeen = shelf_seen g.H.Shelf c.report-in-Extract.new.shelf in
    let name : List ℕ = string_bytes c.in-Extract.name in
    subst (λ (command : Command). Works (request_of command) c.args.instance.now before after c.report-in-Extract.result) (sym c.in-Extract.is)
    (subst (λ (solution : List ℕ). Works (Extracts name solution c.in-Extract.mvp) c.args.instance.now before after c.report-in-Extract.result) c.as_str.ensures.value (c.report-in-Extract.ensures.works name c.in-Extract.mvp))

pub returns-in-Check-clause-works : goal.returns-in-Check-clause-works
returns-in-Check-clause-works g c =
    let before : ShelfSeen = shelf_seen g.H.Shelf c.args.shelf.now in
    let after : ShelfSeen = shelf_seen g.H.Shelf c.report-in-Check.new.shelf in
    let name : List ℕ = string_bytes c.in-Check.name in
    subst (λ (command : Command). Works (request_of command) c.args.instance.now before after c.report-in-Check.result) (sym c.in-Check.is)
    (subst (λ (certificate : List ℕ). Works (Checks name certificate c.in-Check.mvp c.in-Check.workers) c.args.instance.now before after c.report-in-Check.result) c.as_str-in-Check.ensures.value (c.report-in-Check.ensures.works name c.in-Check.mvp))

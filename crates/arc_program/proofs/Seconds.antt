-- What holds of each request and its second text: a line for each command.
use Rattle.std.proofs.Common.{◌≡◌, ℕ, ◌+◌, ◌<◌, Bool, true, false, List, Option, sym, subst, Some, arith}
use Rattle.arc_io.specs.Bytes.{Told}
use Rattle.packing_laws.specs.Instances.{InstanceValue}
use Rattle.flow_graph.specs.Arcs.{TypeValue}
use Rattle.flow_graph.specs.Chords.{points_of}
use Rattle.flow_model.specs.Boxes.{root_ranges}
use Rattle.cert_text.specs.declared.lines.Certificate.{Certificate}
use Rattle.branch_search.specs.declared.outcomes.Outcome.{Outcome}
use Rattle.branch_search.specs.declared.outcomes.Outcome.TheVariants.{Optimal, Infeasible, Bracket}
use Rattle.arc_compile.specs.declared.results.TypeSize.{TypeSize}
use Rattle.arc_compile.specs.Graphs.{IsSmall}
use Rattle.joint_compile.specs.JointCompiled.{IsJointSmall}
use Rattle.command_words.specs.Requests.{Request, Compiles, Solves, Checks, Exports, Extracts, Bounds, Makes, MakesGraphs, MakesJoint}
use Rattle.arc_program.specs.declared.status.Status.{Status}
use Rattle.arc_program.specs.declared.status.Status.TheVariants.{Done, Bracketed, Usage, BadInstance, BadCertificate, ReadFault, WriteFault, NoMemory, TooLarge, BadSolution}
use Rattle.arc_program.specs.Texts.{TextValue, second_text}
use Rattle.arc_program.specs.commands.{IsReport, IsFit, FitIsNotRejected}
use Rattle.arc_program.specs.commands.Extract.{IsCompiled}
use Rattle.arc_program.specs.commands.Solve.{IsFoundOut, outcome_status}
use Rattle.arc_program.specs.Headline.{IsEnough, GrantsEnough}
use Rattle.arc_compile.specs.CompileLaws.{CompiledGraphsAreOne}
use Rattle.arc_program.proofs.FlowTexts.{gives_flow, flow_or_not}
use Rattle.arc_program.proofs.Certain.{acceptable, accepted_or_not}
use Rattle.cert_stream.specs.Laws.{VerdictsAreExact}
use Rattle.arc_num.specs.declared.TheConstants.{MAX_CERT, MAX_INSTANCE}
use Rattle.std.proofs.lemmas.Option.{same_Some}

-- the status of a run that refuses a second text
abbrev pub IsForSecond : Status → Type 0
IsForSecond Done = ⊥
IsForSecond Bracketed = ⊥
IsForSecond Usage = ⊥
IsForSecond BadInstance = ⊥
IsForSecond BadCertificate = Unit {0}
IsForSecond ReadFault = ⊥
IsForSecond WriteFault = ⊥
IsForSecond NoMemory = ⊥
IsForSecond TooLarge = ⊥
IsForSecond BadSolution = Unit {0}

pub for_second : (request : Request) (text : TextValue) → second_text request ≡ Some text → IsForSecond text.refused
for_second (Compiles name mvp workers) text e = absurd (cc)
for_second (Solves name mvp nodes certificate workers) text e = absurd (cc)
for_second (Checks name certificate mvp workers) text e = subst (λ (t : TextValue). IsForSecond t.refused) (same_Some (record { name = certificate; most = MAX_CERT; refused = BadCertificate }) text e) tt
for_second (Exports name mvp joint) text e = absurd (cc)
for_second (Extracts name solution mvp) text e = subst (λ (t : TextValue). IsForSecond t.refused) (same_Some (record { name = solution; most = MAX_INSTANCE; refused = BadSolution }) text e) tt
for_second (Bounds name mvp certificate) text e = absurd (cc)
for_second (Makes seed size nodes workers) text e = absurd (cc)

-- a report on graphs is on small ones
pub report_small : (request : Request) (second : Told) (I : InstanceValue) (status : Status) (text : List ℕ) (made : Option Certificate) → MakesGraphs request → IsReport request second I status text made → IsSmall I
report_small (Compiles name mvp workers) second I status text made makes report = report.0.small
report_small (Solves name mvp nodes certificate workers) second I status text made makes report = report.found.small
report_small (Checks name certificate mvp workers) second I status text made makes report = report.0.small
report_small (Exports name mvp false) second I status text made makes report = report.0.small
report_small (Exports name mvp true) second I status text made makes report = absurd (cc)
report_small (Extracts name solution mvp) second I status text made makes report = report.0.small
report_small (Bounds name mvp certificate) second I status text made makes report = absurd (cc)
report_small (Makes seed size nodes workers) second I status text made makes report = report.found.small

-- a report on a graph for all types is on a small one
pub report_joint_small : (request : Request) (second : Told) (I : InstanceValue) (status : Status) (text : List ℕ) (made : Option Certificate) → MakesJoint request → IsReport request second I status text made → IsJointSmall I
report_joint_small (Compiles name mvp workers) second I status text made makes report = absurd (cc)
report_joint_small (Solves name mvp nodes certificate workers) second I status text made makes report = absurd (cc)
report_joint_small (Checks name certificate mvp workers) second I status text made makes report = absurd (cc)
report_joint_small (Exports name mvp false) second I status text made makes report = absurd (cc)
report_joint_small (Exports name mvp true) second I status text made makes report = report.0.small
report_joint_small (Extracts name solution mvp) second I status text made makes report = absurd (cc)
report_joint_small (Bounds name mvp certificate) second I status text made makes report = absurd (cc)
report_joint_small (Makes seed size nodes workers) second I status text made makes report = absurd (cc)

-- no second text is read for a graph for all types
pub joint_reads_one : (request : Request) (text : TextValue) → second_text request ≡ Some text → MakesJoint request → ⊥
joint_reads_one (Compiles name mvp workers) text e makes = cc
joint_reads_one (Solves name mvp nodes certificate workers) text e makes = cc
joint_reads_one (Checks name certificate mvp workers) text e makes = cc
joint_reads_one (Exports name mvp joint) text e makes = cc
joint_reads_one (Extracts name solution mvp) text e makes = cc
joint_reads_one (Bounds name mvp certificate) text e makes = cc
joint_reads_one (Makes seed size nodes workers) text e makes = cc

-- where there is a report, the second text is fit for it
pub report_fit : (request : Request) (I : InstanceValue) (bytes : List ℕ) (status : Status) (text : List ℕ) (made : Option Certificate) → IsReport request (Some bytes) I status text made → IsFit request I bytes
report_fit (Compiles name mvp workers) I bytes status text made report = tt
report_fit (Solves name mvp nodes certificate workers) I bytes status text made report = tt
report_fit (Checks name certificate mvp workers) I bytes status text made report = acceptable I bytes status text report.0
report_fit (Exports name mvp joint) I bytes status text made report = tt
report_fit (Extracts name solution mvp) I bytes status text made report = gives_flow I bytes status text report.0
report_fit (Bounds name mvp certificate) I bytes status text made report = tt
report_fit (Makes seed size nodes workers) I bytes status text made report = tt

pub fit_is_not_rejected : CompiledGraphsAreOne → VerdictsAreExact → FitIsNotRejected
fit_is_not_rejected one verdicts (Compiles name mvp workers) I bytes line fit rejected = rejected
fit_is_not_rejected one verdicts (Solves name mvp nodes certificate workers) I bytes line fit rejected = rejected
fit_is_not_rejected one verdicts (Checks name certificate mvp workers) I bytes line fit rejected = accepted_or_not one verdicts I certificate bytes line fit rejected
fit_is_not_rejected one verdicts (Exports name mvp joint) I bytes line fit rejected = rejected
fit_is_not_rejected one verdicts (Extracts name solution mvp) I bytes line fit rejected = flow_or_not one I solution bytes line fit rejected
fit_is_not_rejected one verdicts (Bounds name mvp certificate) I bytes line fit rejected = rejected
fit_is_not_rejected one verdicts (Makes seed size nodes workers) I bytes line fit rejected = rejected

-- where a bracket is reported, the splits that are granted do not single out the points of the root box
few_points : (one : CompiledGraphsAreOne) (I : InstanceValue) (nodes : ℕ) (g : List TypeValue) (h : List TypeValue) (sizes : List TypeSize) (outcome : Outcome) → IsFoundOut I nodes g sizes outcome → outcome_status outcome ≡ Bracketed → IsCompiled I h → IsEnough nodes I h → ⊥
few_points one I nodes g h sizes (Optimal bins c) found is compiled enough = absurd (cc)
few_points one I nodes g h sizes (Infeasible c) found is compiled enough = absurd (cc)
few_points one I nodes g h sizes (Bracket lower packing c) found is compiled enough =
    let same : g ≡ h = (one I g h sizes compiled.0 found.compiled compiled.1).0 in
    let few : nodes + 1 < points_of h (root_ranges I h) = subst (λ (x : List TypeValue). nodes + 1 < points_of x (root_ranges I x)) same found.outcome_is.points in
    omega (arith, few, enough)

pub bracket_lacks_splits : CompiledGraphsAreOne → (request : Request) (second : Told) (I : InstanceValue) (text : List ℕ) (made : Option Certificate) → IsReport request second I Bracketed text made → (g : List TypeValue) → IsCompiled I g → GrantsEnough request I g → ⊥
bracket_lacks_splits one (Compiles name mvp workers) second I text made report g compiled enough = let bad : Bracketed ≡ Done = report.0.status_is in cc
bracket_lacks_splits one (Solves name mvp nodes certificate workers) second I text made report g compiled enough = few_points one I nodes report.graph g report.sizes report.outcome report.found (sym report.status_is) compiled enough
bracket_lacks_splits one (Checks name certificate mvp workers) second I text made report g compiled enough = let bad : Bracketed ≡ Done = report.0.status_is in cc
bracket_lacks_splits one (Exports name mvp false) second I text made report g compiled enough = let bad : Bracketed ≡ Done = report.0.status_is in cc
bracket_lacks_splits one (Exports name mvp true) second I text made report g compiled enough = let bad : Bracketed ≡ Done = report.0.status_is in cc
bracket_lacks_splits one (Extracts name solution mvp) second I text made report g compiled enough = let bad : Bracketed ≡ Done = report.0.status_is in cc
bracket_lacks_splits one (Bounds name mvp certificate) second I text made report g compiled enough = let bad : Bracketed ≡ Done = report.0.status_is in cc
bracket_lacks_splits one (Makes seed size nodes workers) second I text made report g compiled enough = few_points one I nodes report.graph g report.sizes report.outcome report.found (sym report.status_is) compiled enough

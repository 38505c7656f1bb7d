-- What the bytes of a solution lead to, and what is read for that.
use Rattle.std.proofs.Common.{◌≡◌, ◌⊎◌, ◌∙◌, ℕ, ◌+◌, Bool, ◌≤◌, List, length, take, drop, refl, sym, ap, subst, inl, inr, Some, None, IfSome, Ok, Err, Result, IsErrAnd}
use Rattle.arc_num.specs.declared.TheConstants.{MAX_INSTANCE}
use Rattle.arc_io.specs.Bytes.{Told}
use Rattle.packing_laws.specs.declared.packings.Bin.{Bin}
use Rattle.packing_laws.specs.Instances.{InstanceValue}
use Rattle.flow_graph.specs.Arcs.{TypeValue}
use Rattle.flow_model.specs.declared.flows.FlowRow.{FlowRow}
use Rattle.flow_model.specs.Flows.{FirstBadRow, flow_cost}
use Rattle.pattern_extract.specs.Extracts.{IsPackingOf}
use Rattle.solution_text.specs.declared.faults.SolutionFault.{SolutionFault}
use Rattle.solution_text.specs.Solutions.{solution_meaning}
use Rattle.command_words.specs.Requests.{Request, Extracts}
use Rattle.arc_compile.specs.Graphs.{IsSmall}
use Rattle.arc_program.specs.declared.commands.Report.{Report}
use Rattle.arc_program.specs.declared.commands.WorkFault.{WorkFault}
use Rattle.arc_program.specs.declared.commands.WorkFault.TheVariants as work
use Rattle.arc_program.specs.declared.loading.LoadFault.TheVariants as load
use Rattle.arc_program.specs.declared.status.Status.{Status}
use Rattle.arc_program.specs.declared.status.Status.TheVariants.{Done, BadSolution}
use Rattle.arc_program.specs.World.{ShelfSeen}
use Rattle.arc_program.specs.Reading.{HasRead, HasFailed, LeavesNothing, TakesFirst}
use Rattle.arc_program.specs.Texts.{TextValue, second_text}
use Rattle.arc_program.specs.Printing.{Line}
use Rattle.arc_program.specs.Statuses.{IsReported}
use Rattle.arc_program.specs.Requests.{IsLong}
use Rattle.arc_program.specs.Reports.{packing_text}
use Rattle.arc_program.specs.Refusals.{named_line, long_line}
use Rattle.arc_program.specs.Rejections.{fault_said, row_said}
use Rattle.arc_program.specs.commands.{IsUndecided, StopsUndecided}
use Rattle.arc_program.specs.commands.Extract.{IsCompiled, Gives, HasFault, IsExtracted, GivesNoFlow}
use Rattle.arc_program.specs.inner.Loading.{Loads}
use Rattle.arc_program.specs.inner.Work.{Works}
use Rattle.arc_program.specs.inner.Extracting.{IsKeptText, Judges}
use Rattle.arc_program.proofs.KeptLemmas.{kept_cost, kept_packing}
use Rattle.arc_program.proofs.SourceLemmas.{may_have_read, may_have_failed}

module _ (I : InstanceValue) (name bytes : List ℕ) where
  pub judges_starved : (r : Result Report WorkFault) → IsErrAnd r (λ fault. fault ≡ work.Memory) → Judges I name bytes r
  judges_starved (Ok report) here = absurd here
  judges_starved (Err fault) here = subst (λ (f : WorkFault). Judges I name bytes (Err f)) (sym here) tt

  module _ (g : List TypeValue) (compiled : IsCompiled I g) (short : length bytes ≤ MAX_INSTANCE) where
    pub judges_line : (fault : SolutionFault) (line : Line) (r : WorkFault) → solution_meaning g bytes ≡ Err fault → line ≡ named_line name (fault_said fault) → r ≡ work.Rejected line BadSolution → Judges I name bytes (Err r)
    judges_line fault line r meant said is = subst (λ (f : WorkFault). Judges I name bytes (Err f)) (sym is) (refl, inr (inl (record { graph = g; compiled = compiled; fault = fault; given = (short, meant); line_is = said })))

    module _ (values : List ℕ) (meant : solution_meaning g bytes ≡ Ok values) where
      pub judges_row : (row : FlowRow) (line : Line) (r : WorkFault) → FirstBadRow I g values (Some row) → line ≡ named_line name (row_said g row) → r ≡ work.Rejected line BadSolution → Judges I name bytes (Err r)
      judges_row row line r first said is = subst (λ (f : WorkFault). Judges I name bytes (Err f)) (sym is) (refl, inr (inr (record { graph = g; compiled = compiled; values = values; given = (short, meant); row = row; first = first; line_is = said })))

      pub judges_packing : IsSmall I → (found : List Bin) (text : List ℕ) → IsPackingOf I g values found → IsKeptText I found text → (report : Report) → report.status ≡ Done → report.text ≡ text → report.made ≡ None → report.certificate ≡ None → Judges I name bytes (Ok report)
      judges_packing small found text packing kept report status_is text_is unmade alone =
          let printed : report.text ≡ packing_text (flow_cost I g values) kept.bins = text_is ∙ kept.text_is ∙ ap (λ (n : ℕ). packing_text n kept.bins) packing.cost in (
            subst IsReported (sym status_is) tt,
            record {
              graph = g;
              compiled = compiled;
              small = small;
              values = values;
              given = (short, meant);
              found = found;
              packing_of = packing;
              bins = kept.bins;
              kept = kept.kept;
              packing = kept_packing I found kept.bins packing.packing kept.kept;
              cost = kept_cost I found kept.bins packing.packing kept.kept ∙ packing.cost;
              text_is = printed;
              status_is = status_is;
            },
            unmade,
            alone,
          )

-- what holds of the bytes that were read, where what is held is told
if_told : (told : Told) (P : List ℕ → Type 0) (bytes : List ℕ) → IfSome told (λ held. bytes ≡ held) → P bytes → IfSome told P
if_told None P bytes same here = tt
if_told (Some held) P bytes same here = subst P same here

no_flow_told : (I : InstanceValue) (name bytes : List ℕ) (told : Told) (line : Line) → IfSome told (λ held. bytes ≡ held) → GivesNoFlow I name (Some bytes) line → GivesNoFlow I name told line
no_flow_told I name bytes told line same (inl long) = inl (long.0, if_told told IsLong bytes same long.1)
no_flow_told I name bytes told line same (inr (inl bad)) = inr (inl (record { graph = bad.graph; compiled = bad.compiled; fault = bad.fault; given = if_told told (HasFault bad.graph bad.fault) bytes same bad.given; line_is = bad.line_is }))
no_flow_told I name bytes told line same (inr (inr bad)) = inr (inr (record { graph = bad.graph; compiled = bad.compiled; values = bad.values; given = if_told told (Gives bad.graph bad.values) bytes same bad.given; row = bad.row; first = bad.first; line_is = bad.line_is }))

extracted_told : (I : InstanceValue) (bytes : List ℕ) (told : Told) (status : Status) (text : List ℕ) → IfSome told (λ held. bytes ≡ held) → IsExtracted I (Some bytes) status text → IsExtracted I told status text
extracted_told I bytes told status text same r = record {
  graph = r.graph;
  compiled = r.compiled;
  small = r.small;
  values = r.values;
  given = if_told told (Gives r.graph r.values) bytes same r.given;
  found = r.found;
  packing_of = r.packing_of;
  bins = r.bins;
  kept = r.kept;
  packing = r.packing;
  cost = r.cost;
  text_is = r.text_is;
  status_is = r.status_is;
}

module _ (name solution : List ℕ) (mvp : Bool) (I : InstanceValue) (before after : ShelfSeen) where
  abbrev request : Request
  request = Extracts name solution mvp

  abbrev text_of : TextValue
  text_of = record { name = solution; most = MAX_INSTANCE; refused = BadSolution }

  refuses : IsSmall I → (line : Line) → GivesNoFlow I solution (before.held solution) line → HasRead solution MAX_INSTANCE before after → Works request I before after (Err (work.Rejected line BadSolution))
  refuses small line why read = record { text = text_of; second = refl; refused = refl; small = λ _. small; why = why; shelf = read }

  -- the bytes were read, and what they lead to is known
  pub judged_works : IsSmall I → (bytes : List ℕ) (r : Result Report WorkFault) → Loads solution (Ok bytes) before after → Judges I solution bytes r → Works request I before after r
  judged_works small bytes (Ok report) loads judged = (judged.0, (extracted_told I bytes (before.held solution) report.status report.text loads.1 judged.1, judged.2), loads.2, judged.3)
  judged_works small bytes (Err (work.Large t)) loads judged = absurd judged
  judged_works small bytes (Err work.LargeJoint) loads judged = absurd judged
  judged_works small bytes (Err (work.Unread unread)) loads judged = absurd judged
  judged_works small bytes (Err (work.Rejected line status)) loads judged =
      subst (λ (s : Status). Works request I before after (Err (work.Rejected line s))) (sym judged.0)
      (refuses small line (no_flow_told I solution bytes (before.held solution) line loads.1 judged.1) loads.2)
  judged_works small bytes (Err work.Memory) loads judged = inr (text_of, refl, may_have_read solution MAX_INSTANCE before after loads.2)

  -- the solution was too long, and that is said
  pub long_works : IsSmall I → (line : Line) (fault : WorkFault) → line ≡ long_line solution → fault ≡ work.Rejected line BadSolution → Loads solution (Err load.Long) before after → Works request I before after (Err fault)
  long_works small line fault said is loads = subst (λ (f : WorkFault). Works request I before after (Err f)) (sym is) (refuses small line (inl (said, loads.0)) loads.1)

  -- a read failed, under the name that was asked for
  pub unread_works : (said : List ℕ) → said ≡ solution → Loads solution (Err load.Failed) before after → (text : TextValue) × (second_text request ≡ Some text) × (said ≡ text.name) × HasFailed text.name text.most before after × StopsUndecided request I (before.held text.name) before after
  unread_works said same failed = (text_of, refl, same, failed, stops failed.taken)
    where
      taken_so : (told : Told) → IfSome told (λ bytes. (n : ℕ) × (n ≤ MAX_INSTANCE + 1) × (after.left ≡ Some (drop n bytes))) → IfSome told (λ bytes. (n : ℕ) × (after.left ≡ Some (drop n bytes)) × IsUndecided request I (take n bytes))
      taken_so None here = tt
      taken_so (Some bytes) here = (here.0, here.2, tt)

      stops : LeavesNothing before after ⊎ TakesFirst solution MAX_INSTANCE before after → StopsUndecided request I (before.held solution) before after
      stops (inl nothing) = inl nothing
      stops (inr taken) = inr (taken_so (before.held solution) taken)

  -- memory was wanting, behind a read that went well or not
  pub starved_failed : Loads solution (Err load.Failed) before after → Works request I before after (Err work.Memory)
  starved_failed failed = inr (text_of, refl, may_have_failed solution MAX_INSTANCE before after failed)

  pub starved_long : Loads solution (Err load.Long) before after → Works request I before after (Err work.Memory)
  starved_long loads = inr (text_of, refl, may_have_read solution MAX_INSTANCE before after loads.1)

  pub starved_reading : Loads solution (Err load.Memory) before after → Works request I before after (Err work.Memory)
  starved_reading may = inr (text_of, refl, may)

-- The work of `check`, from what judging comes to.
use Rattle.std.proofs.Common.{◌≡◌, ℕ, Bool, List, refl, sym, subst, inl, inr, None, Some, IfSome, Result, Ok, Err, take, drop}
use Rattle.arc_num.specs.declared.TheConstants.{MAX_CERT}
use Rattle.arc_io.specs.declared.IoFault.{IoFault}
use Rattle.arc_io.specs.declared.IoFault.TheVariants as io
use Rattle.arc_io.specs.Bytes.{Told}
use Rattle.packing_laws.specs.Instances.{InstanceValue}
use Rattle.flow_graph.specs.Arcs.{TypeValue}
use Rattle.cert_stream.specs.declared.verdict.Verdict.{Verdict}
use Rattle.cert_stream.specs.declared.verdict.Verdict.TheVariants.{Shown, Faulty, TooLong}
use Rattle.cert_stream.specs.Verdicts.{IsVerdict, IsSound}
use Rattle.command_words.specs.Requests.{Request, Checks}
use Rattle.arc_compile.specs.Graphs.{IsSmall}
use Rattle.arc_program.specs.declared.commands.Report.{Report}
use Rattle.arc_program.specs.declared.commands.WorkFault.{WorkFault}
use Rattle.arc_program.specs.declared.commands.WorkFault.TheVariants as work
use Rattle.arc_program.specs.declared.status.Status.TheVariants.{BadCertificate}
use Rattle.arc_program.specs.World.{ShelfSeen}
use Rattle.arc_program.specs.Reading.{HasTaken}
use Rattle.arc_program.specs.Texts.{TextValue}
use Rattle.arc_program.specs.Printing.{Line}
use Rattle.arc_program.specs.Refusals.{long_line}
use Rattle.arc_program.specs.Verdicts.{faulty_line}
use Rattle.arc_program.specs.Statuses.{IsReported}
use Rattle.arc_program.specs.commands.{StopsUndecided}
use Rattle.arc_program.specs.commands.Check.{IsUnjudged, Says}
use Rattle.arc_program.specs.commands.Extract.{IsCompiled}
use Rattle.arc_program.specs.inner.Checking.{Judged, StopsSound, IsSo, Tells, Stops}
use Rattle.arc_program.specs.inner.Work.{Works}
use Rattle.arc_program.proofs.SourceLemmas.{may_have_read, may_have_taken, may_have_failed}

module _ (name certificate : List ℕ) (mvp : Bool) (workers : ℕ) (I : InstanceValue) (g : List TypeValue) (compiled : IsCompiled I g) (small : IsSmall I) (before after : ShelfSeen) where
  abbrev request : Request
  request = Checks name certificate mvp workers

  abbrev text_of : TextValue
  text_of = record { name = certificate; most = MAX_CERT; refused = BadCertificate }

  -- the certificate is refused, and that is said
  refuses : (v : Verdict) (line : Line) → IfSome (before.held certificate) (λ bytes. IsVerdict I g bytes v) → HasTaken certificate MAX_CERT before after → Says certificate v line → (fault : WorkFault) → fault ≡ work.Rejected line BadCertificate → Works request I before after (Err fault)
  refuses v line judged took says fault is = subst (λ (f : WorkFault). Works request I before after (Err f)) (sym is) (record {
    text = text_of;
    second = refl;
    refused = refl;
    small = λ _. small;
    why = record { graph = g; compiled = compiled; verdict = v; judged = judged; says = says };
    shelf = took;
  })

  -- memory was wanting for what is said
  starves : HasTaken certificate MAX_CERT before after → (fault : WorkFault) → fault ≡ work.Memory → Works request I before after (Err fault)
  starves took fault is = subst (λ (f : WorkFault). Works request I before after (Err f)) (sym is) (inr (text_of, refl, may_have_taken certificate MAX_CERT before after took))

  -- the certificate was judged
  pub judged_works : (v : Verdict) (r : Result Report WorkFault) → Judged I g certificate (Ok v) before after → IsSo I v → Tells certificate v r → Works request I before after r
  judged_works (Shown claim) (Ok report) judged so tells = (
    subst IsReported (sym tells.1) tt,
    (record { graph = g; compiled = compiled; small = small; claim = claim; accepted = judged.0; shows = so; text_is = tells.0; status_is = tells.1 }, tells.2),
    judged.1,
    tells.3,
  )
  judged_works (Shown claim) (Err fault) judged so tells = subst (λ (f : WorkFault). Works request I before after (Err f)) (sym tells) (inr (text_of, refl, may_have_read certificate MAX_CERT before after judged.1))
  judged_works (Faulty number cause) (Ok report) judged so tells = absurd tells
  judged_works (Faulty number cause) (Err fault) judged so (inl is) = refuses (Faulty number cause) (faulty_line certificate number cause) judged.0 judged.1 refl fault is
  judged_works (Faulty number cause) (Err fault) judged so (inr is) = starves judged.1 fault is
  judged_works TooLong (Ok report) judged so tells = absurd tells
  judged_works TooLong (Err fault) judged so (inl is) = refuses TooLong (long_line certificate) judged.0 judged.1 refl fault is
  judged_works TooLong (Err fault) judged so (inr is) = starves judged.1 fault is

  -- a read failed before anything was decided
  undecided : StopsSound I g certificate before after → StopsUndecided request I (before.held certificate) before after
  undecided (inl nothing) = inl nothing
  undecided (inr sound) = inr (unjudged (before.held certificate) sound)
    where
      unjudged : (told : Told) → IfSome told (λ bytes. (n : ℕ) × (after.left ≡ Some (drop n bytes)) × IsSound I g (take n bytes)) → IfSome told (λ bytes. (n : ℕ) × (after.left ≡ Some (drop n bytes)) × IsUnjudged I (take n bytes))
      unjudged None here = tt
      unjudged (Some bytes) here = (here.0, here.1, (g, compiled, here.2))

  -- the certificate could not be judged
  pub stopped_works : (fault : IoFault) (r : WorkFault) → Judged I g certificate (Err fault) before after → Stops certificate fault r → Works request I before after (Err r)
  stopped_works io.Failed (work.Large t) judged stops = absurd stops
  stopped_works io.Failed work.LargeJoint judged stops = absurd stops
  stopped_works io.Failed (work.Unread unread) judged stops = (text_of, refl, stops, judged.0, undecided judged.1)
  stopped_works io.Failed (work.Rejected line status) judged stops = absurd stops
  stopped_works io.Failed work.Memory judged stops = inr (text_of, refl, may_have_failed certificate MAX_CERT before after judged.0)
  stopped_works io.Memory (work.Large t) judged stops = absurd stops
  stopped_works io.Memory work.LargeJoint judged stops = absurd stops
  stopped_works io.Memory (work.Unread unread) judged stops = absurd stops
  stopped_works io.Memory (work.Rejected line status) judged stops = absurd stops
  stopped_works io.Memory work.Memory judged stops = inr (text_of, refl, judged)

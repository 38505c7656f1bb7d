-- What came in leads to no other status.
use Rattle.std.proofs.Common.{◌≡◌, ◌≢◌, ◌⊎◌, ◌∙◌, ℕ, List, Option, sym, ap, subst, inl, inr, refl, Some, None, IfSome, IsSomeAnd, Result, Ok, Err}
use Rattle.std.proofs.lemmas.Option.{same_Some}
use Rattle.arc_io.specs.Bytes.{Told}
use Rattle.arc_io.specs.Faults.{Rose}
use Rattle.packing_laws.specs.Instances.{InstanceValue, IsInstance}
use Rattle.flow_graph.specs.Arcs.{TypeValue}
use Rattle.cert_text.specs.declared.lines.Certificate.{Certificate}
use Rattle.arc_compile.specs.Graphs.{IsTooLarge}
use Rattle.arc_compile.specs.CompileLaws.{CompiledGraphsAreOne, SizesAreOne}
use Rattle.joint_compile.specs.JointCompiled.{IsJointLarge}
use Rattle.joint_compile.specs.JointLaws.{JointSizesAreOne}
use Rattle.arc_program.specs.declared.status.Status.{Status}
use Rattle.arc_program.specs.declared.status.Status.TheVariants.{Done, Bracketed, Usage, BadInstance, BadCertificate, ReadFault as ReadFaults, WriteFault, NoMemory, TooLarge, BadSolution}
use Rattle.command_words.specs.declared.faults.WordFault.{WordFault}
use Rattle.command_words.specs.Requests.{Request, SourceValue, Named, Generated, source_of, name_of, name_in, certificate_of, MakesGraphs, MakesJoint}
use Rattle.arc_program.specs.World.{World}
use Rattle.arc_program.specs.Writing.{WriteRose}
use Rattle.arc_program.specs.Printing.{Line}
use Rattle.arc_program.specs.Requests.{IsAccepted, IsLong, IsBadAt, IsNamed, IsToldFrom, IsGiven, IsAsked, IsGood, IsRefused, HasNoInstance, ReadsInstance, IsRefusedFrom}
use Rattle.arc_program.specs.Statuses.{IsReported}
use Rattle.arc_program.specs.Texts.{TextValue, second_text, second_held, held_at}
use Rattle.arc_program.specs.commands.{IsReport, IsRejection, IsFit, FitIsNotRejected}
use Rattle.arc_program.specs.commands.Extract.{IsCompiled}
use Rattle.arc_program.specs.Headline.{GrantsEnough}
use Rattle.arc_program.specs.Ends.{IsOwed, IsOwedRejection, SaysWhy, Reports, RefusesBytes, RefusesSecond, FailsAt, Answers, Ends, IsRejected, HasFit, MustEnd, IsExact}
use Rattle.arc_program.proofs.SourceLemmas.{instance_read_well, instance_read_badly, one_instance, given_not_refused, asked_not_refused}
use Rattle.arc_program.proofs.Seconds.{report_small, report_joint_small, joint_reads_one, report_fit, bracket_lacks_splits}

-- where the bytes under the name are told, why they are refused is so of them
why_refused : (request : Request) (told : Told) (line : Line) → SaysWhy request told line → (bytes : List ℕ) → told ≡ Some bytes → IsRefused request bytes
why_refused request told line (inl long) bytes e = inl (subst (λ (t : Told). IfSome t IsLong) e long.1)
why_refused request told line (inr bad) bytes e = inr (bad.0, subst (λ (t : Told). IfSome t (λ b. IsBadAt request b bad.0)) e bad.2)

module _ (one : SizesAreOne) (joint_one : JointSizesAreOne) (graphs : CompiledGraphsAreOne) (fit_or_not : FitIsNotRejected) (request : Request) (before after : World) where
  -- bytes that are refused spell no instance that is asked about
  refused_not_asked : (I : InstanceValue) → RefusesBytes request before after → IsAsked request before.shelf.held I → ⊥
  refused_not_asked I ends asked = asked_not_refused request before.shelf.held I asked (by_source (source_of request) refl ends.reads asked)
    where
      by_source : (source : SourceValue) → source_of request ≡ source → IsNamed source → IsToldFrom source request before.shelf.held I → IsRefusedFrom source request before.shelf.held
      by_source (Named name mvp) is named told = by_told (before.shelf.held name) refl told
        where
          by_told : (t : Told) → before.shelf.held name ≡ t → IsSomeAnd t (λ bytes. IsAccepted request bytes I) → IsSomeAnd t (IsRefused request)
          by_told None at here = absurd here
          by_told (Some bytes) at here = why_refused request (before.shelf.held (name_of request)) ends.line ends.why bytes (ap (λ (s : SourceValue). before.shelf.held (name_in s)) is ∙ at)
      by_source (Generated seed size) is named told = absurd named

  not_large : (status : Status) (text : List ℕ) (made : Option Certificate) (certificate : Option (List ℕ)) → IsOwed request before.shelf status text made certificate → (I : InstanceValue) (t : ℕ) → MakesGraphs request → IsAsked request before.shelf.held I → IsTooLarge I t → ⊥
  not_large status text made certificate owed I t makes asked large =
      let same : owed.instance ≡ I = one_instance request before.shelf.held owed.instance I owed.given asked in
      one.small owed.instance t owed.given.known (report_small request (second_held request before.shelf.held) owed.instance status text made makes owed.report) (subst (λ (J : InstanceValue). IsTooLarge J t) (sym same) large)

  not_large_joint : (status : Status) (text : List ℕ) (made : Option Certificate) (certificate : Option (List ℕ)) → IsOwed request before.shelf status text made certificate → (I : InstanceValue) → MakesJoint request → IsAsked request before.shelf.held I → IsJointLarge I → ⊥
  not_large_joint status text made certificate owed I makes asked large =
      let same : owed.instance ≡ I = one_instance request before.shelf.held owed.instance I owed.given asked in
      joint_one owed.instance owed.given.known (report_joint_small request (second_held request before.shelf.held) owed.instance status text made makes owed.report) (subst IsJointLarge (sym same) large)

  -- where there is a report, the second text is not refused
  not_rejected : (status : Status) (report : List ℕ) (made : Option Certificate) (certificate : Option (List ℕ)) → IsOwed request before.shelf status report made certificate → (I : InstanceValue) (text : TextValue) → second_text request ≡ Some text → IsGood request before.shelf.held I → IsRejected request (before.shelf.held text.name) I → ⊥
  not_rejected status report made certificate owed I text is good rejected = by_bytes (before.shelf.held text.name) refl rejected
    where
      same : owed.instance ≡ I
      same = one_instance request before.shelf.held owed.instance I owed.given good.0

      by_bytes : (told : Told) → before.shelf.held text.name ≡ told → IsRejected request told I → ⊥
      by_bytes None at r = absurd r
      by_bytes (Some second) at r =
          let told : second_held request before.shelf.held ≡ Some second = ap (held_at before.shelf.held) is ∙ at in
          let told_report : IsReport request (Some second) owed.instance status report made = subst (λ (t : Told). IsReport request t owed.instance status report made) told owed.report in
          fit_or_not request I second r.0 (subst (λ (J : InstanceValue). IsFit request J second) same (report_fit request owed.instance second status report made told_report)) r.1

  -- where the second text is refused, it is not fit
  not_fit : (text : TextValue) (line : Line) → second_text request ≡ Some text → IsOwedRejection request text before.shelf line → (I : InstanceValue) → IsGood request before.shelf.held I → HasFit request before.shelf.held I (second_text request) → ⊥
  not_fit text line is owed I good fit = by_bytes (before.shelf.held text.name) refl (subst (HasFit request before.shelf.held I) is fit)
    where
      same : owed.instance ≡ I
      same = one_instance request before.shelf.held owed.instance I owed.given good.0

      by_bytes : (told : Told) → before.shelf.held text.name ≡ told → IsSomeAnd told (IsFit request I) → ⊥
      by_bytes None at f = absurd f
      by_bytes (Some second) at f =
          fit_or_not request I second line f
          (subst (λ (J : InstanceValue). IsRejection request (Some second) J line) same (subst (λ (t : Told). IsRejection request t owed.instance line) at owed.why))

  -- the graphs of an instance are too large, so that it is not good
  large_must_end : (J : InstanceValue) → IsGiven request before.shelf.held J → ((I : InstanceValue) → IsGood request before.shelf.held I → ⊥) → MustEnd request before after TooLarge
  large_must_end J given not = record {
    refused = λ refused. absurd (given_not_refused request before.shelf.held J given refused);
    large = λ I t makes asked large. inl refl;
    joint = λ I makes asked large. inl refl;
    rejected = λ I text is good rejected. absurd (not I good);
    accepted = λ I good fit reads writes puts. absurd (not I good);
    settled = λ I g asked compiled enough e. cc;
  }

  -- the second text is refused
  second_must_end : (status : Status) → status ≢ Bracketed → RefusesSecond request before after status → MustEnd request before after status
  second_must_end status never ends =
      let owed = ends.owed in
      record {
        refused = λ refused. absurd (given_not_refused request before.shelf.held owed.instance owed.given refused);
        large = λ I t makes asked large.
            let same : owed.instance ≡ I = one_instance request before.shelf.held owed.instance I owed.given asked in
            absurd (one.small owed.instance t owed.given.known (owed.small makes) (subst (λ (J : InstanceValue). IsTooLarge J t) (sym same) large));
        joint = λ I makes asked large. absurd (joint_reads_one request ends.text ends.shelf.second makes);
        rejected = λ I text is good rejected. inl (sym ends.refused ∙ ap (λ (t : TextValue). t.refused) (same_Some ends.text text (sym ends.shelf.second ∙ is)));
        accepted = λ I good fit reads writes puts. absurd (not_fit ends.text ends.line ends.shelf.second owed I good fit);
        settled = λ I g asked compiled enough. never;
      }

  -- a bracket comes only where the splits that are granted are not enough
  settles : (text : List ℕ) (made : Option Certificate) (certificate : Option (List ℕ)) → IsOwed request before.shelf Bracketed text made certificate → (I : InstanceValue) (g : List TypeValue) → IsAsked request before.shelf.held I → IsCompiled I g → GrantsEnough request I g → ⊥
  settles text made certificate owed I g asked compiled enough =
      let same : I ≡ owed.instance = sym (one_instance request before.shelf.held owed.instance I owed.given asked) in
      bracket_lacks_splits graphs request (second_held request before.shelf.held) owed.instance text made owed.report g
      (subst (λ (J : InstanceValue). IsCompiled J g) same compiled)
      (subst (λ (J : InstanceValue). GrantsEnough request J g) same enough)

  reports_must_end : (made : Option Certificate) (status : Status) → IsReported status → Reports request before after made status → ((I : InstanceValue) (g : List TypeValue) → IsAsked request before.shelf.held I → IsCompiled I g → GrantsEnough request I g → status ≢ Bracketed) → MustEnd request before after status
  reports_must_end made status reported ends settled = record {
    refused = λ refused. absurd (given_not_refused request before.shelf.held ends.owed.instance ends.owed.given refused);
    large = λ I t makes asked large. absurd (not_large status ends.text made ends.certificate ends.owed I t makes asked large);
    joint = λ I makes asked large. absurd (not_large_joint status ends.text made ends.certificate ends.owed I makes asked large);
    rejected = λ I text is good rejected. absurd (not_rejected status ends.text made ends.certificate ends.owed I text is good rejected);
    accepted = λ I good fit reads writes puts. inl reported;
    settled = settled;
  }

  must_end : (made : Option Certificate) (status : Status) → Answers request before after made status → MustEnd request before after status
  must_end made Done ends = reports_must_end made Done tt ends (λ I g asked compiled enough e. cc)
  must_end made Bracketed ends = reports_must_end made Bracketed tt ends (λ I g asked compiled enough e. settles ends.text made ends.certificate ends.owed I g asked compiled enough)
  must_end made Usage ends = absurd ends
  must_end made BadInstance ends = record {
    refused = λ _. inl refl;
    large = λ I t makes asked large. absurd (refused_not_asked I ends asked);
    joint = λ I makes asked large. absurd (refused_not_asked I ends asked);
    rejected = λ I text is good rejected. absurd (refused_not_asked I ends good.0);
    accepted = λ I good fit reads writes puts. absurd (refused_not_asked I ends good.0);
    settled = λ I g asked compiled enough e. cc;
  }
  must_end made BadCertificate ends = second_must_end BadCertificate (λ e. cc) ends
  must_end made ReadFaults ends = record {
    refused = λ _. inr (inl refl);
    large = λ I t makes asked large. inr (inl refl);
    joint = λ I makes asked large. inr (inl refl);
    rejected = λ I text is good rejected. inr (inl refl);
    accepted = λ I good fit reads writes puts. absurd (reads (read_rose ends.shelf));
    settled = λ I g asked compiled enough e. cc;
  }
    where
      read_rose : FailsAt request ends.name before.shelf after.shelf → Rose before.shelf.read_faults after.shelf.read_faults
      read_rose (inl h) = instance_read_badly request before.shelf after.shelf h.1
      read_rose (inr h) = subst (λ (n : ℕ). Rose n after.shelf.read_faults) (instance_read_well request before.shelf h.2.reads.between h.2.reads.read) h.2.reads.goes.faults
  must_end made WriteFault (inl ends) = record {
    refused = λ refused. absurd (given_not_refused request before.shelf.held ends.owed.instance ends.owed.given refused);
    large = λ I t makes asked large. absurd (not_large ends.status ends.text ends.made ends.certificate ends.owed I t makes asked large);
    joint = λ I makes asked large. absurd (not_large_joint ends.status ends.text ends.made ends.certificate ends.owed I makes asked large);
    rejected = λ I text is good rejected. absurd (not_rejected ends.status ends.text ends.made ends.certificate ends.owed I text is good rejected);
    accepted = λ I good fit reads writes puts. absurd (writes (write_rose (certificate_of request) ends.shelf.named));
    settled = λ I g asked compiled enough e. cc;
  }
    where
      write_rose : (name : Option (List ℕ)) → name ≡ Some ends.shelf.name → WriteRose name before.shelf after.shelf
      write_rose None named = absurd (cc)
      write_rose (Some name) named = subst (λ (n : ℕ). Rose n after.shelf.write_faults) ends.shelf.keeps.faults ends.shelf.goes.faults
  must_end made WriteFault (inr ends) = record {
    refused = λ refused. absurd (given_not_refused request before.shelf.held ends.owed.instance ends.owed.given refused);
    large = λ I t makes asked large. absurd (not_large ends.status ends.text ends.made ends.certificate ends.owed I t makes asked large);
    joint = λ I makes asked large. absurd (not_large_joint ends.status ends.text ends.made ends.certificate ends.owed I makes asked large);
    rejected = λ I text is good rejected. absurd (not_rejected ends.status ends.text ends.made ends.certificate ends.owed I text is good rejected);
    accepted = λ I good fit reads writes puts. absurd (puts (subst (λ (n : ℕ). Rose n after.out.faults) ends.printed.taken.faults ends.printed.refused.faults));
    settled = λ I g asked compiled enough e. cc;
  }
  must_end made NoMemory ends = record {
    refused = λ _. inr (inr refl);
    large = λ I t makes asked large. inr (inr refl);
    joint = λ I makes asked large. inr (inr refl);
    rejected = λ I text is good rejected. inr (inr refl);
    accepted = λ I good fit reads writes puts. inr refl;
    settled = λ I g asked compiled enough e. cc;
  }
  must_end made TooLarge (inl ends) = large_must_end ends.instance ends.given (λ I good. small_not_large I good)
    where
      small_not_large : (I : InstanceValue) → IsGood request before.shelf.held I → ⊥
      small_not_large I good =
          let same : ends.instance ≡ I = one_instance request before.shelf.held ends.instance I ends.given good.0 in
          one.small I ends.t (subst IsInstance same ends.given.known) (good.1 ends.makes) (subst (λ (J : InstanceValue). IsTooLarge J ends.t) same ends.large)
  must_end made TooLarge (inr ends) = large_must_end ends.instance ends.given (λ I good. joint_not_large I good)
    where
      joint_not_large : (I : InstanceValue) → IsGood request before.shelf.held I → ⊥
      joint_not_large I good =
          let same : ends.instance ≡ I = one_instance request before.shelf.held ends.instance I ends.given good.0 in
          joint_one I (subst IsInstance same ends.given.known) (good.2 ends.makes) (subst IsJointLarge same ends.large)
  must_end made BadSolution ends = second_must_end BadSolution (λ e. cc) ends

-- what came in leads to no other status, but for want of memory and calls that failed
pub is_exact : SizesAreOne → JointSizesAreOne → CompiledGraphsAreOne → FitIsNotRejected → (asked : Result Request WordFault) (before after : World) (made : Option Certificate) (status : Status) → Ends asked before after made status → IsExact asked before after status
is_exact one joint_one graphs fit_or_not (Ok request) before after made status ends = must_end one joint_one graphs fit_or_not request before after made status ends
is_exact one joint_one graphs fit_or_not (Err fault) before after made status ends = which ends.said
  where
    which : {A B : Type 0} → ((status ≡ Usage) × A) ⊎ ((status ≡ NoMemory) × B) → (status ≡ Usage) ⊎ (status ≡ NoMemory)
    which (inl said) = inl said.0
    which (inr said) = inr said.0

-- Reading the instance, and then maybe a second text.
use Rattle.std.proofs.Common.{◌≡◌, ◌⊎◌, ◌∙◌, ℕ, List, Option, refl, sym, subst, inl, inr, Some, None, IfSome, Ok, Err}
use Rattle.arc_io.specs.declared.IoFault.{IoFault}
use Rattle.arc_io.specs.declared.IoFault.TheVariants as io
use Rattle.arc_io.specs.Bytes.{Told, Files}
use Rattle.packing_laws.specs.Instances.{InstanceValue}
use Rattle.cert_text.specs.declared.lines.Certificate.{Certificate}
use Rattle.command_words.specs.Requests.{Request, Compiles, Solves, Checks, Exports, Extracts, Bounds, Makes, certificate_of}
use Rattle.arc_program.specs.declared.status.Status.{Status}
use Rattle.arc_program.specs.declared.commands.Report.{Report}
use Rattle.arc_program.specs.declared.commands.WorkFault.{WorkFault}
use Rattle.arc_program.specs.declared.commands.WorkFault.TheVariants as work
use Rattle.arc_program.specs.declared.refusals.Refusal.TheVariants.{Memory}
use Rattle.arc_program.specs.declared.writing.StoreFault.{StoreFault}
use Rattle.arc_program.specs.declared.writing.StoreFault.TheVariants as store
use Rattle.arc_program.specs.World.{ShelfSeen, SinkSeen}
use Rattle.arc_program.specs.Reading.{HasRead, HasTaken, HasFailed, MayHaveRead, KeepsWritten}
use Rattle.arc_program.specs.Texts.{TextValue, second_text, second_held, ThenReads, ReadsRefused, HasReadTo, HasReadAll}
use Rattle.arc_program.specs.Printing.{Line, PutsText, CutsOff}
use Rattle.arc_program.specs.Requests.{IsGiven}
use Rattle.arc_program.specs.Sources.{HasReadInstance, MayHaveReadInstance}
use Rattle.arc_program.specs.commands.{IsReport, IsRejection, StopsUndecided, IsBeside}
use Rattle.arc_program.specs.Ends.{IsOwed, FailsAt, MayHaveReadAll, MayHaveDoneAll}
use Rattle.arc_program.specs.Writing.{WritesUnder, HasWritten, HasFailedToWrite, MayHaveWritten}
use Rattle.arc_program.specs.Stored.{ThenWrites, HasDoneTo, HasDoneAll}
use Rattle.arc_program.specs.inner.Work.{HasReadSecond, Refuses, MayHaveReadSecond, Works}
use Rattle.arc_program.specs.inner.Performed.{IsCut, IsRejectedRead, CarriesOut}
use Rattle.arc_program.specs.inner.Storing.{Stores, refusal_of}
use Rattle.arc_program.proofs.StoreLemmas.{may_have_written}
use Rattle.arc_program.proofs.SourceLemmas.{may_have_read, may_have_failed, may_have_taken, may_have_read_instance, may_have_failed_instance}

-- what is written stays, call by call
pub keeps_on : (before between after : ShelfSeen) → KeepsWritten before between → KeepsWritten between after → KeepsWritten before after
keeps_on before between after first second = record {
  held = second.held ∙ first.held;
  written = second.written ∙ first.written;
  created = second.created ∙ first.created;
  writing = second.writing ∙ first.writing;
  faults = second.faults ∙ first.faults;
}

-- all texts were read
pub may_have_read_all : (request : Request) (before after : ShelfSeen) → HasReadAll request before after → MayHaveReadAll request before after
may_have_read_all request before after read = by_text (second_text request) read
  where
    by_text : (second : Option TextValue) → HasReadTo request second before after → MayHaveReadAll request before after
    by_text None h = inl (may_have_read_instance request before after h)
    by_text (Some text) h = inr (text, record { second = h.second; between = h.between; read = h.read; keeps = h.keeps; goes = may_have_read text.name text.most h.between after h.goes })

-- a second text was read that is refused
may_have_refused : (request : Request) (name : List ℕ) (most : ℕ) (before after : ShelfSeen) → ReadsRefused request name most before after → MayHaveRead name most before after
may_have_refused (Compiles _ _ _) name most before after read = may_have_read name most before after read
may_have_refused (Solves _ _ _ _ _) name most before after read = may_have_read name most before after read
may_have_refused (Checks _ _ _ _) name most before after took = may_have_taken name most before after took
may_have_refused (Exports _ _ _) name most before after read = may_have_read name most before after read
may_have_refused (Extracts _ _ _) name most before after read = may_have_read name most before after read
may_have_refused (Bounds _ _ _) name most before after read = may_have_read name most before after read
may_have_refused (Makes _ _ _ _) name most before after read = may_have_read name most before after read

pub may_have_read_second : (request : Request) (text : TextValue) (before after : ShelfSeen) → ThenReads request text (ReadsRefused request) before after → MayHaveReadAll request before after
may_have_read_second request text before after h = inr (text, record { second = h.second; between = h.between; read = h.read; keeps = h.keeps; goes = may_have_refused request text.name text.most h.between after h.goes })

-- behind them some of the certificate was written, or it was written whole
pub may_have_stored : (request : Request) (status : Status) (text : List ℕ) (made : Option Certificate) (certificate : Option (List ℕ)) (before after : ShelfSeen) → IsOwed request before status text made certificate → ThenWrites request certificate MayHaveWritten before after → MayHaveDoneAll request before after
may_have_stored request status text made certificate before after owed h = inr (record { text = text; status = status; made = made; certificate = certificate; owed = owed; shelf = h })

-- where one way to write is also another
pub then_writes_so : (request : Request) (certificate : Option (List ℕ)) (first second : List ℕ → List ℕ → ShelfSeen → ShelfSeen → Type 0) (before after : ShelfSeen) → ((name bytes : List ℕ) (between : ShelfSeen) → first name bytes between after → second name bytes between after) → ThenWrites request certificate first before after → ThenWrites request certificate second before after
then_writes_so request certificate first second before after so h = record {
  name = h.name;
  named = h.named;
  bytes = h.bytes;
  given = h.given;
  between = h.between;
  read = h.read;
  keeps = h.keeps;
  goes = so h.name h.bytes h.between h.goes;
}

pub may_have_done_all : (request : Request) (status : Status) (text : List ℕ) (made : Option Certificate) (certificate : Option (List ℕ)) (before after : ShelfSeen) → IsOwed request before status text made certificate → HasDoneAll request certificate before after → MayHaveDoneAll request before after
may_have_done_all request status text made certificate before after owed done = by_name (certificate_of request) done
  where
    by_name : (name : Option (List ℕ)) → HasDoneTo name request certificate before after → MayHaveDoneAll request before after
    by_name None h = inl (may_have_read_all request before after h)
    by_name (Some name) h =
        may_have_stored request status text made certificate before after owed
        (then_writes_so request certificate HasWritten MayHaveWritten before after (λ name bytes between. may_have_written name bytes between after) h)

-- reading a text failed
pub may_have_failed_at : (request : Request) (name : List ℕ) (before after : ShelfSeen) → FailsAt request name before after → MayHaveReadAll request before after
may_have_failed_at request name before after (inl h) = inl (may_have_failed_instance request before after h.1)
may_have_failed_at request name before after (inr h) = let r = h.2.reads in inr (h.0, record { second = r.second; between = r.between; read = r.read; keeps = r.keeps; goes = may_have_failed h.0.name h.0.most r.between after r.goes })

module _ (request : Request) (before between after : ShelfSeen) (read : HasReadInstance request before between) (keeps : KeepsWritten before between) where
  -- the instance was read, and then the second text, where there is one
  pub read_all : HasReadSecond (second_text request) between after → HasReadAll request before after
  read_all h = by_text (second_text request) refl h
    where
      by_text : (second : Option TextValue) → second_text request ≡ second → HasReadSecond second between after → HasReadTo request second before after
      by_text None is same = subst (λ (s : ShelfSeen). HasReadInstance request before s) (sym same) read
      by_text (Some text) is has = record { second = is; between = between; read = read; keeps = keeps; goes = has }

  pub may_have_all : MayHaveReadSecond request between after → MayHaveReadAll request before after
  may_have_all (inl same) = inl (subst (λ (s : ShelfSeen). MayHaveReadInstance request before s) (sym same) (may_have_read_instance request before between read))
  may_have_all (inr h) = inr (h.0, record { second = h.1; between = between; read = read; keeps = keeps; goes = h.2 })

  -- whatever the work on the instance came to
  pub may_have_worked : (I : InstanceValue) (fault : WorkFault) → Works request I between after (Err fault) → MayHaveReadAll request before after
  may_have_worked I (work.Large t) works = may_have_all (inl works.2)
  may_have_worked I work.LargeJoint works = may_have_all (inl works.2)
  may_have_worked I (work.Unread name) works = may_have_all (inr (works.0, works.1, may_have_failed works.0.name works.0.most between after works.3))
  may_have_worked I (work.Rejected line status) works = may_have_all (inr (works.text, works.second, may_have_refused request works.text.name works.text.most between after works.shelf))
  may_have_worked I work.Memory works = may_have_all works

  module _ (I : InstanceValue) (given : IsGiven request before.held I) where
    owed : (status : Status) (text : List ℕ) (made : Option Certificate) (certificate : Option (List ℕ)) → IsReport request (second_held request between.held) I status text made → IsBeside (certificate_of request) request I text made certificate → IsOwed request before status text made certificate
    owed status text made certificate report beside = record {
      instance = I;
      given = given;
      report = subst (λ (held : Files). IsReport request (second_held request held) I status text made) keeps.held report;
      beside = beside;
    }

    pub fails_second : (name : List ℕ) (text : TextValue) → second_text request ≡ Some text → name ≡ text.name → HasFailed text.name text.most between after → StopsUndecided request I (between.held text.name) between after → FailsAt request name before after
    fails_second name text is named failed undecided = inr (
      text,
      named,
      record {
        instance = I;
        given = given;
        reads = record { second = is; between = between; read = read; keeps = keeps; goes = failed };
        undecided = subst (λ (held : Files). StopsUndecided request I (held text.name) between after) keeps.held undecided;
      },
    )

    pub rejected_read : (line : Line) (status : Status) → Refuses request I between after line status → IsRejectedRead request before after line status
    rejected_read line status h = record {
      text = h.text;
      refused = h.refused;
      owed = record {
        instance = I;
        given = given;
        small = h.small;
        why = subst (λ (held : Files). IsRejection request (held h.text.name) I line) keeps.held h.why;
      };
      shelf = record { second = h.second; between = between; read = read; keeps = keeps; goes = h.shelf };
    }

    module _ (report : Report) (works : Works request I between after (Ok report)) (worked : KeepsWritten between after) (end : ShelfSeen) where
      owes : IsOwed request before report.status report.text report.made report.certificate
      owes = owed report.status report.text report.made report.certificate works.1 works.3

      then_writes : (how : List ℕ → List ℕ → ShelfSeen → ShelfSeen → Type 0) (name bytes : List ℕ) → certificate_of request ≡ Some name → report.certificate ≡ Some bytes → how name bytes after end → ThenWrites request report.certificate how before end
      then_writes how name bytes named given goes = record {
        name = name;
        named = named;
        bytes = bytes;
        given = given;
        between = after;
        read = read_all works.2;
        keeps = keeps_on before between after keeps worked;
        goes = goes;
      }

      -- the certificate could not be written, or memory was wanting
      pub not_stored : (name : Option (List ℕ)) → name ≡ certificate_of request → (fault : StoreFault) (out : SinkSeen) → Stores {T = Unit {0}} (Err fault) name report.certificate after end → CarriesOut request before end out out (Err (refusal_of fault))
      unfolding then_writes
      not_stored name named fault out stores = by_fault fault name (sym named) report.certificate refl stores
        where
          by_fault : (fault : StoreFault) (name : Option (List ℕ)) → certificate_of request ≡ name → (given : Option (List ℕ)) → report.certificate ≡ given → Stores {T = Unit {0}} (Err fault) name given after end → CarriesOut request before end out out (Err (refusal_of fault))
          by_fault fault None named given is h = absurd h
          by_fault fault (Some name) named None is h = absurd h
          by_fault (store.Failed failed) (Some name) named (Some bytes) is h = (
            record {
              text = report.text;
              status = report.status;
              made = report.made;
              certificate = report.certificate;
              owed = owes;
              shelf = then_writes HasFailedToWrite name bytes named is h.1;
              named = h.0;
            },
            refl,
          )
          by_fault store.Memory (Some name) named (Some bytes) is h = (may_have_stored request report.status report.text report.made report.certificate before end owes (then_writes MayHaveWritten name bytes named is h), inl refl)

      module _ (name : Option (List ℕ)) (named : name ≡ certificate_of request) (stored : Stores {T = Unit {0}} (Ok tt) name report.certificate after end) (old new : SinkSeen) where
        done_all : HasDoneAll request report.certificate before end
        done_all = by_name (certificate_of request) refl report.certificate refl works.3 (subst (λ (n : Option (List ℕ)). Stores {T = Unit {0}} (Ok tt) n report.certificate after end) named stored)
          where
            by_name : (name : Option (List ℕ)) → certificate_of request ≡ name → (given : Option (List ℕ)) → report.certificate ≡ given → IsBeside name request I report.text report.made given → Stores {T = Unit {0}} (Ok tt) name given after end → HasDoneTo name request report.certificate before end
            by_name None named given is beside same = subst (λ (s : ShelfSeen). HasReadAll request before s) (sym same) (read_all works.2)
            by_name (Some name) named None is beside same = absurd beside
            by_name (Some name) named (Some bytes) is beside written = then_writes HasWritten name bytes named is written

        -- a report that was taken whole
        pub is_printed : PutsText report.text old new → CarriesOut request before end old new (Ok (record { status = report.status; made = report.made }))
        is_printed printed = (works.0, record { text = report.text; certificate = report.certificate; owed = owes; shelf = done_all; printed = printed })

        -- a report that was cut off
        pub is_cut : (fault : IoFault) → CutsOff fault report.text old new → IsCut fault request before end old new
        is_cut fault cut = record { text = report.text; status = report.status; made = report.made; certificate = report.certificate; owed = owes; shelf = done_all; printed = cut }

        pub is_starved : CutsOff io.Memory report.text old new → CarriesOut request before end old new (Err Memory)
        is_starved cut = (may_have_done_all request report.status report.text report.made report.certificate before end owes done_all, inr (is_cut io.Memory cut))

-- what is written, call by call
pub writes_nothing : (name : Option (List ℕ)) (before after : ShelfSeen) → KeepsWritten before after → WritesUnder name before after
writes_nothing None before after keeps = keeps
writes_nothing (Some name) before after keeps = inl keeps

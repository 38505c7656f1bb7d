-- How a run ends, from what was done and what was said.
use Rattle.std.proofs.Common.{◌≡◌, ◌⊎◌, ◌∙◌, ℕ, List, Option, None, refl, sym, ap, subst, inl, inr, Result, Ok, Err, string_bytes}
use Rattle.arc_io.specs.declared.IoFault.TheVariants as io
use Rattle.cert_text.specs.declared.lines.Certificate.{Certificate}
use Rattle.arc_program.specs.declared.performing.Finished.{Finished}
use Rattle.arc_program.specs.declared.refusals.Refusal.{Refusal}
use Rattle.arc_program.specs.declared.refusals.Refusal.TheVariants.{Words, Unread, Long, BadPlace, Large, LargeJoint, Rejected, Unstored, Unwritten, Memory}
use Rattle.arc_program.specs.declared.status.Status.{Status}
use Rattle.arc_program.specs.declared.status.Status.TheVariants.{Done, Bracketed, Usage, BadInstance, BadCertificate, ReadFault as ReadFaults, WriteFault, NoMemory, TooLarge, BadSolution}
use Rattle.command_words.specs.declared.faults.WordFault.{WordFault}
use Rattle.command_words.specs.Requests.{Request, certificate_of}
use Rattle.arc_program.specs.World.{ShelfSeen, SinkSeen, World}
use Rattle.arc_program.specs.Printing.{Line, PutsOnce}
use Rattle.arc_program.specs.Writing.{HasFailedToWrite, MayHaveWritten}
use Rattle.command_words.specs.Lines.{word_fault_line}
use Rattle.arc_program.specs.Refusals.{long_line, place_line, large_line, large_joint_line, unstored_line, memory_line, refusal_line, refusal_status}
use Rattle.arc_program.specs.Requests.{Writes}
use Rattle.arc_program.specs.Statuses.{IsReported}
use Rattle.arc_program.specs.Ends.{Answers, Ends, KeepsTo, Starves, MayHaveDoneAll}
use Rattle.arc_program.specs.inner.Performed.{IsPrinted, IsCut, IsRejectedRead, CarriesOut, HasNothingDone, Performs, IsSaid}
use Rattle.arc_program.proofs.SourceLemmas.{read_no_instance, may_have_read_instance}
use Rattle.arc_program.proofs.TextLemmas.{may_have_failed_at, may_have_read_second, may_have_stored, then_writes_so, writes_nothing}
use Rattle.arc_program.proofs.StoreLemmas.{may_have_failed_to_write}
use Rattle.arc_program.proofs.Seconds.{IsForSecond, for_second}

-- three worlds' parts, before or after
abbrev seen : ShelfSeen → SinkSeen → SinkSeen → World
seen shelf out err = record { shelf = shelf; out = out; err = err }

-- without memory nothing is done, whatever the words ask for
pub nothing_done : (asked : Result Request WordFault) (shelf : ShelfSeen) (out : SinkSeen) → Performs asked shelf shelf out out (Err Memory)
nothing_done (Ok request) shelf out = (inl (inl (read_no_instance request shelf)), inl refl)
nothing_done (Err fault) shelf out = (refl, refl, tt)

pub nothing_done_for : (asked : Result Request WordFault) (fault : WordFault) (shelf : ShelfSeen) (out : SinkSeen) → asked ≡ Err fault → Performs asked shelf shelf out out (Err (Words fault))
nothing_done_for asked fault shelf out e = subst (λ (a : Result Request WordFault). Performs a shelf shelf out out (Err (Words fault))) (sym e) (refl, refl, refl)

pub performed : (asked : Result Request WordFault) (request : Request) (before after : ShelfSeen) (old new : SinkSeen) (done : Result Finished Refusal) → asked ≡ Ok request → CarriesOut request before after old new done → Performs asked before after old new done
performed asked request before after old new done e carried = subst (λ (a : Result Request WordFault). Performs a before after old new done) (sym e) carried

-- what is written
pub keeps_to : (asked : Result Request WordFault) (request : Request) (before after : ShelfSeen) → asked ≡ Ok request → Writes request before after → KeepsTo asked before after
keeps_to asked request before after e writes = subst (λ (a : Result Request WordFault). KeepsTo a before after) (sym e) writes

pub keeps_all : (asked : Result Request WordFault) (shelf : ShelfSeen) → KeepsTo asked shelf shelf
keeps_all (Ok request) shelf = writes_nothing (certificate_of request) shelf shelf (record { held = refl; written = refl; created = refl; writing = refl; faults = refl })
keeps_all (Err fault) shelf = refl

-- a run that printed its report
printed_ends : (request : Request) (before after : ShelfSeen) (old new err : SinkSeen) (made : Option Certificate) (status : Status) → IsReported status → IsPrinted request before after old new made status → Answers request (seen before old err) (seen after new err) made status
printed_ends request before after old new err made Done r p = record { text = p.text; certificate = p.certificate; owed = p.owed; shelf = p.shelf; printed = p.printed; silent = refl }
printed_ends request before after old new err made Bracketed r p = record { text = p.text; certificate = p.certificate; owed = p.owed; shelf = p.shelf; printed = p.printed; silent = refl }
printed_ends request before after old new err made Usage r p = absurd r
printed_ends request before after old new err made BadInstance r p = absurd r
printed_ends request before after old new err made BadCertificate r p = absurd r
printed_ends request before after old new err made ReadFaults r p = absurd r
printed_ends request before after old new err made WriteFault r p = absurd r
printed_ends request before after old new err made NoMemory r p = absurd r
printed_ends request before after old new err made TooLarge r p = absurd r
printed_ends request before after old new err made BadSolution r p = absurd r

pub ends_reported : (asked : Result Request WordFault) (before after : ShelfSeen) (old new err : SinkSeen) (finished : Finished) → Performs asked before after old new (Ok finished) → Ends asked (seen before old err) (seen after new err) finished.made finished.status
ends_reported (Ok request) before after old new err finished done = printed_ends request before after old new err finished.made finished.status done.0 done.1
ends_reported (Err fault) before after old new err finished done = absurd done.2

pub is_reported : (asked : Result Request WordFault) (before after : ShelfSeen) (old new : SinkSeen) (finished : Finished) → Performs asked before after old new (Ok finished) → IsReported finished.status
is_reported (Ok request) before after old new finished done = done.0
is_reported (Err fault) before after old new finished done = absurd done.2

-- a run that refuses
module _ (request : Request) (before after : ShelfSeen) (old new e0 e1 : SinkSeen) where
  lacks : MayHaveDoneAll request before after → new ≡ old → PutsOnce memory_line e0 e1 → Answers request (seen before old e0) (seen after new e1) None NoMemory
  lacks read same said = record { shelf = read; printed = inl same; said = said }

  starved : CarriesOut request before after old new (Err Memory) → PutsOnce memory_line e0 e1 → Answers request (seen before old e0) (seen after new e1) None NoMemory
  starved done said = record { shelf = done.0; printed = cut done.1; said = said }
    where
      cut : (new ≡ old) ⊎ IsCut io.Memory request before after old new → (new ≡ old) ⊎ Starves request (seen before old e0) (seen after new e1)
      cut (inl same) = inl same
      cut (inr c) = inr (record { text = c.text; status = c.status; made = c.made; certificate = c.certificate; owed = c.owed; shelf = c.shelf; printed = c.printed })

  -- no memory was left for the line of a refusal
  unsaid_ends : (refusal : Refusal) (status : Status) → CarriesOut request before after old new (Err refusal) → refusal_status refusal ≡ status → PutsOnce memory_line e0 e1 → (refusal ≡ Unwritten → ⊥) → Answers request (seen before old e0) (seen after new e1) None NoMemory
  unsaid_ends (Words fault) status done is said not = absurd done
  unsaid_ends (Unread name) status done is said not = lacks (inl (may_have_failed_at request (string_bytes name) before after done.0)) done.1 said
  unsaid_ends (Long name) status done is said not = lacks (inl (inl (may_have_read_instance request before after done.3))) done.4 said
  unsaid_ends (BadPlace name fault) status done is said not = lacks (inl (inl (may_have_read_instance request before after done.3))) done.4 said
  unsaid_ends (Large name t) status done is said not = lacks (inl (inl (may_have_read_instance request before after done.2))) done.3 said
  unsaid_ends (LargeJoint name) status done is said not = lacks (inl (inl (may_have_read_instance request before after done.2))) done.3 said
  unsaid_ends (Rejected line refused) status done is said not = lacks (inl (may_have_read_second request done.0.text before after done.0.shelf)) done.1 said
  unsaid_ends (Unstored name) status done is said not =
      lacks
      (may_have_stored request done.0.status done.0.text done.0.made done.0.certificate before after done.0.owed
      (then_writes_so request done.0.certificate HasFailedToWrite MayHaveWritten before after (λ name bytes between. may_have_failed_to_write name bytes between after) done.0.shelf))
      done.1 said
  unsaid_ends Unwritten status done is said not = absurd (not refl)
  unsaid_ends Memory status done is said not = starved done said

  -- the second text is refused
  second_ends : (line : Line) (status : Status) → IsForSecond status → IsRejectedRead request before after line status → new ≡ old → PutsOnce line e0 e1 → Answers request (seen before old e0) (seen after new e1) None status
  second_ends line Done for_it r same said = absurd for_it
  second_ends line Bracketed for_it r same said = absurd for_it
  second_ends line Usage for_it r same said = absurd for_it
  second_ends line BadInstance for_it r same said = absurd for_it
  second_ends line BadCertificate for_it r same said = record { text = r.text; refused = r.refused; line = line; owed = r.owed; shelf = r.shelf; unprinted = same; said = said }
  second_ends line ReadFaults for_it r same said = absurd for_it
  second_ends line WriteFault for_it r same said = absurd for_it
  second_ends line NoMemory for_it r same said = absurd for_it
  second_ends line TooLarge for_it r same said = absurd for_it
  second_ends line BadSolution for_it r same said = record { text = r.text; refused = r.refused; line = line; owed = r.owed; shelf = r.shelf; unprinted = same; said = said }

  -- the line of a refusal was said
  said_ends : (refusal : Refusal) → CarriesOut request before after old new (Err refusal) → PutsOnce (refusal_line refusal) e0 e1 → Answers request (seen before old e0) (seen after new e1) None (refusal_status refusal)
  said_ends (Words fault) done said = absurd done
  said_ends (Unread name) done said = record { name = string_bytes name; shelf = done.0; unprinted = done.1; said = said }
  said_ends (Long name) done said = record {
    line = long_line (string_bytes name);
    reads = done.1;
    why = inl (ap long_line done.0, done.2);
    shelf = done.3;
    unprinted = done.4;
    said = said;
  }
  said_ends (BadPlace name fault) done said = record {
    line = place_line (string_bytes name) fault;
    reads = done.1;
    why = inr (fault, ap (λ (n : List ℕ). place_line n fault) done.0, done.2);
    shelf = done.3;
    unprinted = done.4;
    said = said;
  }
  said_ends (Large name t) done said = inl (record {
    makes = done.1.makes;
    instance = done.1.instance;
    given = done.1.given;
    t = t;
    large = done.1.large;
    shelf = done.2;
    unprinted = done.3;
    said = subst (λ (n : List ℕ). PutsOnce (large_line n t) e0 e1) done.0 said;
  })
  said_ends (LargeJoint name) done said = inr (record {
    makes = done.1.makes;
    instance = done.1.instance;
    given = done.1.given;
    large = done.1.large;
    shelf = done.2;
    unprinted = done.3;
    said = subst (λ (n : List ℕ). PutsOnce (large_joint_line n) e0 e1) done.0 said;
  })
  said_ends (Rejected line status) done said = second_ends line status (subst IsForSecond done.0.refused (for_second request done.0.text done.0.shelf.second)) done.0 done.1 said
  said_ends (Unstored name) done said = inl (record {
    text = done.0.text;
    status = done.0.status;
    made = done.0.made;
    certificate = done.0.certificate;
    owed = done.0.owed;
    shelf = done.0.shelf;
    unprinted = done.1;
    said = subst (λ (n : List ℕ). PutsOnce (unstored_line n) e0 e1) done.0.named said;
  })
  said_ends Unwritten done said = inr (record { text = done.text; status = done.status; made = done.made; certificate = done.certificate; owed = done.owed; shelf = done.shelf; printed = done.printed; said = said })
  said_ends Memory done said = starved done said

  said_or_not : (refusal : Refusal) (status : Status) → CarriesOut request before after old new (Err refusal) → (refusal ≡ Unwritten → status ≡ WriteFault) → IsSaid refusal status e0 e1 → Answers request (seen before old e0) (seen after new e1) None status
  said_or_not refusal status done unwritten (inl s) = subst (λ (t : Status). Answers request (seen before old e0) (seen after new e1) None t) (sym s.0) (said_ends refusal done s.1)
  said_or_not refusal status done unwritten (inr s) =
      subst (λ (t : Status). Answers request (seen before old e0) (seen after new e1) None t) (sym s.0)
      (unsaid_ends refusal (refusal_status refusal) done refl s.1 (λ e. let bad : NoMemory ≡ WriteFault = sym s.0 ∙ unwritten e in cc))

-- a run whose words have a fault
words_end : (fault : WordFault) (shelf : ShelfSeen) (out e0 e1 : SinkSeen) (refusal : Refusal) (status : Status) → HasNothingDone fault (Err refusal) → IsSaid refusal status e0 e1 → ((status ≡ Usage) × PutsOnce (word_fault_line fault) e0 e1) ⊎ ((status ≡ NoMemory) × PutsOnce memory_line e0 e1)
words_end fault shelf out e0 e1 refusal status done (inr s) = inr s
words_end fault shelf out e0 e1 (Words refused) status done (inl s) = inl (s.0, subst (λ (f : WordFault). PutsOnce (word_fault_line f) e0 e1) (sym done) s.1)
words_end fault shelf out e0 e1 (Unread name) status done (inl s) = absurd done
words_end fault shelf out e0 e1 (Long name) status done (inl s) = absurd done
words_end fault shelf out e0 e1 (BadPlace name place) status done (inl s) = absurd done
words_end fault shelf out e0 e1 (Large name t) status done (inl s) = absurd done
words_end fault shelf out e0 e1 (LargeJoint name) status done (inl s) = absurd done
words_end fault shelf out e0 e1 (Rejected line refused) status done (inl s) = absurd done
words_end fault shelf out e0 e1 (Unstored name) status done (inl s) = absurd done
words_end fault shelf out e0 e1 Unwritten status done (inl s) = absurd done
words_end fault shelf out e0 e1 Memory status done (inl s) = inr s

pub ends_refused : (asked : Result Request WordFault) (before after : ShelfSeen) (old new e0 e1 : SinkSeen) (refusal : Refusal) (status : Status) → Performs asked before after old new (Err refusal) → (refusal ≡ Unwritten → status ≡ WriteFault) → IsSaid refusal status e0 e1 → Ends asked (seen before old e0) (seen after new e1) None status
ends_refused (Ok request) before after old new e0 e1 refusal status done unwritten said = said_or_not request before after old new e0 e1 refusal status done unwritten said
ends_refused (Err fault) before after old new e0 e1 refusal status done unwritten said = record { shelf = done.0; unprinted = done.1; said = words_end fault after new e0 e1 refusal status done.2 said }

-- Writing a text under a name: creating it, putting the text, and closing it.
use Rattle.std.proofs.Common.{◌≡◌, ◌⊎◌, ◌∙◌, ℕ, ◌≤◌, true, List, [], ◌++◌, length, take, Some, IfSome, IsSome, Result, Ok, Err, refl, sym, ap, subst, inl, inr, arith}
use Rattle.std.proofs.Math.Seq.{take-length}
use Rattle.std.proofs.lemmas.Option.{same_Some}
use Rattle.std.specs.List.{slice_range}
use Rattle.arc_io.specs.Bytes.{Files, Appends}
use Rattle.arc_io.specs.Faults.{Rose, CountsFault}
use Rattle.arc_io.specs.declared.IoFault.{IoFault}
use Rattle.arc_io.specs.declared.IoFault.TheVariants as io
use Rattle.arc_program.specs.World.{ShelfSeen}
use Rattle.arc_program.specs.Printing.{TakesAll, TakesPrefix}
use Rattle.arc_program.specs.Writing.{WritesAlone, KeepsReading, WritesFirst, HasWritten, HasFailedToWrite, MayHaveWritten}
use Rattle.arc_program.specs.inner.Storing.{KeepsCreated, PutsUnder, HasPutAll, HasPutSome, WritesFile, Creates, Closes}
use Rattle.arc_program.proofs.PrintLemmas.{take_all, takes_more, takes_prefix, takes_none}
use Rattle.arc_program.proofs.Told.{if_told, at_told, where_told, is_told}

-- puts, one behind the other
keeps_created : (before between after : ShelfSeen) → KeepsCreated before between → KeepsCreated between after → KeepsCreated before after
keeps_created before between after first second = record {
  held = second.held ∙ first.held;
  left = second.left ∙ first.left;
  asked = second.asked ∙ first.asked;
  created = second.created ∙ first.created;
  writing = second.writing;
  reads = second.reads ∙ first.reads;
  others = λ other ne. second.others other (λ e. ne (sym first.created ∙ e)) ∙ first.others other ne;
}

pub put_none : (text : List ℕ) (shelf : ShelfSeen) → shelf.writing ≡ true → HasPutAll (take 0 text) shelf shelf
put_none text shelf writing = record {
  keeps = record { held = refl; left = refl; asked = refl; created = refl; writing = writing; reads = refl; others = λ other ne. refl };
  taken = if_told shelf.created (λ name. TakesAll [] (shelf.written name) (shelf.written name)) (λ name e. takes_none (shelf.written name));
  faults = refl;
}

pub put_more : (text : List ℕ) (at end : ℕ) (before between after : ShelfSeen) → at ≤ end → HasPutAll (take at text) before between → PutsUnder (Ok tt) (slice_range text at end) between after → HasPutAll (take end text) before after
put_more text at end before between after h put one = record {
  keeps = keeps_created before between after put.keeps one.keeps;
  taken = if_told before.created (λ name. TakesAll (take end text) (before.written name) (after.written name))
      (λ name e. takes_more text at end (before.written name) (between.written name) (after.written name) h
      (at_told before.created (λ name. TakesAll (take at text) (before.written name) (between.written name)) name e put.taken)
      (at_told between.created (λ name. Appends {T = Unit {0}} (Ok tt) (slice_range text at end) (between.written name) (after.written name)) name (put.keeps.created ∙ e) one.appends));
  faults = one.faults ∙ put.faults;
}

pub put_all : (text : List ℕ) (at : ℕ) (before after : ShelfSeen) → length text ≤ at → HasPutAll (take at text) before after → HasPutAll text before after
put_all text at before after h put = subst (λ (all : List ℕ). HasPutAll all before after) (take_all text at h) put

pub put_cut : (fault : IoFault) (text : List ℕ) (at end : ℕ) (before between after : ShelfSeen) → HasPutAll (take at text) before between → PutsUnder (Err fault) (slice_range text at end) between after → HasPutSome fault text before after
put_cut fault text at end before between after put one = record {
  keeps = keeps_created before between after put.keeps one.keeps;
  taken = if_told before.created (λ name. TakesPrefix text (before.written name) (after.written name))
      (λ name e. takes_prefix fault text at end (before.written name) (between.written name) (after.written name)
      (at_told before.created (λ name. TakesAll (take at text) (before.written name) (between.written name)) name e put.taken)
      (at_told between.created (λ name. Appends {T = Unit {0}} (Err fault) (slice_range text at end) (between.written name) (after.written name)) name (put.keeps.created ∙ e) one.appends));
  faults = subst (λ (n : ℕ). CountsFault {T = Unit {0}} (Err fault) n after.write_faults) put.faults one.faults;
}

-- a count that rose does not fall again
rose_on : (answer : Result (Unit {0}) IoFault) (a b c : ℕ) → Rose a b → CountsFault answer b c → Rose a c
rose_on (Ok x) a b c rose same = subst (Rose a) (sym same) rose
rose_on (Err io.Failed) a b c (inl low) (inl more) = inl (omega (arith, low, more))
rose_on (Err io.Failed) a b c (inl low) (inr last) = inl (omega (arith, low, last.0))
rose_on (Err io.Failed) a b c (inr end) (inl more) = inl (omega (arith, end.0, more))
rose_on (Err io.Failed) a b c (inr end) (inr last) = inr (omega (arith, end.0, last.0), last.1)
rose_on (Err io.Memory) a b c rose same = subst (Rose a) (sym same) rose

may_rise : (answer : Result (Unit {0}) IoFault) (b c : ℕ) → CountsFault answer b c → (c ≡ b) ⊎ Rose b c
may_rise (Ok x) b c same = inl same
may_rise (Err io.Failed) b c rose = inr rose
may_rise (Err io.Memory) b c same = inl same

-- what was written may have been written, and what failed too
pub may_have_written : (name text : List ℕ) (before after : ShelfSeen) → HasWritten name text before after → MayHaveWritten name text before after
may_have_written name text before after h = record {
  asked = if_told before.asked (λ old. (after.asked ≡ Some old) ⊎ (after.asked ≡ Some name)) (λ old e. inr (at_told before.asked (λ _. after.asked ≡ Some name) old e h.asked));
  written = if_told (before.written name) (λ old. (after.written name ≡ Some old) ⊎ ((k : ℕ) × (after.written name ≡ Some (take k text))))
      (λ old e. inr (length text, at_told (before.written name) (λ _. after.written name ≡ Some text) old e h.written ∙ ap Some (sym (take-length text))));
  alone = h.alone;
  reads = h.reads;
  faults = inl h.faults;
}

pub may_have_failed_to_write : (name text : List ℕ) (before after : ShelfSeen) → HasFailedToWrite name text before after → MayHaveWritten name text before after
may_have_failed_to_write name text before after h = record {
  asked = if_told before.asked (λ old. (after.asked ≡ Some old) ⊎ (after.asked ≡ Some name)) (λ old e. inr (at_told before.asked (λ _. after.asked ≡ Some name) old e h.asked));
  written = h.written;
  alone = h.alone;
  reads = h.reads;
  faults = inr h.faults;
}

-- the name was created, the text was put under it or some of it, and the name was closed
module _ (name text : List ℕ) (before made put after : ShelfSeen) (told : (n : List ℕ) → IsSome (before.written n) → IsSome before.created) (make : Creates name before made) (answer : Result (Unit {0}) IoFault) (close : Closes answer put after) where
  made_name : (n : List ℕ) → IsSome (before.written n) → made.created ≡ Some name
  made_name n some = where_told before.created (made.created ≡ Some name) (told n some) make.created

  module _ (keeps : KeepsCreated made put) where
    is_asked : IfSome before.asked (λ _. after.asked ≡ Some name)
    is_asked = if_told before.asked (λ _. after.asked ≡ Some name) (λ old e. close.asked ∙ (keeps.asked ∙ at_told before.asked (λ _. made.asked ≡ Some name) old e make.asked))

    is_created : IfSome before.created (λ _. after.created ≡ Some name)
    is_created = if_told before.created (λ _. after.created ≡ Some name) (λ old e. close.created ∙ (keeps.created ∙ at_told before.created (λ _. made.created ≡ Some name) old e make.created))

    is_alone : WritesAlone name before after
    is_alone = record {
      held = close.held ∙ (keeps.held ∙ make.held);
      others = λ other ne. if_told (before.written other) (λ bytes. after.written other ≡ Some bytes)
          (λ bytes e.
          let named : made.created ≡ Some name = made_name other (is_told (before.written other) bytes e) in
          ap (λ (f : Files). f other) close.written ∙ (keeps.others other (λ c. ne (same_Some other name (sym c ∙ named))) ∙ (make.others other ne ∙ e)));
      created = if_told before.created (λ old. (after.created ≡ Some old) ⊎ (after.created ≡ Some name)) (λ old e. inr (at_told before.created (λ _. after.created ≡ Some name) old e is_created));
      closed = close.closed;
    }

    is_unread : KeepsReading before after
    is_unread = record { left = close.left ∙ (keeps.left ∙ make.left); faults = close.reads ∙ (keeps.reads ∙ make.reads) }

  -- what stands under the name then
  is_whole : HasPutAll text made put → (old : List ℕ) → before.written name ≡ Some old → after.written name ≡ Some text
  is_whole all old e =
      let named : made.created ≡ Some name = made_name name (is_told (before.written name) old e) in
      let empty : made.written name ≡ Some [] = at_told (before.written name) (λ _. made.written name ≡ Some []) old e make.empty in
      let taken : TakesAll text (made.written name) (put.written name) = at_told made.created (λ n. TakesAll text (made.written n) (put.written n)) name named all.taken in
      ap (λ (f : Files). f name) close.written ∙ at_told (made.written name) (λ x. put.written name ≡ Some (x ++ text)) [] empty taken

  is_first : (fault : IoFault) → HasPutSome fault text made put → (old : List ℕ) → before.written name ≡ Some old → (k : ℕ) × (after.written name ≡ Some (take k text))
  is_first fault some old e =
      let named : made.created ≡ Some name = made_name name (is_told (before.written name) old e) in
      let empty : made.written name ≡ Some [] = at_told (before.written name) (λ _. made.written name ≡ Some []) old e make.empty in
      let taken : TakesPrefix text (made.written name) (put.written name) = at_told made.created (λ n. TakesPrefix text (made.written n) (put.written n)) name named some.taken in
      let first : (k : ℕ) × (put.written name ≡ Some (take k text)) = at_told (made.written name) (λ x. (k : ℕ) × (put.written name ≡ Some (x ++ take k text))) [] empty taken in
      (first.0, ap (λ (f : Files). f name) close.written ∙ first.1)

  first_of : ((old : List ℕ) → before.written name ≡ Some old → (k : ℕ) × (after.written name ≡ Some (take k text))) → WritesFirst name text before after
  first_of h = if_told (before.written name) (λ old. (after.written name ≡ Some old) ⊎ ((k : ℕ) × (after.written name ≡ Some (take k text)))) (λ old e. inr (h old e))

  whole_first : HasPutAll text made put → WritesFirst name text before after
  whole_first all = first_of (λ old e. (length text, is_whole all old e ∙ ap Some (sym (take-length text))))

  -- a put was refused, whatever the close answered
  pub cut_file : (fault : IoFault) → HasPutSome fault text made put → WritesFile {T = Unit {0}} (Err fault) name text before after
  cut_file io.Failed some = record {
    asked = is_asked some.keeps;
    written = first_of (is_first io.Failed some);
    alone = is_alone some.keeps;
    reads = is_unread some.keeps;
    faults = rose_on answer before.write_faults put.write_faults after.write_faults (subst (λ (n : ℕ). Rose n put.write_faults) make.faults some.faults) close.faults;
  }
  cut_file io.Memory some = record {
    asked = if_told before.asked (λ old. (after.asked ≡ Some old) ⊎ (after.asked ≡ Some name)) (λ old e. inr (at_told before.asked (λ _. after.asked ≡ Some name) old e (is_asked some.keeps)));
    written = first_of (is_first io.Memory some);
    alone = is_alone some.keeps;
    reads = is_unread some.keeps;
    faults = subst (λ (n : ℕ). (after.write_faults ≡ n) ⊎ Rose n after.write_faults) (some.faults ∙ make.faults) (may_rise answer put.write_faults after.write_faults close.faults);
  }

-- the whole text was put, and the close was answered so
pub whole_file : (name text : List ℕ) (before made put after : ShelfSeen) → ((n : List ℕ) → IsSome (before.written n) → IsSome before.created) → Creates name before made → (answer : Result (Unit {0}) IoFault) → Closes answer put after → HasPutAll text made put → WritesFile answer name text before after
whole_file name text before made put after told make (Ok x) close all = record {
  asked = is_asked name text before made put after told make (Ok x) close all.keeps;
  created = is_created name text before made put after told make (Ok x) close all.keeps;
  written = if_told (before.written name) (λ _. after.written name ≡ Some text) (is_whole name text before made put after told make (Ok x) close all);
  alone = is_alone name text before made put after told make (Ok x) close all.keeps;
  reads = is_unread name text before made put after told make (Ok x) close all.keeps;
  faults = close.faults ∙ (all.faults ∙ make.faults);
}
whole_file name text before made put after told make (Err io.Failed) close all = record {
  asked = is_asked name text before made put after told make (Err io.Failed) close all.keeps;
  written = whole_first name text before made put after told make (Err io.Failed) close all;
  alone = is_alone name text before made put after told make (Err io.Failed) close all.keeps;
  reads = is_unread name text before made put after told make (Err io.Failed) close all.keeps;
  faults = subst (λ (n : ℕ). Rose n after.write_faults) (all.faults ∙ make.faults) close.faults;
}
whole_file name text before made put after told make (Err io.Memory) close all = record {
  asked = if_told before.asked (λ old. (after.asked ≡ Some old) ⊎ (after.asked ≡ Some name)) (λ old e. inr (at_told before.asked (λ _. after.asked ≡ Some name) old e (is_asked name text before made put after told make (Err io.Memory) close all.keeps)));
  written = whole_first name text before made put after told make (Err io.Memory) close all;
  alone = is_alone name text before made put after told make (Err io.Memory) close all.keeps;
  reads = is_unread name text before made put after told make (Err io.Memory) close all.keeps;
  faults = inl (close.faults ∙ (all.faults ∙ make.faults));
}

-- however it went, nothing was written under another name
pub file_alone : {T : Type 0} (r : Result T IoFault) (name text : List ℕ) (before after : ShelfSeen) → WritesFile r name text before after → WritesAlone name before after
file_alone (Ok x) name text before after h = h.alone
file_alone (Err io.Failed) name text before after h = h.alone
file_alone (Err io.Memory) name text before after h = h.alone

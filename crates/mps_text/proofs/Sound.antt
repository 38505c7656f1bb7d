-- What is read keeps the rules of programs, line by line.
use Rattle.std.proofs.Common.{◌≡◌, ℕ, ◌+◌, Bool, true, false, List, [], ◌∷◌, Result, Ok, Err, refl, subst}
use Rattle.std.specs.Prelude.{◌&&◌, ◌||◌, not, is_none, if◌then◌else◌}
use Rattle.std.specs.List.{list_all}
use Rattle.mps_text.specs.declared.faults.MpsFault.{MpsFault}
use Rattle.mps_text.specs.declared.faults.MpsFault.TheVariants.{Bad}
use Rattle.mps_text.specs.declared.faults.MpsCause.TheVariants as cause
use Rattle.mps_text.specs.declared.stages.Stage.{Stage}
use Rattle.mps_text.specs.declared.stages.Stage.TheVariants.{Start, Named, Rows, Columns, Rights, Limits, Ended}
use Rattle.text_lines.specs.Lines.{fields_of, is_indented}
use Rattle.mps_text.specs.Skipped.{is_skipped}
use Rattle.mps_text.specs.Meaning.{Reading, Judged, first_reading, follows, is_columns, is_ended, is_bounded, heading, section_line, line_of, lines_read, goes_on}
use Rattle.mps_text.proofs.WrittenNumbers.{both}
use Rattle.mps_text.proofs.Rules.{apart_none}
use Rattle.mps_text.proofs.Steps.{heading_taken, ok_same}
use Rattle.mps_text.proofs.SoundParts.{IsSound, is_behind_rows}
use Rattle.mps_text.proofs.SoundLines.{bounds_sound, columns_sound, rights_sound, rows_sound}

-- headings

later_follows : (old new : Stage) → follows old new ≡ true → is_behind_rows new ≡ true → is_columns new ≡ false → is_behind_rows old ≡ true
later_follows Start Start f b c = absurd (cc)
later_follows Start Named f b c = absurd (cc)
later_follows Start Rows f b c = absurd (cc)
later_follows Start Columns f b c = absurd (cc)
later_follows Start Rights f b c = absurd (cc)
later_follows Start Limits f b c = absurd (cc)
later_follows Start Ended f b c = absurd (cc)
later_follows Named Start f b c = absurd (cc)
later_follows Named Named f b c = absurd (cc)
later_follows Named Rows f b c = absurd (cc)
later_follows Named Columns f b c = absurd (cc)
later_follows Named Rights f b c = absurd (cc)
later_follows Named Limits f b c = absurd (cc)
later_follows Named Ended f b c = absurd (cc)
later_follows Rows Start f b c = absurd (cc)
later_follows Rows Named f b c = absurd (cc)
later_follows Rows Rows f b c = absurd (cc)
later_follows Rows Columns f b c = absurd (cc)
later_follows Rows Rights f b c = absurd (cc)
later_follows Rows Limits f b c = absurd (cc)
later_follows Rows Ended f b c = absurd (cc)
later_follows Columns new f b c = refl
later_follows Rights new f b c = refl
later_follows Limits new f b c = refl
later_follows Ended new f b c = refl

before_follows : (old new : Stage) → follows old new ≡ true → is_behind_rows new ≡ false → is_behind_rows old ≡ false
before_follows Start new f b = refl
before_follows Named new f b = refl
before_follows Rows new f b = refl
before_follows old Columns f b = absurd (cc)
before_follows old Rights f b = absurd (cc)
before_follows old Limits f b = absurd (cc)
before_follows old Ended f b = absurd (cc)
before_follows Columns Start f b = absurd (cc)
before_follows Columns Named f b = absurd (cc)
before_follows Columns Rows f b = absurd (cc)
before_follows Rights Start f b = absurd (cc)
before_follows Rights Named f b = absurd (cc)
before_follows Rights Rows f b = absurd (cc)
before_follows Limits Start f b = absurd (cc)
before_follows Limits Named f b = absurd (cc)
before_follows Limits Rows f b = absurd (cc)
before_follows Ended Start f b = absurd (cc)
before_follows Ended Named f b = absurd (cc)
before_follows Ended Rows f b = absurd (cc)

objective_stays : (old new : Stage) (none columns : Bool) → is_columns new ≡ columns → follows old new ≡ true → not (columns && none) ≡ true → (is_behind_rows old ≡ true → none ≡ false) → is_behind_rows new ≡ true → none ≡ false
objective_stays old new true true c f h was b = absurd (cc)
objective_stays old new false true c f h was b = refl
objective_stays old new none false c f h was b = was (later_follows old new f b c)

ends_bounded : (ended bounded : Bool) → (not ended || bounded) ≡ true → ended ≡ true → bounded ≡ true
ends_bounded true bounded h e = h
ends_bounded false bounded h e = absurd (cc)

pub heading_sound : (r : Reading) (fields : List (List ℕ)) (s : Reading) → IsSound r → heading r fields ≡ Ok s → IsSound s
heading_sound r fields s h taken =
    let v = heading_taken r fields s taken in
    let parts = both (follows r.stage v.stage) (not (is_columns v.stage && is_none r.objective)) v.follows in
    subst IsSound v.after (record {
      names = h.names;
      apart = h.apart;
      rights = h.rights;
      columns = h.columns;
      columns_apart = h.columns_apart;
      objective = objective_stays r.stage v.stage (is_none r.objective) (is_columns v.stage) refl parts.0 parts.1 h.objective;
      ended = ends_bounded (is_ended v.stage) (list_all is_bounded r.columns) v.bounded;
      none = (λ b. h.none (before_follows r.stage v.stage parts.0 b));
    })

-- any line

section_sound : (stage : Stage) (r : Reading) (fields : List (List ℕ)) (s : Reading) → r.stage ≡ stage → IsSound r → section_line stage r fields ≡ Ok s → IsSound s
section_sound Start r fields s at h taken = absurd (cc)
section_sound Named r fields s at h taken = absurd (cc)
section_sound Rows r fields s at h taken = rows_sound r fields s h taken
section_sound Columns r fields s at h taken = columns_sound r fields s h at taken
section_sound Rights r fields s at h taken = rights_sound r fields s h taken
section_sound Limits r fields s at h taken = bounds_sound r fields s h at taken
section_sound Ended r fields s at h taken = absurd (cc)

pub line_sound : (r : Reading) (line : List ℕ) (s : Reading) → IsSound r → line_of r line ≡ Ok s → IsSound s
line_sound r line s h taken = by (is_skipped line) (is_indented line) taken
  where
    by : (a b : Bool) → (if a then Ok r else (if b then section_line r.stage r (fields_of line) else heading r (fields_of line))) ≡ Ok s → IsSound s
    by true b taken = subst IsSound (ok_same r s taken) h
    by false true taken = section_sound r.stage r (fields_of line) s refl h taken
    by false false taken = heading_sound r (fields_of line) s h taken

-- a line and those behind it
pub record AreRead (n : ℕ) (r : Reading) (line : List ℕ) (lines : List (List ℕ)) (s : Reading) : Type 0 where
  pub next : Reading
  pub taken : line_of r line ≡ Ok next
  pub rest : lines_read (n + 1) next lines ≡ Ok s

pub lines_taken : (n : ℕ) (r : Reading) (line : List ℕ) (lines : List (List ℕ)) (s : Reading) → lines_read n r (line ∷ lines) ≡ Ok s → AreRead n r line lines s
lines_taken n r line lines s h = by (line_of r line) refl h
  where
    by : (j : Judged) → line_of r line ≡ j → goes_on n j (λ next. lines_read (n + 1) next lines) ≡ Ok s → AreRead n r line lines s
    by (Ok next) e h = record { next = next; taken = e; rest = h }
    by (Err c) e h = absurd (cc)

pub record AreDone (r s : Reading) : Type 0 where
  pub ended : is_ended r.stage ≡ true
  pub same : r ≡ s

pub lines_done : (n : ℕ) (r s : Reading) → lines_read n r [] ≡ Ok s → AreDone r s
lines_done n r s h = by (is_ended r.stage) refl h
  where
    by : (b : Bool) → is_ended r.stage ≡ b → ◌≡◌ {A = Result Reading MpsFault} (if b then Ok r else Err (Bad n cause.Section)) (Ok s) → AreDone r s
    by true e h = record { ended = e; same = cc }
    by false e h = absurd (cc)

pub record IsSoundEnd (s : Reading) : Type 0 where
  pub ended : is_ended s.stage ≡ true
  pub sound : IsSound s

pub lines_sound : (n : ℕ) (r : Reading) (lines : List (List ℕ)) (s : Reading) → IsSound r → lines_read n r lines ≡ Ok s → IsSoundEnd s
lines_sound n r [] s h read =
    let done = lines_done n r s read in
    subst IsSoundEnd done.same (record { ended = done.ended; sound = h })
lines_sound n r (line ∷ lines) s h read =
    let first = lines_taken n r line lines s read in
    lines_sound (n + 1) first.next lines s (line_sound r line first.next h first.taken) first.rest

pub first_sound : IsSound first_reading
first_sound = record { names = tt; apart = apart_none; rights = tt; columns = tt; columns_apart = apart_none; objective = (λ b. absurd (cc)); ended = (λ e. absurd (cc)); none = (λ b. refl) }

-- Whole texts, followed line by line in one section.
use Rattle.std.proofs.Common.{◌≡◌, ℕ, ◌+◌, Bool, true, false, List, [], ◌∷◌, length, Some, None, Ok, inl, inr, refl, sym, ap, ◌∙◌}
use Rattle.std.specs.Prelude.{◌==◌, codes, bytes_eq, if◌then◌else◌, ◌⊎◌}
use Rattle.mps_text.specs.declared.stages.Stage.{Stage}
use Rattle.mps_text.specs.declared.stages.Stage.TheVariants.{Start, Named, Rows, Columns, Rights, Limits, Ended}
use Rattle.text_lines.specs.Lines.{fields_of, is_indented}
use Rattle.mps_text.specs.Skipped.{is_skipped}
use Rattle.mps_text.specs.Meaning.{Reading, word_alone, stage_in, heading, rows_line, columns_line, rights_line, bounds_line, section_line, lines_read}
use Rattle.mps_text.specs.Given.{first_word, lines_below}
use Rattle.mps_text.proofs.Steps.{same_bytes, ok_same, heading_taken, row_taken, columns_taken, IsObjective, IsNamedRow, IsMarkLine, AreValues}
use Rattle.mps_text.proofs.SideSteps.{rights_taken, bound_taken}
use Rattle.mps_text.proofs.SoundParts.{IsSound}
use Rattle.mps_text.proofs.Sound.{line_sound, lines_taken, lines_done}

-- the word of each heading
abbrev pub heading_word : Stage → List ℕ
heading_word Start = []
heading_word Named = codes "NAME"
heading_word Rows = codes "ROWS"
heading_word Columns = codes "COLUMNS"
heading_word Rights = codes "RHS"
heading_word Limits = codes "BOUNDS"
heading_word Ended = codes "ENDATA"

-- whether this word is the heading's
abbrev pub here : List ℕ → Stage → Bool
here word stage = bytes_eq (heading_word stage) word

some_stage : (a b : Stage) → Some a ≡ Some b → a ≡ b
some_stage a b h = cc

alone_is : (word : List ℕ) (stage : Stage) → word_alone word ≡ Some stage → word ≡ heading_word stage
alone_is word stage h = by (bytes_eq word (codes "ROWS")) (bytes_eq word (codes "COLUMNS")) (bytes_eq word (codes "RHS")) (bytes_eq word (codes "BOUNDS")) (bytes_eq word (codes "ENDATA")) refl refl refl refl refl h
  where
    by : (a b c d e : Bool) → bytes_eq word (codes "ROWS") ≡ a → bytes_eq word (codes "COLUMNS") ≡ b → bytes_eq word (codes "RHS") ≡ c → bytes_eq word (codes "BOUNDS") ≡ d → bytes_eq word (codes "ENDATA") ≡ e
        → (if a then Some Rows else (if b then Some Columns else (if c then Some Rights else (if d then Some Limits else (if e then Some Ended else None))))) ≡ Some stage → word ≡ heading_word stage
    by true b c d e v w x y z h = same_bytes word (codes "ROWS") v ∙ ap heading_word (some_stage Rows stage h)
    by false true c d e v w x y z h = same_bytes word (codes "COLUMNS") w ∙ ap heading_word (some_stage Columns stage h)
    by false false true d e v w x y z h = same_bytes word (codes "RHS") x ∙ ap heading_word (some_stage Rights stage h)
    by false false false true e v w x y z h = same_bytes word (codes "BOUNDS") y ∙ ap heading_word (some_stage Limits stage h)
    by false false false false true v w x y z h = same_bytes word (codes "ENDATA") z ∙ ap heading_word (some_stage Ended stage h)
    by false false false false false v w x y z h = absurd (cc)

word_is : (fields : List (List ℕ)) (stage : Stage) → stage_in fields ≡ Some stage → first_word fields ≡ heading_word stage
word_is [] stage h = absurd (cc)
word_is (word ∷ fields) stage h = by (bytes_eq word (codes "NAME")) refl h
  where
    alone : (b : Bool) → (if b then word_alone word else None) ≡ Some stage → word ≡ heading_word stage
    alone true h = alone_is word stage h
    alone false h = absurd (cc)

    by : (b : Bool) → bytes_eq word (codes "NAME") ≡ b → (if b then Some Named else (if length fields == 0 then word_alone word else None)) ≡ Some stage → word ≡ heading_word stage
    by true e h = same_bytes word (codes "NAME") e ∙ ap heading_word (some_stage Named stage h)
    by false e h = alone (length fields == 0) h

-- what the lines of a section add, one after the other
abbrev pub added : {V : Type 0} → (V → List (List ℕ) → V) → V → List (List (List ℕ)) → V
added add v [] = v
added add v (fields ∷ lines) = added add (add v fields) lines

-- something that is told of what is read, to which the lines of one section add, and no others
pub record IsFollowed {V : Type 0} (told : Reading → V) (add : V → List (List ℕ) → V) (word : List ℕ) : Type 0 where
  pub heading : (r : Reading) (stage : Stage) → told (record r { stage = stage }) ≡ told r
  pub rows : (r : Reading) (fields : List (List ℕ)) (s : Reading) → IsSound r → r.stage ≡ Rows → rows_line r fields ≡ Ok s → told s ≡ (if here word Rows then add (told r) fields else told r)
  pub columns : (r : Reading) (fields : List (List ℕ)) (s : Reading) → IsSound r → columns_line r fields ≡ Ok s → told s ≡ (if here word Columns then add (told r) fields else told r)
  pub rights : (r : Reading) (fields : List (List ℕ)) (s : Reading) → IsSound r → rights_line r fields ≡ Ok s → told s ≡ (if here word Rights then add (told r) fields else told r)
  pub bounds : (r : Reading) (fields : List (List ℕ)) (s : Reading) → IsSound r → bounds_line r fields ≡ Ok s → told s ≡ (if here word Limits then add (told r) fields else told r)

-- the stage stays in a section
rows_stay : (r : Reading) (fields : List (List ℕ)) (s : Reading) → rows_line r fields ≡ Ok s → s.stage ≡ r.stage
rows_stay r fields s h = by (row_taken r fields s h)
  where
    by : IsObjective r fields s ⊎ IsNamedRow r fields s → s.stage ≡ r.stage
    by (inl o) = ap (λ (z : Reading). z.stage) (sym o.after)
    by (inr o) = ap (λ (z : Reading). z.stage) (sym o.after)

columns_stay : (r : Reading) (fields : List (List ℕ)) (s : Reading) → columns_line r fields ≡ Ok s → s.stage ≡ r.stage
columns_stay r fields s h = by (columns_taken r fields s h)
  where
    by : IsMarkLine r fields s ⊎ AreValues r fields s → s.stage ≡ r.stage
    by (inl o) = ap (λ (z : Reading). z.stage) (sym o.after)
    by (inr o) = ap (λ (z : Reading). z.stage) (sym o.after)

section_stays : (stage : Stage) (r : Reading) (fields : List (List ℕ)) (s : Reading) → section_line stage r fields ≡ Ok s → s.stage ≡ r.stage
section_stays Start r fields s h = absurd (cc)
section_stays Named r fields s h = absurd (cc)
section_stays Rows r fields s h = rows_stay r fields s h
section_stays Columns r fields s h = columns_stay r fields s h
section_stays Rights r fields s h = let v = rights_taken r fields s h in ap (λ (z : Reading). z.stage) (sym v.after)
section_stays Limits r fields s h = let v = bound_taken r fields s h in ap (λ (z : Reading). z.stage) (sym v.after)
section_stays Ended r fields s h = absurd (cc)

section_adds : {V : Type 0} (told : Reading → V) (add : V → List (List ℕ) → V) (word : List ℕ) → IsFollowed told add word
    → (stage : Stage) (r : Reading) (fields : List (List ℕ)) (s : Reading) → r.stage ≡ stage → IsSound r → section_line stage r fields ≡ Ok s → told s ≡ (if here word stage then add (told r) fields else told r)
section_adds told add word f Start r fields s at h taken = absurd (cc)
section_adds told add word f Named r fields s at h taken = absurd (cc)
section_adds told add word f Rows r fields s at h taken = f.rows r fields s h at taken
section_adds told add word f Columns r fields s at h taken = f.columns r fields s h taken
section_adds told add word f Rights r fields s at h taken = f.rights r fields s h taken
section_adds told add word f Limits r fields s at h taken = f.bounds r fields s h taken
section_adds told add word f Ended r fields s at h taken = absurd (cc)

pub follow : {V : Type 0} (told : Reading → V) (add : V → List (List ℕ) → V) (word : List ℕ) → IsFollowed told add word
    → (n : ℕ) (r : Reading) (lines : List (List ℕ)) (s : Reading) → IsSound r → lines_read n r lines ≡ Ok s → told s ≡ added add (told r) (lines_below word (here word r.stage) lines)
follow told add word f n r [] s h read = let done = lines_done n r s read in ap told (sym done.same)
follow {V} told add word f n r (line ∷ lines) s h read =
    let first = lines_taken n r line lines s read in
    by first.next (is_skipped line) (is_indented line) first.taken (follow told add word f (n + 1) first.next lines s (line_sound r line first.next h first.taken) first.rest)
  where
    fields : List (List ℕ)
    fields = fields_of line

    inside : (next : Reading) (b : Bool) → told next ≡ (if b then add (told r) fields else told r) → told s ≡ added add (told next) (lines_below word b lines) → told s ≡ added add (told r) (if b then fields ∷ lines_below word b lines else lines_below word b lines)
    inside next true one rest = rest ∙ ap (λ (v : V). added add v (lines_below word true lines)) one
    inside next false one rest = rest ∙ ap (λ (v : V). added add v (lines_below word false lines)) one

    by : (next : Reading) (a b : Bool) → (if a then Ok r else (if b then section_line r.stage r fields else heading r fields)) ≡ Ok next → told s ≡ added add (told next) (lines_below word (here word next.stage) lines)
        → told s ≡ added add (told r) (if a then lines_below word (here word r.stage) lines else (if b then (if here word r.stage then fields ∷ lines_below word (here word r.stage) lines else lines_below word (here word r.stage) lines) else lines_below word (bytes_eq (first_word fields) word) lines))
    by next true b taken rest = rest ∙ ap (λ (z : Reading). added add (told z) (lines_below word (here word z.stage) lines)) (sym (ok_same r next taken))
    by next false true taken rest =
        let one = section_adds told add word f r.stage r fields next refl h taken in
        inside next (here word r.stage) one (rest ∙ ap (λ (z : Stage). added add (told next) (lines_below word (here word z) lines)) (section_stays r.stage r fields next taken))
    by next false false taken rest =
        let v = heading_taken r fields next taken in
        let stage : next.stage ≡ v.stage = ap (λ (z : Reading). z.stage) (sym v.after) in
        let same : told next ≡ told r = ap told (sym v.after) ∙ f.heading r v.stage in
        let at : here word next.stage ≡ bytes_eq (first_word fields) word = ap (here word) stage ∙ ap (λ (z : List ℕ). bytes_eq z word) (sym (word_is fields v.stage v.named)) in
        rest ∙ (ap (λ (x : V). added add x (lines_below word (here word next.stage) lines)) same ∙ ap (λ (b : Bool). added add (told r) (lines_below word b lines)) at)
